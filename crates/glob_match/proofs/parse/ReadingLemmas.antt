-- How the loops that read a glob go on from one place to the next.
use Rattle.std.proofs.Common.{◌≡◌, ◌==◌, ◌+◌, ◌<◌, ◌≤◌, ◌-◌, ℕ, zero, suc, Bool, true, false, List, [], ◌∷◌, ◌++◌, length, get_or, take, drop, length-drop, Option, Some, None, arith, refl, sym, ap, ◌∙◌, append_assoc, drop-cons, add-one}
use Rattle.std.proofs.Math.ListN.{drop_of_length-le}
use Rattle.std.proofs.lemmas.List.{append-nil, take_all}
use Rattle.glob_match.specs.declared.piece.Symbol.{Symbol}
use Rattle.glob_match.specs.declared.piece.Symbol.TheVariants.{Plain, Escaped}
use Rattle.glob_match.specs.declared.piece.Token.{Token}
use Rattle.glob_match.specs.declared.piece.Found.{Found}
use Rattle.glob_match.specs.Reading.{before, escape, symbols_after, character_of, token_at, tokens_from}

-- what was read, before what is read of the rest, where there is such
abbrev pub onto : {A : Type 0} → List A → Option (List A) → Option (List A)
onto xs None = None
onto xs (Some ys) = Some (xs ++ ys)

pub onto_before : {A : Type 0} (xs : List A) (x : A) (o : Option (List A)) → onto xs (before x o) ≡ onto (xs ++ x ∷ []) o
onto_before xs x None = refl
onto_before xs x (Some ys) = ap Some (sym (append_assoc xs (x ∷ []) ys))

-- a text read to its end: what was read is all
pub onto_end : {A : Type 0} (xs : List A) → onto xs (Some []) ≡ Some xs
onto_end xs = ap Some (append-nil xs)

-- the element at a place, and what stands after it
pub drop_next : {A : Type 0} (xs : List A) (at : ℕ) (x d : A) → at < length xs → x ≡ get_or xs at d → drop at xs ≡ x ∷ drop (at + 1) xs
drop_next xs at x d lt is = drop-cons xs at d lt ∙ rw (← is, add-one) refl

-- ---- symbols

pub plain_first : (c : ℕ) (text : List ℕ) → (c == 92) ≡ false → symbols_after false (c ∷ text) ≡ before (Plain c) (symbols_after false text)
plain_first c text other = rw (other, symbols_after) refl

backslash_first : (c : ℕ) (text : List ℕ) → (c == 92) ≡ true → symbols_after false (c ∷ text) ≡ symbols_after true text
backslash_first c text sign = rw (sign, symbols_after) refl

-- the loop over the characters so far: `escaped` after a backslash
abbrev pub SymbolsSoFar : List ℕ → List Symbol → Bool → ℕ → Type 0
SymbolsSoFar text symbols escaped at = symbols_after false text ≡ onto symbols (symbols_after escaped (drop at text))

-- a character after a backslash
pub symbols_escaped : (text : List ℕ) (symbols : List Symbol) (at c d : ℕ) → SymbolsSoFar text symbols true at → at < length text → c ≡ get_or text at d → SymbolsSoFar text (symbols ++ Escaped (escape c) ∷ []) false (at + 1)
symbols_escaped text symbols at c d so_far lt is =
    so_far ∙ ap (λ rest. onto symbols (symbols_after true rest)) (drop_next text at c d lt is) ∙ onto_before symbols (Escaped (escape c)) (symbols_after false (drop (at + 1) text))

-- a backslash
pub symbols_backslash : (text : List ℕ) (symbols : List Symbol) (at c d : ℕ) → SymbolsSoFar text symbols false at → at < length text → c ≡ get_or text at d → (c == 92) ≡ true → SymbolsSoFar text symbols true (at + 1)
symbols_backslash text symbols at c d so_far lt is sign =
    so_far ∙ ap (λ rest. onto symbols (symbols_after false rest)) (drop_next text at c d lt is) ∙ ap (onto symbols) (backslash_first c (drop (at + 1) text) sign)

-- any other character
pub symbols_plain : (text : List ℕ) (symbols : List Symbol) (at c d : ℕ) → SymbolsSoFar text symbols false at → at < length text → c ≡ get_or text at d → (c == 92) ≡ false → SymbolsSoFar text (symbols ++ Plain c ∷ []) false (at + 1)
symbols_plain text symbols at c d so_far lt is other =
    so_far ∙ ap (λ rest. onto symbols (symbols_after false rest)) (drop_next text at c d lt is) ∙ ap (onto symbols) (plain_first c (drop (at + 1) text) other)
    ∙ onto_before symbols (Plain c) (symbols_after false (drop (at + 1) text))

pub symbols_none : (text : List ℕ) (symbols : List Symbol) (at : ℕ) → SymbolsSoFar text symbols true at → length text ≤ at → symbols_after false text ≡ None
symbols_none text symbols at so_far all = so_far ∙ ap (λ rest. onto symbols (symbols_after true rest)) (drop_of_length-le text all)

pub symbols_all : (text : List ℕ) (symbols : List Symbol) (at : ℕ) → SymbolsSoFar text symbols false at → length text ≤ at → symbols_after false text ≡ Some symbols
symbols_all text symbols at so_far all = so_far ∙ ap (λ rest. onto symbols (symbols_after false rest)) (drop_of_length-le text all) ∙ onto_end symbols

-- ---- tokens

-- the loop over the symbols so far
abbrev pub TokensSoFar : List Symbol → List Token → Bool → List Symbol → Type 0
TokensSoFar symbols tokens starts rest = tokens_from 0 true symbols ≡ onto tokens (tokens_from 0 starts rest)

-- the symbols of a token passed at once
pub passed : (more : ℕ) (first : Symbol) (text : List Symbol) (d : Symbol) → more ≤ length text
    → tokens_from more (character_of first == 47) text ≡ tokens_from 0 (character_of (get_or (first ∷ text) more d) == 47) (drop more text)
passed zero first text d le = refl
passed (suc more) first [] d le = absurd (omega arith)
passed (suc more) first (next ∷ text) d le = passed more next text d (omega arith)

-- a token first
pub token_first : (starts : Bool) (first : Symbol) (text : List Symbol) (one : Found) → token_at starts first text ≡ Some one
    → tokens_from 0 starts (first ∷ text) ≡ before one.token (tokens_from one.more (character_of first == 47) text)
token_first starts first text one is = rw (is, tokens_from) refl

-- no token first
pub no_token_first : (starts : Bool) (first : Symbol) (text : List Symbol) → token_at starts first text ≡ None → tokens_from 0 starts (first ∷ text) ≡ None
no_token_first starts first text is = rw (is, tokens_from) refl

-- a token passed at once, from the whole text
pub after_passed : (text : List Symbol) (more : ℕ) (d : Symbol) (character : ℕ) → more < length text → character ≡ character_of (get_or text more d) → (first : Symbol) (others : List Symbol) → text ≡ first ∷ others
    → tokens_from more (character_of first == 47) others ≡ tokens_from 0 (character == 47) (take (length text - (more + 1)) (drop (more + 1) text))
after_passed text more d character lt last first others is =
    let within : more ≤ length others = omega (arith, ap length is) in
    let left : drop (more + 1) text ≡ drop more others = rw (is, add-one) refl in
    let all : take (length text - (more + 1)) (drop more others) ≡ drop more others = take_all _ _ (omega (arith, ap length is, length-drop more others)) in
    rw (left, all, last, is) (passed more first others d within)

-- ---- how many there are

-- what was read is at most so long, where it was read
abbrev pub IsAtMost : {A : Type 0} → ℕ → Option (List A) → Type 0
IsAtMost n None = Unit {0}
IsAtMost n (Some xs) = length xs ≤ n

at_most_before : {A : Type 0} (n m : ℕ) (x : A) (read : Option (List A)) → n + 1 ≤ m → IsAtMost n read → IsAtMost m (before x read)
at_most_before n m x None room h = tt
at_most_before n m x (Some xs) room h = omega arith

at_most_more : {A : Type 0} (n m : ℕ) (read : Option (List A)) → n ≤ m → IsAtMost n read → IsAtMost m read
at_most_more n m None more h = tt
at_most_more n m (Some xs) more h = omega arith

-- each symbol is of at least one character
pub symbols_at_most : (escaped : Bool) (text : List ℕ) → IsAtMost (length text) (symbols_after escaped text)
symbols_at_most true [] = tt
symbols_at_most true (c ∷ text) = at_most_before (length text) _ _ _ (omega arith) (symbols_at_most false text)
symbols_at_most false [] = omega arith
symbols_at_most false (c ∷ text) = elim (c == 92) as (λ b. IsAtMost (suc (length text)) (elim b [ true ↦ symbols_after true text | false ↦ before (Plain c) (symbols_after false text) ])) [
  | true ↦ at_most_more (length text) _ _ (omega arith) (symbols_at_most true text)
  | false ↦ at_most_before (length text) _ _ _ (omega arith) (symbols_at_most false text)
]

-- each token is of at least one symbol
pub tokens_at_most : (more : ℕ) (starts : Bool) (symbols : List Symbol) → IsAtMost (length symbols) (tokens_from more starts symbols)
tokens_at_most more starts [] = omega arith
tokens_at_most (suc more) starts (s ∷ text) = at_most_more (length text) _ _ (omega arith) (tokens_at_most more (character_of s == 47) text)
tokens_at_most zero starts (s ∷ text) = elim (token_at starts s text) as (λ one. IsAtMost (suc (length text)) (elim one [ None ↦ None | Some o ↦ before o.token (tokens_from o.more (character_of s == 47) text) ])) [
  | None ↦ tt
  | Some one ↦ at_most_before (length text) _ _ _ (omega arith) (tokens_at_most one.more (character_of s == 47) text)
]
