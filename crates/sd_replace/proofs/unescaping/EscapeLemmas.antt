-- Escapes: numbers that digits spell, and texts unescaped from left to right.
use Rattle.std.proofs.Common.{◌≡◌, ℕ, zero, suc, ◌+◌, ◌-◌, ◌*◌, ◌^◌, ◌<◌, ◌≤◌, Bool, true, false, cond, ◌&&◌, eqb, leb, ltb, List, [], ◌∷◌, ◌++◌, length, take, drop, length-drop, get_or, Option, Some, None, IfSome, refl, sym, subst, ap, ◌∙◌, arith, option_map, option_and_then, append_assoc, append-nil, add-one, lit≤}
use Rattle.std.proofs.Math.Utf8.{encode, encodes}
use Rattle.std.proofs.Math.Nat.{pow-suc}
use Rattle.std.proofs.lemmas.Bool.Decides.{nat_tests}
use Rattle.std.proofs.lemmas.List.{drop_more, drop-drop, drop_all, take_rest}
use Rattle.std.specs.List.{list_all}
use Rattle.std.specs.Char.{digit_value, is_digit}
use Rattle.std.specs.Option.{option_or}
use Rattle.std.specs.Str.Parse.{digits_value, digits_value_after}
use Rattle.sd_replace.specs.Unescaped.{number, character_of, read_as, lettered, spelled, three_octal, octal, is_octal_digit, escape_of, escape_at, read_at, width_of, character_in, characters_after, all_there, unescaped_characters}
use Rattle.sd_replace.specs.declared.unescaping.Escape.{Escape}

-- ---- numbers

pub number_on : (base : ℕ) (digits : List ℕ) (i d high next : ℕ) → i < length digits → next ≡ high * base + digit_value (get_or digits i d)
    → digits_value_after base high (drop i digits) ≡ digits_value base digits → digits_value_after base next (drop (i + 1) digits) ≡ digits_value base digits
number_on base digits i d high next h e known =
    ap (λ (n : ℕ). digits_value_after base n (drop (i + 1) digits)) e ∙ ap (digits_value_after base high) (sym (drop_more digits i d h)) ∙ known

cons_all : (p : ℕ → Bool) (digits : List ℕ) (i d : ℕ) → i < length digits → list_all p (drop i digits) ≡ (p (get_or digits i d) && list_all p (drop (i + 1) digits))
cons_all p digits i d h = ap (list_all p) (drop_more digits i d h)

pub digits_on : (p : ℕ → Bool) (digits : List ℕ) (i d : ℕ) → i < length digits → p (get_or digits i d) ≡ true
    → list_all p (drop i digits) ≡ list_all p digits → list_all p (drop (i + 1) digits) ≡ list_all p digits
digits_on p digits i d h e known = sym (cons_all p digits i d h ∙ ap (λ (b : Bool). b && list_all p (drop (i + 1) digits)) e) ∙ known

pub digits_off : (p : ℕ → Bool) (digits : List ℕ) (i d : ℕ) → i < length digits → p (get_or digits i d) ≡ false
    → list_all p (drop i digits) ≡ list_all p digits → list_all p digits ≡ false
digits_off p digits i d h e known = sym known ∙ cons_all p digits i d h ∙ ap (λ (b : Bool). b && list_all p (drop (i + 1) digits)) e

-- digits of a base of 16 at most keep a number small
times : (n r : ℕ) → r ≤ 16 → n * r ≤ n * 16
times zero r h = omega arith
times (suc n) r h = let rest = times n r h in let e : suc n * r ≡ r + n * r = grind arith in omega arith

pub stays_small : (n r d i : ℕ) → r ≤ 16 → d < r → n < 16 ^ i → n * r + d < 16 ^ (i + 1)
stays_small n r d i b h s =
    let t : n * r ≤ n * 16 = times n r b in
    let p : 16 ^ (i + 1) ≡ 16 ^ i * 16 = rw add-one (pow-suc 16 i) in
    omega arith

few : (i : ℕ) → i < 4 → 16 ^ i ≤ 4096
few zero h = lit≤ tt
few (suc zero) h = lit≤ tt
few (suc (suc zero)) h = lit≤ tt
few (suc (suc (suc zero))) h = lit≤ tt
few (suc (suc (suc (suc i)))) h = absurd (omega arith)

pub product_small : (n r i : ℕ) → r ≤ 16 → i < 4 → n < 16 ^ i → n * r < 65536
product_small n r i b f s = let t = times n r b in let k = few i f in omega arith

-- the number that was read to the end
pub number_read : (base : ℕ) (digits : List ℕ) (i high : ℕ) → length digits ≤ i → digits_value_after base high (drop i digits) ≡ digits_value base digits
    → list_all (λ d. is_digit d base) (drop i digits) ≡ list_all (λ d. is_digit d base) digits → Some high ≡ number base digits
number_read base digits i high end n d =
    let nothing : drop i digits ≡ [] = drop_all i digits end in
    let all : list_all (λ x. is_digit x base) digits ≡ true = sym d ∙ ap (list_all (λ x. is_digit x base)) nothing in
    let same : high ≡ digits_value base digits = sym (ap (digits_value_after base high) nothing) ∙ n in
    ap Some same ∙ sym (ap (λ (b : Bool). cond b (Some (digits_value base digits)) None) all)

pub number_unread : (base : ℕ) (digits : List ℕ) → list_all (λ d. is_digit d base) digits ≡ false → None ≡ number base digits
number_unread base digits e = sym (ap (λ (b : Bool). cond b (Some (digits_value base digits)) None) e)

-- ---- texts

-- a text behind bytes, if it is there
abbrev pub onto : List ℕ → Option (List ℕ) → Option (List ℕ)
onto written rest = option_map (λ (bytes : List ℕ). written ++ bytes) rest

-- the characters after n are those of the text without them
characters_skip : (n : ℕ) (text : List ℕ) → characters_after n text ≡ characters_after 0 (drop n text)
characters_skip zero text = refl
characters_skip (suc n) [] = refl
characters_skip (suc n) (c ∷ text) = characters_skip n text

-- one character, and then what is left
one_onto : (written : List ℕ) (c : ℕ) (rest : Option (List ℕ)) → onto written (option_map encodes (option_map (λ (cs : List ℕ). c ∷ cs) rest)) ≡ onto (written ++ encode c) (option_map encodes rest)
one_onto written c None = refl
one_onto written c (Some cs) = ap Some (sym (append_assoc written (encode c) (encodes cs)))

pub read_on : (characters behind : List ℕ) (at d next : ℕ) (read : Escape) (written after : List ℕ) → at < length characters → d ≡ get_or characters at d
    → behind ≡ drop (at + 1) characters → Some read ≡ read_at d behind → next ≡ at + (1 + read.width) → after ≡ written ++ encode read.character
    → onto written (unescaped_characters (drop at characters)) ≡ unescaped_characters characters → onto after (unescaped_characters (drop next characters)) ≡ unescaped_characters characters
read_on characters behind at d next read written after h f b r e a known =
    let t = drop (at + 1) characters in
    let c = get_or characters at d in
    let same : read_at c t ≡ Some read = ap (read_at c) (sym b) ∙ ap (λ (x : ℕ). read_at x behind) (sym f) ∙ sym r in
    let begun : unescaped_characters (drop at characters) ≡ option_map encodes (all_there (character_in (read_at c t) ∷ characters_after (width_of (read_at c t)) t)) =
    ap unescaped_characters (drop_more characters at d h) in
    let taken : option_map encodes (all_there (character_in (read_at c t) ∷ characters_after (width_of (read_at c t)) t))
    ≡ option_map encodes (option_map (λ (cs : List ℕ). read.character ∷ cs) (all_there (characters_after read.width t))) =
    ap (λ (o : Option Escape). option_map encodes (all_there (character_in o ∷ characters_after (width_of o) t))) same in
    let there : next ≡ (at + 1) + read.width = omega arith in
    let skipped : characters_after read.width t ≡ characters_after 0 (drop next characters) =
    characters_skip read.width t ∙ ap (characters_after 0) (drop-drop read.width (at + 1) characters ∙ ap (λ (k : ℕ). drop k characters) (sym there)) in
    ap (λ (w : List ℕ). onto w (unescaped_characters (drop next characters))) a
    ∙ ap (λ (l : List (Option ℕ)). onto (written ++ encode read.character) (option_map encodes (all_there l))) (sym skipped)
    ∙ sym (one_onto written read.character (all_there (characters_after read.width t)))
    ∙ ap (onto written) (sym taken) ∙ ap (onto written) (sym begun) ∙ known

-- an escape that isn't in the table
pub not_read : (characters behind : List ℕ) (at d : ℕ) (written : List ℕ) → at < length characters → d ≡ get_or characters at d → behind ≡ drop (at + 1) characters
    → None ≡ read_at d behind
    → onto written (unescaped_characters (drop at characters)) ≡ unescaped_characters characters → None ≡ unescaped_characters characters
not_read characters behind at d written h f b r known =
    let t = drop (at + 1) characters in
    let c = get_or characters at d in
    let same : read_at c t ≡ None = ap (read_at c) (sym b) ∙ ap (λ (x : ℕ). read_at x behind) (sym f) ∙ sym r in
    let begun : unescaped_characters (drop at characters) ≡ None =
    ap unescaped_characters (drop_more characters at d h) ∙ ap (λ (o : Option Escape). option_map encodes (all_there (character_in o ∷ characters_after (width_of o) t))) same in
    sym (sym known ∙ ap (onto written) begun)

-- all is written
pub all_read : (characters : List ℕ) (at : ℕ) (written : List ℕ) → length characters ≤ at
    → onto written (unescaped_characters (drop at characters)) ≡ unescaped_characters characters → Some written ≡ unescaped_characters characters
all_read characters at written end known =
    let nothing : drop at characters ≡ [] = drop_all at characters end in
    ap Some (sym (append-nil written)) ∙ sym (ap (λ (l : List ℕ). onto written (unescaped_characters l)) nothing) ∙ known

-- ---- an escape lies in its text

abbrev pub IsWithin : ℕ → Option Escape → Type 0
IsWithin n o = IfSome o (λ e. e.width ≤ n)

either : (n : ℕ) (b : Bool) (x y : Option Escape) → IsWithin n x → IsWithin n y → IsWithin n (cond b x y)
either n true x y p q = p
either n false x y p q = q

as_within : (n width : ℕ) (c : Option ℕ) → width ≤ n → IsWithin n (read_as width c)
as_within n width None h = tt
as_within n width (Some c) h = h

or_within : (n : ℕ) (a b : Option Escape) → IsWithin n a → IsWithin n b → IsWithin n (option_or a b)
or_within n None b p q = q
or_within n (Some e) b p q = p

spelled_within : (n width base count : ℕ) (text : List ℕ) → (count ≤ length text → width ≤ n) → IsWithin n (read_as width (spelled base count text))
spelled_within n width base count text h = by (leb count (length text)) refl
  where
    by : (b : Bool) → leb count (length text) ≡ b → IsWithin n (read_as width (cond b (option_and_then character_of (number base (take count text))) None))
    by true e = as_within n width (option_and_then character_of (number base (take count text))) (h (grind (arith, nat_tests)))
    by false e = tt

octal_within : (letter : ℕ) (text : List ℕ) → IsWithin (length text) (octal letter text)
octal_within letter text =
    or_within (length text) (three_octal letter text) (read_as 2 (spelled 8 2 text))
    (either (length text) (ltb 51 letter) None (read_as 3 (spelled 8 3 text)) tt (spelled_within (length text) 3 8 3 text (λ h. h)))
    (spelled_within (length text) 2 8 2 text (λ h. h))

escape_of_within : (letter : ℕ) (text : List ℕ) → 0 < length text → IsWithin (length text) (escape_of letter text)
escape_of_within letter text some =
    let n = length text in
    let least : (k : ℕ) → k ≤ length (drop 1 text) → k + 1 ≤ n = λ (k : ℕ) (h : k ≤ length (drop 1 text)). omega (arith, length-drop 1 text) in
    either n (eqb letter 117) (read_as 5 (spelled 16 4 (drop 1 text))) _ (spelled_within n 5 16 4 (drop 1 text) (least 4))
    (either n (eqb letter 120) (read_as 3 (spelled 16 2 (drop 1 text))) _ (spelled_within n 3 16 2 (drop 1 text) (least 2))
    (either n (is_octal_digit letter) (octal letter text) (read_as 1 (lettered letter)) (octal_within letter text) (as_within n 1 (lettered letter) some)))

escape_at_within : (text : List ℕ) → IsWithin (length text) (escape_at text)
escape_at_within [] = tt
escape_at_within (letter ∷ text) = escape_of_within letter (letter ∷ text) (omega arith)

read_within : (first : ℕ) (text : List ℕ) (read : Escape) → Some read ≡ read_at first text → read.width ≤ length text
read_within first text read e =
    subst (IsWithin (length text)) (sym e) (either (length text) (eqb first 92) (escape_at text) (Some (record { character = first; width = 0 })) (escape_at_within text) (omega arith))

-- what is read ends within the text
pub read_fits : (text : List ℕ) (at first : ℕ) (read : Escape) → at < length text → Some read ≡ read_at first (take (length text - (at + 1)) (drop (at + 1) text))
    → at + (1 + read.width) ≤ length text
read_fits text at first read h e =
    let same : take (length text - (at + 1)) (drop (at + 1) text) ≡ drop (at + 1) text = take_rest text (at + 1) in
    let within : read.width ≤ length (drop (at + 1) text) = read_within first (drop (at + 1) text) read (e ∙ ap (read_at first) same) in
    omega (arith, length-drop (at + 1) text)
