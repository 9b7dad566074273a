-- Whether a glob is valid, symbol by symbol and character by character.
use Rattle.std.proofs.Common.{◌≡◌, ◌≢◌, ◌↔◌, ◌⊎◌, inl, inr, ◌==◌, ◌+◌, ◌-◌, ◌*◌, ◌<◌, ◌≤◌, ◌||◌, ◌&&◌, ◌++◌, ℕ, zero, suc, Bool, true, false, not, List, [], ◌∷◌, length, get_or, drop, Option, Some, None, IsSome, ltb, cond, if◌then◌else◌, arith, refl, sym, ap, subst, ◌∙◌, add-one, length-drop, drop-cons, append_assoc, lt-ltb}
use Rattle.std.proofs.lemmas.Bool.{ne_eqb, eqb-true, cases_eq}
use Rattle.std.specs.List.{position, position_from}
use Rattle.std.proofs.lemmas.Iterator.Adapters.{position_from-zero}
use Rattle.glob_match.specs.declared.piece.Symbol.{Symbol}
use Rattle.glob_match.specs.declared.piece.Symbol.TheVariants.{Plain, Escaped}
use Rattle.glob_match.specs.declared.piece.Piece.{Piece}
use Rattle.glob_match.specs.declared.piece.Piece.TheVariants.{One, AnyRun, AnyDepth}
use Rattle.glob_match.specs.declared.piece.Single.TheVariants.{Character, AnyCharacter}
use Rattle.glob_match.specs.declared.piece.Token.{Token}
use Rattle.glob_match.specs.declared.piece.Token.TheVariants as token
use Rattle.glob_match.specs.declared.piece.Found.{Found}
use Rattle.glob_match.specs.declared.validity.Spot.{Spot}
use Rattle.glob_match.specs.declared.validity.Spot.TheVariants.{Text, ClassStart, ClassFirst, ClassRest}
use Rattle.glob_match.specs.declared.validity.Reader.{Reader}
use Rattle.glob_match.specs.declared.validity.Cursor.{Cursor}
use Rattle.std.specs.Option.{option_and_then}
use Rattle.std.proofs.lemmas.List.{append-nil}
use Rattle.glob_match.specs.Reading.{before, escape, symbols_after, negations, is_sign, character_of, found, class_of, class_body, class_at, star_tails, star_before, star_at, token_at, tokens_from, pieces_of_symbols, pieces_of_tokens, pieces_of}
use Rattle.glob_match.specs.Validity.{after_at, after_symbol, ends_at, is_end, no_longer_escaped, after_character_at, after_character, may_end}
use Rattle.glob_match.proofs.parse.ReadingLemmas.{plain_first, passed, token_first, no_token_first}
use Rattle.glob_match.proofs.parse.NestingLemmas.{nests, nests_by, nests_end}

-- ---- the test on symbols

-- whether the symbols left are valid from this spot, within so many open braces
abbrev pub valid_at : Spot → ℕ → List Symbol → Bool
valid_at spot depth [] = ends_at spot depth
valid_at spot depth (s ∷ text) = elim (after_at spot depth s) [ None ↦ false | Some reader ↦ valid_at reader.spot reader.depth text ]

-- the same after a symbol
abbrev pub valid_after : Option Reader → List Symbol → Bool
valid_after None text = false
valid_after (Some reader) text = valid_at reader.spot reader.depth text

pub valid_step : (spot : Spot) (depth : ℕ) (s : Symbol) (text : List Symbol) → valid_at spot depth (s ∷ text) ≡ valid_after (after_at spot depth s) text
valid_step spot depth s text = by (after_at spot depth s)
  where
    by : (o : Option Reader) → (elim o as (λ _. Bool) [ None ↦ false | Some reader ↦ valid_at reader.spot reader.depth text ]) ≡ valid_after o text
    by None = refl
    by (Some reader) = refl

-- ---- classes

rest_closed : (depth : ℕ) (s : Symbol) (text : List Symbol) → is_sign 93 s ≡ true → valid_at ClassRest depth (s ∷ text) ≡ valid_at Text depth text
rest_closed depth s text e = valid_step ClassRest depth s text ∙ rw e refl

rest_goes_on : (depth : ℕ) (s : Symbol) (text : List Symbol) → is_sign 93 s ≡ false → valid_at ClassRest depth (s ∷ text) ≡ valid_at ClassRest depth text
rest_goes_on depth s text e = valid_step ClassRest depth s text ∙ rw e refl

-- where the first `]` stands, counted from i, the class ends; with none it isn't closed
abbrev pub RestPasses : ℕ → List Symbol → ℕ → Option ℕ → Type 0
RestPasses depth text i None = valid_at ClassRest depth text ≡ false
RestPasses depth text i (Some n) = (k : ℕ) × (n ≡ i + k) × (k < length text) × (valid_at ClassRest depth text ≡ valid_at Text depth (drop (suc k) text))

rest_later : (depth : ℕ) (s : Symbol) (text : List Symbol) (i : ℕ) (o : Option ℕ) → is_sign 93 s ≡ false → RestPasses depth text (i + 1) o → RestPasses depth (s ∷ text) i o
rest_later depth s text i None e h = rest_goes_on depth s text e ∙ h
rest_later depth s text i (Some n) e h = (suc h.0, omega (arith, h.1), omega (arith, h.2), rest_goes_on depth s text e ∙ h.3)

rest_passes : (depth : ℕ) (text : List Symbol) (i : ℕ) → RestPasses depth text i (position_from (is_sign 93) i text)
rest_passes depth [] i = refl
rest_passes depth (s ∷ text) i = by (is_sign 93 s) refl (rest_passes depth text (i + 1))
  where
    by : (b : Bool) → is_sign 93 s ≡ b → RestPasses depth text (i + 1) (position_from (is_sign 93) (i + 1) text) → RestPasses depth (s ∷ text) i (cond b (Some i) (position_from (is_sign 93) (i + 1) text))
    by true e later = (0, omega arith, omega arith, rest_closed depth s text e)
    by false e later = rest_later depth s text i (position_from (is_sign 93) (i + 1) text) e later

rest_position : (depth : ℕ) (text : List Symbol) → RestPasses depth text 0 (position (is_sign 93) text)
rest_position depth text = subst (λ (o : Option ℕ). RestPasses depth text 0 o) (sym (position_from-zero (is_sign 93) text)) (rest_passes depth text 0)

-- a token that is none makes the text invalid; one of a piece passes its symbols
abbrev pub Passes : ℕ → Bool → List Symbol → Option Found → Type 0
Passes depth valid text None = valid ≡ false
Passes depth valid text (Some one) = (p : Piece) × (one.token ≡ token.Piece p) × (one.more ≤ length text) × (valid ≡ valid_at Text depth (drop one.more text))

plain_class : (first : Symbol) (others : List Symbol) (depth : ℕ) (o : Option ℕ) → RestPasses depth others 0 o → Passes depth (valid_at ClassRest depth others) (first ∷ others) (class_of false first others o)
plain_class first others depth None h = h
plain_class first others depth (Some n) h =
    let all : suc (suc h.0) ≡ n + 2 = omega (arith, h.1) in
    (_, refl, omega (arith, h.1, h.2), h.3 ∙ ap (λ (k : ℕ). valid_at Text depth (drop k (first ∷ others))) all)

negated_class : (sign first : Symbol) (others : List Symbol) (depth : ℕ) (o : Option ℕ) → RestPasses depth others 0 o → Passes depth (valid_at ClassRest depth others) (sign ∷ first ∷ others) (class_of true first others o)
negated_class sign first others depth None h = h
negated_class sign first others depth (Some n) h =
    let all : suc (suc (suc h.0)) ≡ n + 3 = omega (arith, h.1) in
    (_, refl, omega (arith, h.1, h.2), h.3 ∙ ap (λ (k : ℕ). valid_at Text depth (drop k (sign ∷ first ∷ others))) all)

start_negated : (depth : ℕ) (s : Symbol) (text : List Symbol) → (is_sign 94 s || is_sign 33 s) ≡ true → valid_at ClassStart depth (s ∷ text) ≡ valid_at ClassFirst depth text
start_negated depth s text e = valid_step ClassStart depth s text ∙ rw e refl

start_member : (depth : ℕ) (s : Symbol) (text : List Symbol) → (is_sign 94 s || is_sign 33 s) ≡ false → valid_at ClassStart depth (s ∷ text) ≡ valid_at ClassRest depth text
start_member depth s text e = valid_step ClassStart depth s text ∙ rw e refl

class_negated : (s : Symbol) (text : List Symbol) → (is_sign 94 s || is_sign 33 s) ≡ true → class_at (s ∷ text) ≡ class_body true text
class_negated s text e = rw (e, class_at) refl

class_plain : (s : Symbol) (text : List Symbol) → (is_sign 94 s || is_sign 33 s) ≡ false → class_at (s ∷ text) ≡ class_body false (s ∷ text)
class_plain s text e = rw (e, class_at) refl

body_negated : (s : Symbol) (text : List Symbol) (depth : ℕ) → Passes depth (valid_at ClassFirst depth text) (s ∷ text) (class_body true text)
body_negated s [] depth = refl
body_negated s (first ∷ others) depth = negated_class s first others depth (position (is_sign 93) others) (rest_position depth others)

class_passes : (text : List Symbol) (depth : ℕ) → Passes depth (valid_at ClassStart depth text) text (class_at text)
class_passes [] depth = refl
class_passes (s ∷ text) depth = by (is_sign 94 s || is_sign 33 s) refl
  where
    by : (b : Bool) → (is_sign 94 s || is_sign 33 s) ≡ b → Passes depth (valid_at ClassStart depth (s ∷ text)) (s ∷ text) (class_at (s ∷ text))
    by true e =
        let there = subst (λ (v : Bool). Passes depth v (s ∷ text) (class_body true text)) (sym (start_negated depth s text e)) (body_negated s text depth) in
        subst (λ (o : Option Found). Passes depth (valid_at ClassStart depth (s ∷ text)) (s ∷ text) o) (sym (class_negated s text e)) there
    by false e =
        let there = subst (λ (v : Bool). Passes depth v (s ∷ text) (class_body false (s ∷ text))) (sym (start_member depth s text e)) (plain_class s text depth (position (is_sign 93) text) (rest_position depth text)) in
        subst (λ (o : Option Found). Passes depth (valid_at ClassStart depth (s ∷ text)) (s ∷ text) o) (sym (class_plain s text e)) there

-- ---- star tokens

sign_is : (sign : ℕ) (s : Symbol) → is_sign sign s ≡ true → s ≡ Plain sign
sign_is sign (Plain c) e = ap Plain (eqb-true c sign e)
sign_is sign (Escaped c) e = absurd (cc)

both_left : (x y : Bool) → (x && y) ≡ true → x ≡ true
both_left true y e = refl
both_left false y e = absurd (cc)

all_three : (x y z : Bool) → (x && y && z) ≡ true → (x ≡ true) × (y ≡ true) × (z ≡ true)
all_three true true true e = (refl, refl, refl)
all_three true true false e = absurd (cc)
all_three true false z e = absurd (cc)
all_three false y z e = absurd (cc)

-- `*` and `/` change nothing
star_or_slash : (depth : ℕ) (s : Symbol) (text : List Symbol) → (s ≡ Plain 42) ⊎ (s ≡ Plain 47) → valid_at Text depth (s ∷ text) ≡ valid_at Text depth text
star_or_slash depth s text h = elim h [
  | inl e ↦ subst (λ (x : Symbol). valid_at Text depth (x ∷ text) ≡ valid_at Text depth text) (sym e) refl
  | inr e ↦ subst (λ (x : Symbol). valid_at Text depth (x ∷ text) ≡ valid_at Text depth text) (sym e) refl
]

tails_more : (a b c : Symbol) (text : List Symbol) → (is_sign 47 a && is_sign 42 b && is_sign 42 c) ≡ true → star_tails (a ∷ b ∷ c ∷ text) ≡ suc (star_tails text)
tails_more a b c text e = rw (e, star_tails) refl

tails_none : (a b c : Symbol) (text : List Symbol) → (is_sign 47 a && is_sign 42 b && is_sign 42 c) ≡ false → star_tails (a ∷ b ∷ c ∷ text) ≡ 0
tails_none a b c text e = rw (e, star_tails) refl

abbrev pub TailsPass : ℕ → List Symbol → ℕ → Type 0
TailsPass depth text tails = (valid_at Text depth text ≡ valid_at Text depth (drop (3 * tails) text)) × (3 * tails ≤ length text)

tails_pass : (depth : ℕ) (text : List Symbol) → TailsPass depth text (star_tails text)
tails_pass depth [] = (refl, omega arith)
tails_pass depth (a ∷ []) = (refl, omega arith)
tails_pass depth (a ∷ b ∷ []) = (refl, omega arith)
tails_pass depth (a ∷ b ∷ c ∷ text) = by (is_sign 47 a && is_sign 42 b && is_sign 42 c) refl (tails_pass depth text)
  where
    by : (t : Bool) → (is_sign 47 a && is_sign 42 b && is_sign 42 c) ≡ t → TailsPass depth text (star_tails text) → TailsPass depth (a ∷ b ∷ c ∷ text) (star_tails (a ∷ b ∷ c ∷ text))
    by true e later =
        let signs = all_three (is_sign 47 a) (is_sign 42 b) (is_sign 42 c) e in
        let three : suc (suc (suc (3 * star_tails text))) ≡ 3 * suc (star_tails text) = omega arith in
        let passed_three = star_or_slash depth a (b ∷ c ∷ text) (inr (sign_is 47 a signs.0)) ∙ star_or_slash depth b (c ∷ text) (inl (sign_is 42 b signs.1)) ∙ star_or_slash depth c text (inl (sign_is 42 c signs.2)) in
        let there : TailsPass depth (a ∷ b ∷ c ∷ text) (suc (star_tails text)) = (passed_three ∙ later.0 ∙ ap (λ (k : ℕ). valid_at Text depth (drop k (a ∷ b ∷ c ∷ text))) three, omega (arith, later.1)) in
        subst (λ (n : ℕ). TailsPass depth (a ∷ b ∷ c ∷ text) n) (sym (tails_more a b c text e)) there
    by false e later = subst (λ (n : ℕ). TailsPass depth (a ∷ b ∷ c ∷ text) n) (sym (tails_none a b c text e)) (refl, omega arith)

-- what a star token is by what stands after it
before_passes : (depth : ℕ) (starts : Bool) (tails : ℕ) (second : Symbol) (after rest : List Symbol) → second ≡ Plain 42 → TailsPass depth after tails → drop (3 * tails) after ≡ rest
    → Passes depth (valid_at Text depth (second ∷ after)) (second ∷ after) (star_before starts tails rest)
before_passes depth starts tails second after [] star pass is =
    let all : drop (3 * tails + 1) (second ∷ after) ≡ drop (3 * tails) after = rw add-one refl in
    (_, refl, omega (arith, pass.1), star_or_slash depth second after (inl star) ∙ pass.0 ∙ ap (valid_at Text depth) (sym all))
before_passes depth starts tails second after (s ∷ text) star pass is = by (is_sign 47 s && (starts || not (tails == 0))) refl
  where
    by : (b : Bool) → (is_sign 47 s && (starts || not (tails == 0))) ≡ b → Passes depth (valid_at Text depth (second ∷ after)) (second ∷ after) (if b then found AnyDepth (3 * tails + 2) else found AnyRun (3 * tails + 1))
    by true e =
        let within : 3 * tails < length after = omega (arith, length-drop (3 * tails) after, ap length is) in
        let split = drop-cons after (3 * tails) s within in
        let left : text ≡ drop (suc (3 * tails)) after = cc in
        let two : suc (suc (3 * tails)) ≡ 3 * tails + 2 = omega arith in
        let slash = star_or_slash depth s text (inr (sign_is 47 s (both_left (is_sign 47 s) (starts || not (tails == 0)) e))) in
        (_, refl, omega arith, star_or_slash depth second after (inl star) ∙ pass.0 ∙ ap (valid_at Text depth) is ∙ slash ∙ ap (valid_at Text depth) left ∙ ap (λ (k : ℕ). valid_at Text depth (drop k (second ∷ after))) two)
    by false e =
        let all : drop (3 * tails + 1) (second ∷ after) ≡ drop (3 * tails) after = rw add-one refl in
        (_, refl, omega (arith, pass.1), star_or_slash depth second after (inl star) ∙ pass.0 ∙ ap (valid_at Text depth) (sym all))

star_passes : (depth : ℕ) (starts : Bool) (text : List Symbol) → Passes depth (valid_at Text depth text) text (star_at starts text)
star_passes depth starts [] = (_, refl, omega arith, refl)
star_passes depth starts (second ∷ after) = by (is_sign 42 second) refl
  where
    by : (b : Bool) → is_sign 42 second ≡ b → Passes depth (valid_at Text depth (second ∷ after)) (second ∷ after) (if b then star_before starts (star_tails after) (drop (3 * star_tails after) after) else found AnyRun 0)
    by true e = before_passes depth starts (star_tails after) second after (drop (3 * star_tails after) after) (sign_is 42 second e) (tails_pass depth after) refl
    by false e = (_, refl, omega arith, refl)

-- ---- tokens

-- whether the tokens nest well, where there are tokens
abbrev pub nests_of : ℕ → Option (List Token) → Bool
nests_of depth None = false
nests_of depth (Some tokens) = nests depth tokens

nests_piece : (depth : ℕ) (p : Piece) (o : Option (List Token)) → nests_of depth (before (token.Piece p) o) ≡ nests_of depth o
nests_piece depth p None = refl
nests_piece zero p (Some tokens) = refl
nests_piece (suc depth) p (Some tokens) = refl

nests_comma : (depth : ℕ) (o : Option (List Token)) → nests_of depth (before token.Comma o) ≡ nests_of depth o
nests_comma depth None = refl
nests_comma zero (Some tokens) = refl
nests_comma (suc depth) (Some tokens) = refl

nests_open : (depth : ℕ) (o : Option (List Token)) → depth < 10 → nests_of depth (before token.Open o) ≡ nests_of (suc depth) o
nests_open depth None lt = refl
nests_open zero (Some tokens) lt = refl
nests_open (suc depth) (Some tokens) lt = let e : (suc depth == 10) ≡ false = ne_eqb (suc depth) 10 (λ h. absurd (omega arith)) in rw (e, nests) refl

nests_full : (depth : ℕ) (o : Option (List Token)) → depth ≡ 10 → nests_of depth (before token.Open o) ≡ false
nests_full depth None ten = refl
nests_full depth (Some tokens) ten = rw ten refl

nests_close : (depth : ℕ) (o : Option (List Token)) → nests_of depth (before token.Close o) ≡ nests_of (depth - 1) o
nests_close depth None = refl
nests_close zero (Some tokens) = refl
nests_close (suc depth) (Some tokens) = let e : suc depth - 1 ≡ depth = omega arith in rw e refl

-- what the shorter texts are known to be
abbrev pub IsKnownBelow : ℕ → Type 0
IsKnownBelow n = (depth : ℕ) (starts : Bool) (text : List Symbol) → length text ≤ n → depth ≤ 10 → valid_at Text depth text ≡ nests_of depth (tokens_from 0 starts text)

passes_token : (n depth : ℕ) (starts : Bool) (s : Symbol) (text : List Symbol) (valid : Bool) (o : Option Found) → IsKnownBelow n → length text ≤ n → depth ≤ 10 → token_at starts s text ≡ o → Passes depth valid text o
    → valid ≡ nests_of depth (tokens_from 0 starts (s ∷ text))
passes_token n depth starts s text valid None known le ten is pass = pass ∙ sym (ap (nests_of depth) (no_token_first starts s text is))
passes_token n depth starts s text valid (Some one) known le ten is pass =
    let next : Bool = character_of (get_or (s ∷ text) one.more s) == 47 in
    let left = drop one.more text in
    let shorter : length left ≤ n = omega (arith, length-drop one.more text) in
    let tokens : tokens_from 0 starts (s ∷ text) ≡ before (token.Piece pass.0) (tokens_from 0 next left) =
    token_first starts s text one is ∙ ap (λ (t : Token). before t (tokens_from one.more (character_of s == 47) text)) pass.1 ∙ ap (before (token.Piece pass.0)) (passed one.more s text s pass.2) in
    pass.3 ∙ known depth next left shorter ten ∙ sym (nests_piece depth pass.0 (tokens_from 0 next left)) ∙ sym (ap (nests_of depth) tokens)

-- a token of one symbol
single_passes : (depth : ℕ) (text : List Symbol) (p : Piece) → Passes depth (valid_at Text depth text) text (found p 0)
single_passes depth text p = (p, refl, omega arith, refl)

-- a text of a first symbol is valid as its tokens are
abbrev pub IsRight : ℕ → Bool → Symbol → List Symbol → Type 0
IsRight depth starts s text = valid_at Text depth (s ∷ text) ≡ nests_of depth (tokens_from 0 starts (s ∷ text))

open_right : (n depth : ℕ) (starts : Bool) (text : List Symbol) → IsKnownBelow n → length text ≤ n → depth ≤ 10 → IsRight depth starts (Plain 123) text
open_right n depth starts text known le ten = elim (cases_eq depth 10) [
  | inl full ↦
      let stopped : ltb depth 10 ≡ false = rw full refl in
      valid_step Text depth (Plain 123) text ∙ rw stopped (sym (nests_full depth (tokens_from 0 (123 == 47) text) full))
  | inr other ↦
      let below : depth < 10 = omega arith in
      let goes_on : ltb depth 10 ≡ true = lt-ltb depth 10 below in
      let deeper : depth + 1 ≡ suc depth = omega arith in
      valid_step Text depth (Plain 123) text ∙ rw (goes_on, deeper) (known (suc depth) (123 == 47) text le (omega arith) ∙ sym (nests_open depth (tokens_from 0 (123 == 47) text) below))
]

other_right : (n depth : ℕ) (starts : Bool) (c : ℕ) (text : List Symbol) → IsKnownBelow n → length text ≤ n → depth ≤ 10 → c ≢ 91 → c ≢ 42 → c ≢ 63 → c ≢ 123 → c ≢ 44 → c ≢ 125 → IsRight depth starts (Plain c) text
other_right n depth starts c text known le ten o1 o2 o3 o4 o5 o6 =
    let e1 = ne_eqb c 91 o1 in
    let e2 = ne_eqb c 42 o2 in
    let e3 = ne_eqb c 63 o3 in
    let e4 = ne_eqb c 123 o4 in
    let e5 = ne_eqb c 44 o5 in
    let e6 = ne_eqb c 125 o6 in
    let is : token_at starts (Plain c) text ≡ found (One (Character c)) 0 = rw (e1, e2, e3, e4, e5, e6, token_at) refl in
    let step : valid_at Text depth (Plain c ∷ text) ≡ valid_at Text depth text = valid_step Text depth (Plain c) text ∙ rw (e1, e4, e6) refl in
    step ∙ passes_token n depth starts (Plain c) text (valid_at Text depth text) (found (One (Character c)) 0) known le ten is (single_passes depth text (One (Character c)))

plain_right : (n depth : ℕ) (starts : Bool) (c : ℕ) (text : List Symbol) → IsKnownBelow n → length text ≤ n → depth ≤ 10 → IsRight depth starts (Plain c) text
plain_right n depth starts c text known le ten =
    let literal : (k : ℕ) → c ≡ k → IsRight depth starts (Plain k) text → IsRight depth starts (Plain c) text = λ k same right. subst (λ (x : ℕ). IsRight depth starts (Plain x) text) (sym same) right in
    elim (cases_eq c 91) [
      | inl same ↦ literal 91 same (passes_token n depth starts (Plain 91) text (valid_at ClassStart depth text) (class_at text) known le ten refl (class_passes text depth))
      | inr o1 ↦ elim (cases_eq c 42) [
        | inl same ↦ literal 42 same (passes_token n depth starts (Plain 42) text (valid_at Text depth text) (star_at starts text) known le ten refl (star_passes depth starts text))
        | inr o2 ↦ elim (cases_eq c 63) [
          | inl same ↦ literal 63 same (passes_token n depth starts (Plain 63) text (valid_at Text depth text) (found (One AnyCharacter) 0) known le ten refl (single_passes depth text (One AnyCharacter)))
          | inr o3 ↦ elim (cases_eq c 123) [
            | inl same ↦ literal 123 same (open_right n depth starts text known le ten)
            | inr o4 ↦ elim (cases_eq c 44) [
              | inl same ↦ literal 44 same (known depth (44 == 47) text le ten ∙ sym (nests_comma depth (tokens_from 0 (44 == 47) text)))
              | inr o5 ↦ elim (cases_eq c 125) [
                | inl same ↦ literal 125 same (known (depth - 1) (125 == 47) text le (omega arith) ∙ sym (nests_close depth (tokens_from 0 (125 == 47) text)))
                | inr o6 ↦ other_right n depth starts c text known le ten o1 o2 o3 o4 o5 o6
              ]
            ]
          ]
        ]
      ]
    ]

-- the symbols are valid exactly where their tokens are pieces
text_right : (n : ℕ) → IsKnownBelow n
text_right n depth starts [] le ten = sym (nests_end depth)
text_right zero depth starts (s ∷ text) le ten = absurd (omega arith)
text_right (suc n) depth starts (Plain c ∷ text) le ten = plain_right n depth starts c text (λ d st t. text_right n d st t) (omega arith) ten
text_right (suc n) depth starts (Escaped c ∷ text) le ten =
    passes_token n depth starts (Escaped c) text (valid_at Text depth text) (found (One (Character c)) 0) (λ d st t. text_right n d st t) (omega arith) ten refl (single_passes depth text (One (Character c)))

-- ---- characters

-- whether the characters left are valid from this place, after a backslash or not
abbrev pub valid_symbols : Spot → ℕ → Option (List Symbol) → Bool
valid_symbols spot depth None = false
valid_symbols spot depth (Some symbols) = valid_at spot depth symbols

-- the same after a symbol, where an eleventh brace is none
abbrev pub valid_reader : Option Reader → Option (List Symbol) → Bool
valid_reader None o = false
valid_reader (Some reader) o = valid_symbols reader.spot reader.depth o

symbol_first : (spot : Spot) (depth : ℕ) (s : Symbol) (o : Option (List Symbol)) → valid_symbols spot depth (before s o) ≡ valid_reader (after_at spot depth s) o
symbol_first spot depth s None = by (after_at spot depth s)
  where
    by : (r : Option Reader) → false ≡ valid_reader r None
    by None = refl
    by (Some reader) = refl
symbol_first spot depth s (Some text) = valid_step spot depth s text ∙ by (after_at spot depth s)
  where
    by : (r : Option Reader) → valid_after r text ≡ valid_reader r (Some text)
    by None = refl
    by (Some reader) = refl

-- leading `!` change nothing
signs_valid : (glob : List ℕ) → valid_symbols Text 0 (symbols_after false glob) ≡ valid_symbols Text 0 (symbols_after false (drop (negations glob) glob))
signs_valid [] = refl
signs_valid (c ∷ glob) = elim (cases_eq c 33) [
  | inl same ↦ subst (λ (x : ℕ). valid_symbols Text 0 (symbols_after false (x ∷ glob)) ≡ valid_symbols Text 0 (symbols_after false (drop (negations (x ∷ glob)) (x ∷ glob)))) (sym same) (symbol_first Text 0 (Plain 33) (symbols_after false glob) ∙ signs_valid glob)
  | inr other ↦ let none : negations (c ∷ glob) ≡ 0 = rw (ne_eqb c 33 other, negations) refl in rw none refl
]

-- the characters are valid exactly where the glob has pieces
pub glob_valid_right : (glob : List ℕ) (b : Bool) → valid_symbols Text 0 (symbols_after false glob) ≡ b → (b ≡ true) ↔ IsSome (pieces_of glob)
glob_valid_right glob b is = by (symbols_after false (drop (negations glob) glob)) (sym (signs_valid glob) ∙ is)
  where
    by : (o : Option (List Symbol)) → valid_symbols Text 0 o ≡ b → (b ≡ true) ↔ IsSome (pieces_of_symbols o)
    by None e = ((λ t. absurd (cc)), (λ h. absurd (cc)))
    by (Some symbols) e = of_tokens (tokens_from 0 true symbols) (sym (text_right (length symbols) 0 true symbols (omega arith) (omega arith)) ∙ e)
      where
        of_tokens : (o : Option (List Token)) → nests_of 0 o ≡ b → (b ≡ true) ↔ IsSome (pieces_of_tokens o)
        of_tokens None e = ((λ t. absurd (cc)), (λ h. absurd (cc)))
        of_tokens (Some tokens) e = nests_by tokens b e

-- whether the characters left are valid from a place, where there is such
abbrev pub valid_cursor : Option Cursor → List ℕ → Bool
valid_cursor None text = false
valid_cursor (Some cursor) text = valid_symbols cursor.reader.spot cursor.reader.depth (symbols_after cursor.escaped text)

unescaped_valid : (r : Option Reader) (text : List ℕ) → valid_reader r (symbols_after false text) ≡ valid_cursor (no_longer_escaped r) text
unescaped_valid None text = refl
unescaped_valid (Some reader) text = refl

character_at : (reader : Reader) (escaped : Bool) (c : ℕ) (text : List ℕ) → valid_symbols reader.spot reader.depth (symbols_after escaped (c ∷ text)) ≡ valid_cursor (after_character_at reader escaped c) text
character_at reader true c text = symbol_first reader.spot reader.depth (Escaped (escape c)) (symbols_after false text) ∙ unescaped_valid (after_symbol reader (Escaped (escape c))) text
character_at reader false c text = elim (cases_eq c 92) [
  | inl same ↦ subst (λ (x : ℕ). valid_symbols reader.spot reader.depth (symbols_after false (x ∷ text)) ≡ valid_cursor (after_character_at reader false x) text) (sym same) refl
  | inr other ↦
      let e = ne_eqb c 92 other in
      let after : after_character_at reader false c ≡ no_longer_escaped (after_symbol reader (Plain c)) = rw e refl in
      ap (valid_symbols reader.spot reader.depth) (plain_first c text e) ∙ symbol_first reader.spot reader.depth (Plain c) (symbols_after false text) ∙ unescaped_valid (after_symbol reader (Plain c)) text
      ∙ ap (λ (o : Option Cursor). valid_cursor o text) (sym after)
]

character_first : (o : Option Cursor) (c : ℕ) (text : List ℕ) → valid_cursor o (c ∷ text) ≡ valid_cursor (option_and_then (λ place. after_character place c) o) text
character_first None c text = refl
character_first (Some cursor) c text = character_at cursor.reader cursor.escaped c text

-- the loop over the characters so far
abbrev pub CharactersSoFar : List ℕ → Option Cursor → Type 0
CharactersSoFar characters cursor = (rest : List ℕ) → valid_symbols Text 0 (symbols_after false (characters ++ rest)) ≡ valid_cursor cursor rest

pub characters_more : (characters : List ℕ) (cursor next : Option Cursor) (c : ℕ) → CharactersSoFar characters cursor → next ≡ option_and_then (λ place. after_character place c) cursor → CharactersSoFar (characters ++ c ∷ []) next
characters_more characters cursor next c so_far is rest =
    ap (λ (text : List ℕ). valid_symbols Text 0 (symbols_after false text)) (append_assoc characters (c ∷ []) rest) ∙ so_far (c ∷ rest) ∙ character_first cursor c rest ∙ ap (λ (o : Option Cursor). valid_cursor o rest) (sym is)

end_valid : (cursor : Cursor) → valid_cursor (Some cursor) [] ≡ may_end cursor
end_valid cursor = by cursor.escaped
  where
    by : (b : Bool) → valid_symbols cursor.reader.spot cursor.reader.depth (symbols_after b []) ≡ (not b && is_end cursor.reader)
    by true = refl
    by false = refl

-- all characters read, and the place is one
pub characters_end : (glob characters : List ℕ) (o : Option Cursor) (cursor : Cursor) (b : Bool) → CharactersSoFar characters o → characters ≡ glob → o ≡ Some cursor → b ≡ may_end cursor → (b ≡ true) ↔ IsSome (pieces_of glob)
characters_end glob characters o cursor b so_far all some is =
    glob_valid_right glob b (ap (λ (text : List ℕ). valid_symbols Text 0 (symbols_after false text)) (sym all ∙ sym (append-nil characters)) ∙ so_far [] ∙ ap (λ (x : Option Cursor). valid_cursor x []) some ∙ end_valid cursor ∙ sym is)

-- all characters read, and the place is none
pub characters_none : (glob characters : List ℕ) (o : Option Cursor) → CharactersSoFar characters o → characters ≡ glob → o ≡ None → (false ≡ true) ↔ IsSome (pieces_of glob)
characters_none glob characters o so_far all none =
    glob_valid_right glob false (ap (λ (text : List ℕ). valid_symbols Text 0 (symbols_after false text)) (sym all ∙ sym (append-nil characters)) ∙ so_far [] ∙ ap (λ (x : Option Cursor). valid_cursor x []) none)
