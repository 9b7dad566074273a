-- Where a text begins with another, and where it has its first empty line.
use Rattle.std.proofs.Common.{◌≡◌, ◌∙◌, ◌<◌, ◌≤◌, ℕ, Bool, true, false, List, [], ◌∷◌, ◌++◌, length, take, drop, suc, zero, refl, ap, codes, cond, arith, nat_eq}
use Rattle.std.specs.List.{starts_with}
use Rattle.std.specs.Str.Pattern.{LacksTextAt}
use Rattle.std.proofs.lemmas.Bool.Decides.{Decides-eqb}
use Rattle.std.proofs.lemmas.Slice.Eq.{starts_is}
use Rattle.sd_words.specs.Refusal.{before_empty_line}

pub begins : (text front rest : List ℕ) → text ≡ front ++ rest → starts_with nat_eq text front ≡ true
begins text front rest is = (starts_is Decides-eqb text front (starts_with nat_eq text front) refl).1 rest is

pub does_not_begin : (text front : List ℕ) → LacksTextAt front text 0 → starts_with nat_eq text front ≡ false
does_not_begin text front lacks = go (starts_with nat_eq text front) refl
  where
    go : (b : Bool) → starts_with nat_eq text front ≡ b → starts_with nat_eq text front ≡ false
    go false is = is
    go true is = absurd (lacks (drop (length front) text) ((starts_is Decides-eqb text front (starts_with nat_eq text front) refl).0 is))

-- a text without an empty line
pub no_empty_line : (text : List ℕ) → ((i : ℕ) → i ≤ length text → LacksTextAt (codes "\n\n") text i) → before_empty_line text ≡ text
no_empty_line [] lacks = refl
no_empty_line (c ∷ text) lacks =
    ap (λ b. cond b [] (c ∷ before_empty_line text)) (does_not_begin (c ∷ text) (codes "\n\n") (lacks 0 (omega arith)))
    ∙ ap (λ rest. c ∷ rest) (no_empty_line text (λ i fits. lacks (suc i) (omega arith)))

-- a text whose first empty line is here
pub first_empty_line : (text : List ℕ) (place : ℕ) (rest : List ℕ) → ((i : ℕ) → i < place → LacksTextAt (codes "\n\n") text i) → drop place text ≡ codes "\n\n" ++ rest
    → before_empty_line text ≡ take place text
first_empty_line [] zero rest lacks is = refl
first_empty_line [] (suc place) rest lacks is = refl
first_empty_line (c ∷ text) zero rest lacks is = ap (λ b. cond b [] (c ∷ before_empty_line text)) (begins (c ∷ text) (codes "\n\n") rest is)
first_empty_line (c ∷ text) (suc place) rest lacks is =
    ap (λ b. cond b [] (c ∷ before_empty_line text)) (does_not_begin (c ∷ text) (codes "\n\n") (lacks 0 (omega arith)))
    ∙ ap (λ front. c ∷ front) (first_empty_line text place rest (λ i before. lacks (suc i) (omega arith)) is)
