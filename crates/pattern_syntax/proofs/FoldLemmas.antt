-- A set with all that folds alike.
use Rattle.std.proofs.Common.{◌≡◌, ◌↔◌, ◌⊎◌, ℕ, zero, suc, Bool, true, false, ◌&&◌, ◌||◌, ◌==◌, List, [], ◌∷◌, Contains, IsTrue, refl, sym, ap, subst, ap₂, inl, inr, ⊎_elim, eqb-true, eq-eqb, zero-lt-suc, suc-le-suc, le_of_suc-le-suc, not-suc-le-zero}
use Rattle.std.specs.List.{list_any}
use Rattle.std.proofs.lemmas.Bool.{and_parts, and_from, or_cases, or_left, or_right, both_ways}
use Rattle.unicode.specs.CaseFolding.{simple_fold, fold_pairs}
use Rattle.ucd_case.specs.FoldOtherRows.{fold_other_rows}
use Rattle.regex_class.specs.Ranges.{KeysRise, in_ranges, in_image}
use Rattle.regex_class.proofs.RangesLemmas.{keys_rise_from, KeysRise-from_test}
use Rattle.ucd_case.proofs.FoldPairsLemmas.{IsFoldPairs-fold_pairs}
use Rattle.pattern_syntax.specs.Sets.{Set, with_alike}

-- a pair that leads there
image_gives : (ps : List (ℕ × ℕ)) (s : Set) (c : ℕ) → list_any (λ (p : ℕ × ℕ). (p.1 == c) && s p.0) ps ≡ true → (d : ℕ) × (Contains ps (d, c) × (s d ≡ true))
image_gives [] s c e = cc
image_gives (p ∷ ps) s c e =
    ⊎_elim
    (λ here. let parts = and_parts (p.1 == c) (s p.0) here in (p.0, ((zero, zero-lt-suc _, ap (λ z. (p.0, z)) (eqb-true p.1 c parts.0)), parts.1)))
    (λ later. let found = image_gives ps s c later in (found.0, ((suc found.1.0.0, suc-le-suc found.1.0.1, found.1.0.2), found.1.1)))
    (or_cases ((p.1 == c) && s p.0) (list_any (λ (p : ℕ × ℕ). (p.1 == c) && s p.0) ps) e)

image_has : (ps : List (ℕ × ℕ)) (s : Set) (c d : ℕ) → Contains ps (d, c) → s d ≡ true → list_any (λ (p : ℕ × ℕ). (p.1 == c) && s p.0) ps ≡ true
image_has [] s c d (k, lt, at) e = absurd (not-suc-le-zero lt)
image_has (p ∷ ps) s c d (zero, lt, at) e =
    or_left ((p.1 == c) && s p.0) (list_any (λ (p : ℕ × ℕ). (p.1 == c) && s p.0) ps)
    (and_from (p.1 == c) (s p.0) (eq-eqb p.1 c (ap (λ (q : ℕ × ℕ). q.1) at)) (subst (λ z. s z ≡ true) (sym (ap (λ (q : ℕ × ℕ). q.0) at)) e))
image_has (p ∷ ps) s c d (suc k, lt, at) e = or_right ((p.1 == c) && s p.0) (list_any (λ (p : ℕ × ℕ). (p.1 == c) && s p.0) ps) (image_has ps s c d (k, le_of_suc-le-suc lt, at) e)

true_or_false : (b : Bool) → (b ≡ true) ⊎ (b ≡ false)
true_or_false true = inl refl
true_or_false false = inr refl

pub with_alike_holds : (s : Set) (c : ℕ) → IsTrue (with_alike s c) ↔ ((d : ℕ) × (IsTrue (s d) × (simple_fold d ≡ simple_fold c)))
with_alike_holds s c = (
  (λ held.
      ⊎_elim
      (λ own. (c, (own, refl)))
      (λ led. let found = image_gives fold_pairs s c led in (found.0, (found.1.1, ((IsFoldPairs-fold_pairs found.0 c).0 found.1.0).1)))
      (or_cases (s c) (list_any (λ (p : ℕ × ℕ). (p.1 == c) && s p.0) fold_pairs) held)),
  (λ (d, (own, alike)).
      ⊎_elim
      (λ same. or_left (s c) (list_any (λ (p : ℕ × ℕ). (p.1 == c) && s p.0) fold_pairs) (subst (λ z. s z ≡ true) (eqb-true d c same) own))
      (λ other. or_right (s c) (list_any (λ (p : ℕ × ℕ). (p.1 == c) && s p.0) fold_pairs) (image_has fold_pairs s c d ((IsFoldPairs-fold_pairs d c).1 ((λ e. both_ways (d == c) other (eq-eqb d c e)), alike)) own))
      (true_or_false (d == c))),
)

pub fold_pairs_rise : KeysRise fold_pairs
unfolding keys_rise_from fold_pairs fold_other_rows
fold_pairs_rise = KeysRise-from_test 0 fold_pairs refl

and_swaps : (a b : Bool) → (a && b) ≡ (b && a)
and_swaps true true = refl
and_swaps true false = refl
and_swaps false true = refl
and_swaps false false = refl

-- the kit's word for an image
pub image_is : (ps : List (ℕ × ℕ)) (ranges : List (ℕ × ℕ)) (c : ℕ) → in_image ps ranges c ≡ list_any (λ (p : ℕ × ℕ). (p.1 == c) && in_ranges ranges p.0) ps
unfolding in_image
image_is [] ranges c = refl
image_is (p ∷ ps) ranges c = ap₂ ◌||◌ (and_swaps (in_ranges ranges p.0) (p.1 == c)) (image_is ps ranges c)
