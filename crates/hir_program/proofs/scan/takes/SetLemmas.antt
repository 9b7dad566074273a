-- Sets whose ranges are read one after another.
use Rattle.std.proofs.Common.{◌≡◌, ℕ, ◌+◌, ◌<◌, ◌≤◌, Bool, true, false, ◌⊎◌, inl, inr, List, ◌∷◌, length, take, drop, get_or, drop-cons, add-one, nat_lt, set, replicate, refl, sym, ap, subst, ◌∙◌, arith, get_or-set_same, get_or-set_other}
use Rattle.std.specs.Prelude.{◌&&◌, ◌||◌, nat_le}
use Rattle.std.proofs.Math.ListN.{drop_of_length-le}
use Rattle.std.proofs.lemmas.Bool.{cases_eq, cases_lt, or_right}
use Rattle.std.proofs.lemmas.Bool.Decides.{nat_tests}
use Rattle.std.proofs.lemmas.List.{get_or-replicate, get_or_past, length-replicate}
use Rattle.std.proofs.lemmas.List.Folds.{list_any_more}
use Rattle.hir_tree.specs.Ranges.{IsWithin}
use Rattle.hir_tree.specs.Runs.{in_set}
use Rattle.hir_program.specs.Masks.{HasBit, GrowsOnly, has_wide}
use Rattle.hir_program.proofs.scan.bits.MaskLemmas.{HasBit-none}

module _ (set : List (ℕ × ℕ)) (i : ℕ) (range : ℕ × ℕ) (within : i < length set) (is : range ≡ get_or set i range) where
  -- what the ranges up to this one have, those before it have, or it does
  pub in_set-more : (b : ℕ) → in_set (take (i + 1) set) b ≡ true → (in_set (take i set) b ≡ true) ⊎ IsWithin range b
  in_set-more b e = cases (in_set (take i set) b) refl
    where
      has : ℕ × ℕ → Bool
      has r = nat_le r.0 b && nat_le b r.1

      held : has range ≡ true → IsWithin range b
      held h = grind (arith, nat_tests)

      cases : (before : Bool) → in_set (take i set) b ≡ before → (in_set (take i set) b ≡ true) ⊎ IsWithin range b
      cases true k = inl k
      cases false k =
          inr (held (ap has is ∙ ap (λ a. a || has (get_or set i range)) (sym k) ∙ sym (list_any_more has set i range within) ∙ e))

  -- what they have: what those before it have
  pub in_set-kept : (b : ℕ) → in_set (take i set) b ≡ true → in_set (take (i + 1) set) b ≡ true
  in_set-kept b e = list_any_more has set i range within ∙ ap (λ a. a || has (get_or set i range)) e
    where
      has : ℕ × ℕ → Bool
      has r = nat_le r.0 b && nat_le b r.1

  -- and what it has
  pub in_set-last : (b : ℕ) → IsWithin range b → in_set (take (i + 1) set) b ≡ true
  in_set-last b inside = list_any_more has set i range within ∙ or_right (in_set (take i set) b) (has (get_or set i range)) (ap has (sym is) ∙ held inside)
    where
      has : ℕ × ℕ → Bool
      has r = nat_le r.0 b && nat_le b r.1

      held : IsWithin range b → has range ≡ true
      held h = grind (arith, nat_tests)

  here : drop i set ≡ range ∷ drop (i + 1) set
  here = rw add-one (drop-cons set i range within) ∙ ap (λ r. r ∷ drop (i + 1) set) (sym is)

  -- a range that reaches beyond ASCII
  pub has_wide-here : 127 < range.1 → has_wide (drop i set) ≡ true
  has_wide-here wide =
      let test : nat_lt 127 range.1 ≡ true = grind (arith, nat_tests) in
      ap has_wide here ∙ ap (λ a. a || has_wide (drop (i + 1) set)) test

  -- a range that doesn't
  pub has_wide-later : range.1 ≤ 127 → has_wide (drop i set) ≡ has_wide (drop (i + 1) set)
  has_wide-later narrow =
      let test : nat_lt 127 range.1 ≡ false = grind (arith, nat_tests) in
      ap has_wide here ∙ ap (λ a. a || has_wide (drop (i + 1) set)) test

-- a bit is set in one number
pub GrowsOnly-set : (masks : List ℕ) (bit k more : ℕ) (Here : ℕ → Type 0) → k < length masks → Here k
    → ((i : ℕ) → HasBit more i → HasBit (get_or masks k 0) i ⊎ (i ≡ bit)) → GrowsOnly bit Here masks (set masks k more)
GrowsOnly-set masks bit k more Here within here only b i has = elim (cases_eq b k) [
  | inl same ↦
      let is : get_or (set masks k more) b 0 ≡ more = ap (λ (j : ℕ). get_or (set masks k more) j 0) same ∙ get_or-set_same masks k more 0 within in
      elim (only i (subst (λ (m : ℕ). HasBit m i) is has)) [
        | inl before ↦ inl (subst (λ (j : ℕ). HasBit (get_or masks j 0) i) (sym same) before)
        | inr this ↦ inr (this, subst Here (sym same) here)
      ]
  | inr other ↦ inl (subst (λ (m : ℕ). HasBit m i) (get_or-set_other masks k b more 0 other) has)
]

-- in zeros no bit is set
pub HasBit-zeros : (count b i : ℕ) → HasBit (get_or (replicate count 0) b 0) i → ⊥
HasBit-zeros count b i has = HasBit-none i (subst (λ (m : ℕ). HasBit m i) (elim (cases_lt b count) [
  | inl within ↦ get_or-replicate count b 0 0 within
  | inr past ↦ get_or_past (replicate count 0) b 0 (omega (arith, length-replicate {A = ℕ} count 0))
]) has)

-- it is set in some numbers, and then in others
pub GrowsOnly-more : (bit : ℕ) (First Then Both : ℕ → Type 0) (old mid new : List ℕ) → ((b : ℕ) → First b → Both b) → ((b : ℕ) → Then b → Both b)
    → GrowsOnly bit First old mid → GrowsOnly bit Then mid new → GrowsOnly bit Both old new
GrowsOnly-more bit First Then Both old mid new left right before after b i has = elim (after b i has) [
  | inl held ↦ elim (before b i held) [ inl older ↦ inl older | inr at ↦ inr (at.0, left b at.1) ]
  | inr at ↦ inr (at.0, right b at.1)
]

-- no range is left
pub has_wide-end : (set : List (ℕ × ℕ)) (i : ℕ) → length set ≤ i → has_wide (drop i set) ≡ false
has_wide-end set i end = ap has_wide (drop_of_length-le set end)
