use Rattle.std.proofs.lemmas.Bool.{cases_eq}
use Rattle.std.proofs.Common.{◌≡◌, ◌≢◌, ℕ, ◌<◌, ◌≤◌, [], ◌∷◌, slice_get, Some, inl, inr, refl, arith}
use Rattle.glob_match.proofs.examples.globs_fit_as_in_the_examples.Goals as goal

-- the last two characters are no `/`
no_separator : (place : ℕ) → 4 ≤ place → place < 6 → slice_get {X = ℕ} (97 ∷ 47 ∷ 99 ∷ 125 ∷ 120 ∷ 120 ∷ []) place ≢ Some 47
no_separator place l r = elim (cases_eq place 4) [
  | inl same ↦ rw same (λ e. cc)
  | inr other ↦ let last : place ≡ 5 = omega arith in rw last (λ e. cc)
]

pub returns-clause-closing_member : goal.returns-clause-closing_member
returns-clause-closing_member c = (1, (93, refl, inl (omega arith, omega arith), refl), refl)

pub returns-clause-class_in_a_brace : goal.returns-clause-class_in_a_brace
returns-clause-class_in_a_brace c =
    (1, (97, refl, refl, refl), (2, (47, refl, refl, refl), (6, inr (inl (3, (99, refl, refl, refl), (4, (125, refl, inl (omega arith, omega arith), refl), (6, (omega arith, omega arith, no_separator), refl)))), refl)))
