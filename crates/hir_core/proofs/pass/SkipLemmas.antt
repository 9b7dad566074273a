-- Places that a search passes over, since none of them has a run.
use Rattle.std.proofs.Common.{◌≡◌, ℕ, zero, suc, ◌+◌, ◌-◌, ◌≤◌, List, [], length, Option, None, sym, ap, ◌∙◌, arith}
use Rattle.std.specs.Option.{option_or}
use Rattle.hir_tree.specs.Runs.{Run}
use Rattle.hir_program.specs.Masks.{NoRun}
use Rattle.hir_core.specs.Trails.{Stop}
use Rattle.hir_core.specs.Pass.{first_of, first_from, answer, stops_give}
use Rattle.hir_program.specs.declared.spot.Spot.{Spot}

module _ (text : List ℕ) (spots : List Spot) (groups : ℕ) where
  -- so many places that have no run change nothing
  first_from-over : (over places at : ℕ) → NoRun text spots at (at + over)
      → first_from text spots groups (over + places) at ≡ first_from text spots groups places (at + over)
  first_from-over zero places at none =
      let count : zero + places ≡ places = omega arith in
      let here : at ≡ at + zero = omega arith in
      ap (λ n. first_from text spots groups n at) count ∙ ap (first_from text spots groups places) here
  first_from-over (suc over) places at none =
      let count : suc over + places ≡ suc (over + places) = omega arith in
      let there : at + 1 + over ≡ at + suc over = omega arith in
      ap (λ n. first_from text spots groups n at) count
      ∙ ap (λ runs. option_or (first_of runs) (first_from text spots groups (over + places) (at + 1))) (none groups at (omega arith) (omega arith))
      ∙ first_from-over over places (at + 1) (λ g q from until. none g q (omega (arith, from)) (omega (arith, until)))
      ∙ ap (first_from text spots groups places) there

  -- the answer of a search without threads and without a match stays
  pub answer-skip : (at to : ℕ) (threads : List Stop) (best : Option Run) → threads ≡ [] → best ≡ None → at ≤ to → to ≤ length text + 1
      → NoRun text spots at to
      → answer text spots groups to (stops_give text spots threads) best ≡ answer text spots groups at (stops_give text spots threads) best
  answer-skip at to threads best idle none h k empty =
      ap (λ ts. answer text spots groups to (stops_give text spots ts) best) idle
      ∙ ap (λ b. option_or b (first_from text spots groups (length text + 1 - to) to)) none
      ∙ sym onward
      ∙ sym (ap (λ b. option_or b (first_from text spots groups (length text + 1 - at) at)) none)
      ∙ sym (ap (λ ts. answer text spots groups at (stops_give text spots ts) best) idle)
    where
      over : ℕ
      over = to - at

      places : length text + 1 - at ≡ over + (length text + 1 - to)
      places = omega (arith, h, k)

      onward : first_from text spots groups (length text + 1 - at) at ≡ first_from text spots groups (length text + 1 - to) to
      onward =
          let there : at + over ≡ to = omega (arith, h) in
          ap (λ n. first_from text spots groups n at) places
          ∙ first_from-over over (length text + 1 - to) at (λ g q from until. empty g q from (omega (arith, h, until)))
          ∙ ap (first_from text spots groups (length text + 1 - to)) there
