-- The rows of the loops of a program.
use Rattle.std.proofs.Common.{◌≡◌, ℕ, Bool, inl, inr, List, [], ◌∷◌, ◌++◌, length, Option, None, sym, ◌∙◌, subst, arith, length-append}
use Rattle.std.specs.Prelude.{IfSome}
use Rattle.std.specs.Box.{box_value}
use Rattle.std.specs.Global.{Box}
use Rattle.std.proofs.lemmas.Bool.{cases_eq, cases_lt}
use Rattle.std.proofs.lemmas.List.{get_or_append_left, get_or_push, get_or_past}
use Rattle.hir_program.specs.Loops.{AreRows, IsRow}
use Rattle.hir_program.specs.declared.spot.Spot.{Spot}

-- a row more
pub AreRows-push : (spots : List Spot) (rows : List (Option (Box (List Bool)))) (row : Option (Box (List Bool))) (place : ℕ) → length rows ≡ place
    → AreRows spots rows → IfSome row (λ r. IsRow spots place (box_value r)) → AreRows spots (rows ++ row ∷ [])
AreRows-push spots rows row place many are new q = elim (cases_eq place q) [
  | inl here ↦
      subst (λ (o : Option (Box (List Bool))). IfSome o (λ r. IsRow spots q (box_value r))) (sym (get_or_push rows row None q (many ∙ here)))
      (subst (λ (i : ℕ). IfSome row (λ r. IsRow spots i (box_value r))) here new)
  | inr other ↦ elim (cases_lt q place) [
    | inl before ↦
        subst (λ (o : Option (Box (List Bool))). IfSome o (λ r. IsRow spots q (box_value r)))
        (sym (get_or_append_left rows (row ∷ []) None q (omega (arith, before, many)))) (are q)
    | inr past ↦
        subst (λ (o : Option (Box (List Bool))). IfSome o (λ r. IsRow spots q (box_value r)))
        (sym (get_or_past (rows ++ row ∷ []) q None (let k : place ≡ q → ⊥ = other in omega (arith, past, many, k, length-append rows (row ∷ []))))) tt
  ]
]
