-- Bytes at which the prefilter doesn't stop.
use Rattle.std.proofs.Common.{◌≡◌, ℕ, ◌+◌, ◌-◌, ◌<◌, ◌≤◌, true, false, List, Option, Some, None, length, take, drop, slice_index, ap, subst, ◌∙◌, arith, get_or-drop}
use Rattle.std.proofs.lemmas.Bool.{false_from_ne_true}
use Rattle.std.proofs.lemmas.List.{take_rest}
use Rattle.std.specs.Prelude.{◌==◌, IfSome}
use Rattle.hir_tree.specs.declared.look.Look.{Look}
use Rattle.hir_program.specs.Masks.{SaysWhatFollows, sure_bit}
use Rattle.hir_program.specs.Scan.{IsRequired, IsRequiredOf, TellsStops}
use Rattle.hir_program.specs.declared.scan.required.Required.{Required}
use Rattle.hir_program.specs.declared.scan.prefilter.Prefilter.{Prefilter}
use Rattle.hir_program.specs.declared.spot.Spot.{Spot}

-- a byte that doesn't stand in the rest of a text up to a place
pub passed_one : (text : List ℕ) (byte at count q : ℕ)
    → ((k : ℕ) → 0 ≤ k → k < count → (slice_index (take (length text - at) (drop at text)) k == byte) ≡ true → ⊥)
    → at ≤ q → q < at + count → (slice_index text q == byte) ≡ false
passed_one text byte at count q none low high =
    false_from_ne_true (slice_index text q == byte)
    (λ same.
    none (q - at) (omega arith) (omega arith)
    (ap (λ (xs : List ℕ). slice_index xs (q - at) == byte) (take_rest text at)
    ∙ ap (λ (n : ℕ). n == byte) (get_or-drop at text (q - at) 0 ∙ ap (λ (k : ℕ). slice_index text k) (let there : at + (q - at) ≡ q = omega arith in there))
    ∙ same))

-- a prefilter by required spots is one of a program that moves on as the rows say
pub prefilter_of : (rows takes : List ℕ) (start wide : ℕ) (required : Option Required) (prefilter : Option Prefilter) → IfSome required (λ c. IsRequiredOf rows start c)
    → (look : Option Look) → IfSome prefilter (λ k. (required ≡ Some k.required) × TellsStops takes wide look k.required k.stops) → (spots : List Spot) (of : List ℕ)
    → length of ≤ sure_bit → SaysWhatFollows spots of look rows
    → IfSome prefilter (λ k. IsRequired spots of look start k.required × TellsStops takes wide look k.required k.stops)
prefilter_of rows takes start wide required None is look told spots of few says = told
prefilter_of rows takes start wide required (Some k) is look told spots of few says =
    ((subst (λ (o : Option Required). IfSome o (λ c. IsRequiredOf rows start c)) told.0 is) spots of look few says, told.1)
