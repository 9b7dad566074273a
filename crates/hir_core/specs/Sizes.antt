-- How many bytes a spot takes.
use Rattle.std.specs.Prelude.{◌≡◌, ℕ, ◌+◌, ◌≤◌, true, List, length, Option, IfSome}
use Rattle.hir_program.specs.Masks.{is_taker, next_of}
use Rattle.hir_program.specs.Program.{Way}
use Rattle.hir_program.specs.declared.spot.Spot.{Spot}
use Rattle.hir_core.specs.Pass.{leads_on, taken}

-- the spot takes so many bytes at the place, if any, and they are within the text
pub record IsSizeTaken (text : List ℕ) (s : Spot) (at : ℕ) (size : Option ℕ) : Type 0 where
  pub leads : (w : Way) → w.run.at ≡ at → is_taker s ≡ true → leads_on text s w ≡ taken size (next_of s) w
  pub within : IfSome size (λ bytes. at + bytes ≤ length text)
