use Rattle.std.proofs.Common.{◌≡◌, ℕ, ◌<◌, true, get_or}
use Rattle.hir_program.specs.Program.{spot_at}
use Rattle.hir_program.specs.Masks.{HasBit, is_wide}
use Rattle.hir_program.proofs.scan.takes.wide.Given as goal

-- the bits so far
abbrev pub invariant-loop-i : goal.invariant-loop-i
invariant-loop-i l = (i : ℕ) → i < l.i → is_wide (spot_at l.spots (get_or l.of i 0)) ≡ true → HasBit l.mask i
