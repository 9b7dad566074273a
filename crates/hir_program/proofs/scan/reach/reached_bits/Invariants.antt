use Rattle.std.proofs.Common.{◌≡◌, ℕ, ◌<◌, true, get_or}
use Rattle.hir_program.specs.Masks.{HasBit, is_reached}
use Rattle.hir_program.proofs.scan.reach.reached_bits.Given as goal

-- the bits so far
abbrev pub invariant-loop-i : goal.invariant-loop-i
invariant-loop-i l = (i : ℕ) → i < l.i → is_reached l.reached (get_or l.of i 0) ≡ true → HasBit l.mask i
