use Rattle.std.proofs.Common.{◌≡◌, ℕ, ◌<◌, true, get_or}
use Rattle.hir_program.specs.Program.{spot_at}
use Rattle.hir_program.specs.Masks.{HasBit, takes_byte}
use Rattle.hir_program.proofs.scan.takes.add_spots.Given as goal

-- the spots so far are done, and no others
abbrev pub invariant-loop-i : goal.invariant-loop-i
invariant-loop-i l = record {
  has : (i b : ℕ) → i < l.i → takes_byte (spot_at l.spots (get_or l.of i 0)) b ≡ true → HasBit (get_or l.takes b 0) i;
  only : (i b : ℕ) → HasBit (get_or l.takes b 0) i → (i < l.i) × (takes_byte (spot_at l.spots (get_or l.of i 0)) b ≡ true);
}
