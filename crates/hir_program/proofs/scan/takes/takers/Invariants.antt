use Rattle.std.proofs.Common.{◌≡◌, ℕ, ◌<◌, ◌≤◌, true, length, get_or}
use Rattle.hir_program.specs.Program.{spot_at}
use Rattle.hir_program.specs.Masks.{is_taker, AreTakers}
use Rattle.hir_program.proofs.scan.takes.takers.Given as goal

-- the spots so far
abbrev pub invariant-loop-place : goal.invariant-loop-place
invariant-loop-place l = record {
  each : AreTakers l.spots l.of.items;
  few : length l.of.items ≤ 62;
  all : (q : ℕ) → q < l.place → is_taker (spot_at l.spots q) ≡ true → (i : ℕ) × (i < length l.of.items) × (get_or l.of.items i 0 ≡ q);
}
