use Rattle.std.proofs.Common.{◌≡◌, length}
use Rattle.hir_program.specs.Loops.{AreRows}
use Rattle.hir_program.proofs.loops.Loops.new.Given as goal

abbrev pub invariant-loop-place : goal.invariant-loop-place
invariant-loop-place l = record {
  rows : AreRows l.spots l.rows.items;
  count : length l.rows.items ≡ l.place;
}
