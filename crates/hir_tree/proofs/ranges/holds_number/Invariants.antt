use Rattle.std.proofs.Common.{◌≡◌, drop}
use Rattle.hir_tree.specs.Ranges.{AreApart, next_byte}
use Rattle.hir_tree.specs.Runs.{in_set}
use Rattle.hir_tree.proofs.ranges.holds_number.Given as goal

abbrev pub invariant-loop-range : goal.invariant-loop-range
invariant-loop-range l = record {
  apart : AreApart next_byte (drop l.range-index l.ranges);
  same : in_set (drop l.range-index l.ranges) l.number ≡ in_set l.ranges l.number;
}
