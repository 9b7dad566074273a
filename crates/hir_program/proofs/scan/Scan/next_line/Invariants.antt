use Rattle.std.proofs.Common.{◌+◌, ◌-◌, ◌≤◌, length}
use Rattle.hir_program.specs.Scan.{NoneBegins}
use Rattle.hir_program.proofs.scan.Scan.next_line.Given as goal

-- no run begins before the place
abbrev pub invariant-loop-place : goal.invariant-loop-place
invariant-loop-place l = record {
  none : NoneBegins l.text l.self l.at l.place;
  after : l.at ≤ l.place;
  within : l.place ≤ length l.text + 1;
}

abbrev pub decreases-loop-place : goal.decreases-loop-place
decreases-loop-place l = length l.text + 1 - l.place
