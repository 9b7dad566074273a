use Rattle.std.proofs.Common.{◌≡◌, ◌-◌, ◌≤◌, length}
use Rattle.hir_program.specs.Scan.{NoneBegins}
use Rattle.hir_program.proofs.scan.Scan.skip_ahead.Given as goal

-- no run begins before
abbrev pub invariant-loop-prefilter : goal.invariant-loop-prefilter
invariant-loop-prefilter l = record {
  none : NoneBegins l.text l.self l.at l.so_far.from;
  state : l.so_far.state ≡ 0;
  place : l.so_far.place ≡ l.so_far.from;
  after : l.at ≤ l.so_far.from;
  within : l.so_far.from ≤ length l.text;
}

abbrev pub decreases-loop-prefilter : goal.decreases-loop-prefilter
decreases-loop-prefilter l = length l.text - l.so_far.place
