use Rattle.std.proofs.Common.{◌≤◌}
use Rattle.std.specs.Prelude.{IsTrue}
use Rattle.error_line.specs.ErrorLine.{AppendsSome}
use Rattle.error_line.proofs.shown.write_shown.Given as goal

-- some bytes so far were appended
abbrev pub invariant-loop-place : goal.invariant-loop-place
invariant-loop-place g l = record {
  appended : IsTrue g.E.Sink.tells → AppendsSome (g.E.Sink.state l.fn.err).held (g.E.Sink.state l.err).held;
  never_falls : (g.E.Sink.state l.fn.err).faults ≤ (g.E.Sink.state l.err).faults;
}
