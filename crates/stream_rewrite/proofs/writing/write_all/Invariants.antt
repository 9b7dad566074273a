use Rattle.std.proofs.Common.{◌≡◌, ◌≤◌, ◌-◌, ◌++◌, take, length}
use Rattle.std.specs.Prelude.{IsTrue}
use Rattle.stream_rewrite.proofs.writing.write_all.Given as goal

-- the bytes so far were appended
abbrev pub invariant-loop-at : goal.invariant-loop-at
invariant-loop-at g l = record {
  within : l.at ≤ length l.bytes;
  appended : IsTrue g.O.Sink.tells → (g.O.Sink.state l.out).held ≡ (g.O.Sink.state l.fn.out).held ++ take l.at l.bytes;
  never_falls : (g.O.Sink.state l.fn.out).faults ≤ (g.O.Sink.state l.out).faults;
}

-- what is left to write
abbrev pub decreases-loop-at : goal.decreases-loop-at
decreases-loop-at g l = length l.bytes - l.at
