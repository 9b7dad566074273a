use Rattle.std.proofs.Common.{◌≡◌, ◌≤◌, ◌-◌, length}
use Rattle.hir_core.specs.RunsOver.{RunsOver}
use Rattle.hir_core.specs.Tries.{CountsTries}
use Rattle.hir_core.proofs.run_over.run_end.Given as goal

-- so far it was run over
abbrev pub invariant-loop-at : goal.invariant-loop-at
invariant-loop-at g l = record {
  over : RunsOver l.text l.spots l.places.begin l.places.end l.spot (l.at - l.from) l.from l.fn.marks l.marks;
  room : length l.marks ≡ length l.fn.marks;
  forward : l.from ≤ l.at;
  within : l.at ≤ length l.text;
  ticks : CountsTries g.L.Ledger.noted l.spots l.places.begin l.places.end l.fn.marks l.marks l.fn.steps l.steps;
}

abbrev pub decreases-loop-at : goal.decreases-loop-at
decreases-loop-at g l = length l.text - l.at
