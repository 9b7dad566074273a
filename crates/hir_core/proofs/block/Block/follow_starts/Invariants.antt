use Rattle.std.proofs.Common.{◌≡◌, ◌+◌, ◌-◌, ◌≤◌, None, length}
use Rattle.hir_core.specs.Blocks.{AreSpent, KeepsMarks}
use Rattle.hir_core.specs.Tries.{CountsTries}
use Rattle.hir_core.specs.Pass.{answer, stops_give, AllFrom}
use Rattle.hir_program.specs.Program.{some_run}
use Rattle.hir_core.proofs.block.Block.follow_starts.Given as goal

-- nothing was found, and the answer is the one that is sought
abbrev pub invariant-loop-starts : goal.invariant-loop-starts
invariant-loop-starts g l = record {
  answer :
      answer l.text l.spots l.groups l.starts.place (stops_give l.text l.spots l.self.later) None
      ≡ answer l.text l.spots l.groups l.fn.starts.place (stops_give l.text l.spots l.fn.self.later) None;
  later : AllFrom l.text l.places.end l.self.later;
  spent : AreSpent l.text l.spots l.places.begin l.self.marks (some_run (stops_give l.text l.spots l.self.later));
  begin : l.places.begin ≤ l.starts.place;
  within : l.starts.place ≤ length l.text + 1;
  marks : KeepsMarks l.fn.self.marks l.self.marks;
  ticks : CountsTries g.L.Ledger.noted l.spots l.places.begin l.places.end l.fn.self.marks l.self.marks l.fn.steps l.steps;
}

abbrev pub decreases-loop-starts : goal.decreases-loop-starts
decreases-loop-starts g l = l.places.end - l.starts.place
