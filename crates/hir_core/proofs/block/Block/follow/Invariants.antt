use Rattle.std.proofs.Common.{◌++◌}
use Rattle.hir_core.specs.Blocks.{KeepsMarks}
use Rattle.hir_core.specs.Trails.{way_of, stops_on}
use Rattle.hir_core.specs.Tries.{CountsTries}
use Rattle.hir_core.specs.Pass.{first_of, stop_gives, stops_give}
use Rattle.hir_core.proofs.closure.TurnLemmas.{turn_weight}
use Rattle.hir_core.proofs.block.FollowLemmas.{FollowsIn}
use Rattle.hir_core.proofs.block.Block.follow.Given as goal

-- what was kept, and the alternatives, have the first run of what was kept before and the thread
abbrev pub invariant-loop-here : goal.invariant-loop-here
invariant-loop-here g l = record {
  follows :
      FollowsIn l.text l.spots l.places.begin l.places.end
      (first_of (stops_give l.text l.spots l.fn.self.later ++ stop_gives l.text l.spots (l.spot, way_of l.fn.self.trail))) l.self.marks l.self.later
      (stops_on l.on l.self.trail);
  marks : KeepsMarks l.fn.self.marks l.self.marks;
  ticks : CountsTries g.L.Ledger.noted l.spots l.places.begin l.places.end l.fn.self.marks l.self.marks l.fn.steps l.steps;
}

abbrev pub decreases-loop-here : goal.decreases-loop-here
decreases-loop-here g l = turn_weight l.self.marks (stops_on l.on l.self.trail)
