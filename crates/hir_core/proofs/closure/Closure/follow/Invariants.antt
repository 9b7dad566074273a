use Rattle.std.proofs.Common.{◌≡◌, ◌++◌, length}
use Rattle.hir_core.specs.Trails.{way_of, stops_on}
use Rattle.hir_core.specs.Pass.{CountsVisits, first_of, stop_gives, stops_give}
use Rattle.hir_core.proofs.closure.TurnLemmas.{Follows, turn_weight}
use Rattle.hir_core.proofs.closure.Closure.follow.Given as goal

-- what was kept, and the alternatives, have the first run of what was kept before and the thread
abbrev pub invariant-loop-here : goal.invariant-loop-here
invariant-loop-here g l = record {
  follows :
      Follows l.text l.spots l.fn.self.trail.at (first_of (stops_give l.text l.spots l.fn.self.later ++ stop_gives l.text l.spots (l.spot, way_of l.fn.self.trail)))
      l.self.visited l.self.later (stops_on l.on l.self.trail);
  room : length l.self.visited ≡ length l.fn.self.visited;
  ticks : CountsVisits g.L.Ledger.noted l.spots l.fn.self.visited l.self.visited l.fn.steps l.steps;
}

abbrev pub decreases-loop-here : goal.decreases-loop-here
decreases-loop-here g l = turn_weight l.self.visited (stops_on l.on l.self.trail)
