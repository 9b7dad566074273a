use Rattle.std.proofs.Common.{◌<◌, ◌≤◌, length}
use Rattle.hir_core.specs.FirstWays.{HasFirst}
use Rattle.hir_core.specs.Pass.{counted, first_of, stop_gives}
use Rattle.hir_core.specs.Trails.{way_of}
use Rattle.hir_core.proofs.first_way.walk.Given as goal

-- what was come to has the first run of the thread
abbrev pub invariant-loop-turn : goal.invariant-loop-turn
invariant-loop-turn l = record {
  first : HasFirst l.text l.spots (first_of (stop_gives l.text l.spots (l.spot, way_of l.fn.trail))) l.now.bar (l.now.spot, way_of l.trail);
  at : l.trail.at ≤ length l.text;
  visits : 0 < l.now.visits → 0 < counted l.spots;
}
