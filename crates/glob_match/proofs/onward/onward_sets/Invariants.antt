use Rattle.std.proofs.Common.{drop}
use Rattle.glob_match.proofs.onward.OnwardLemmas.{OnwardSoFar, depth_at}
use Rattle.glob_match.proofs.onward.onward_sets.Given as goal

abbrev pub invariant-loop-at : goal.invariant-loop-at
invariant-loop-at l = OnwardSoFar (depth_at 0 l.tokens l.at) (drop l.at l.tokens) l.path l.braces.items l.places.items l.sets.items
