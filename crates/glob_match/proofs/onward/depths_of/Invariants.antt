use Rattle.std.proofs.Common.{◌≡◌, ◌≤◌, ◌++◌, drop}
use Rattle.glob_match.specs.Backward.{depths_from}
use Rattle.glob_match.proofs.onward.depths_of.Given as goal

abbrev pub invariant-loop-token : goal.invariant-loop-token
invariant-loop-token l = (depths_from 0 l.tokens ≡ l.depths.items ++ depths_from l.depth (drop l.token-index l.tokens)) × (l.depth ≤ l.token-index)
