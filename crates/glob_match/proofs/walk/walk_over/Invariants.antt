use Rattle.std.proofs.Common.{drop}
use Rattle.glob_match.specs.Walk.{stand_of}
use Rattle.glob_match.proofs.walk.CaptureWalkLemmas.{WalkedSoFar}
use Rattle.glob_match.proofs.walk.walk_over.Given as goal

abbrev pub invariant-loop-token : goal.invariant-loop-token
invariant-loop-token l = WalkedSoFar l.tokens (drop l.token-index l.tokens) l.path l.sets.items (stand_of l.walk)
