use Rattle.std.proofs.Common.{length}
use Rattle.glob_match.proofs.parse.ReadingLemmas.{TokensSoFar}
use Rattle.glob_match.proofs.parse.tokens_of.Given as goal

abbrev pub invariant-loop-rest : goal.invariant-loop-rest
invariant-loop-rest l = TokensSoFar l.symbols l.tokens.items l.starts l.rest

abbrev pub decreases-loop-rest : goal.decreases-loop-rest
decreases-loop-rest l = length l.rest
