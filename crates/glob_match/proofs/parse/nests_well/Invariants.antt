use Rattle.std.proofs.Common.{◌≡◌, ◌≤◌, drop}
use Rattle.glob_match.proofs.parse.NestingLemmas.{nests}
use Rattle.glob_match.proofs.parse.nests_well.Given as goal

abbrev pub invariant-loop-token : goal.invariant-loop-token
invariant-loop-token l = (nests 0 l.tokens ≡ nests l.depth (drop l.token-index l.tokens)) × (l.depth ≤ 10)
