use Rattle.std.proofs.Common.{ap, ◌∙◌}
use Rattle.std.proofs.Math.ListN.{drop_of_length-le}
use Rattle.glob_match.proofs.parse.NestingLemmas.{nests, nests_by, nests_end, nests_eleven}
use Rattle.glob_match.proofs.parse.nests_well.Goals as goal

pub returns-in-Open : goal.returns-in-Open
returns-in-Open c = nests_eleven c.args.tokens.now c.loop-token.depth c.loop-token.token-index c.token-item.result _ c.loop-token.invariant.0 c.loop-token-test.true c.token-item.is c.in-Open.is c.if-depth-eq10.true

pub returns : goal.returns
returns c = nests_by c.args.tokens.now _ (c.loop-token.invariant.0 ∙ ap (nests c.loop-token.depth) (drop_of_length-le c.args.tokens.now c.loop-token-test.false) ∙ nests_end c.loop-token.depth)
