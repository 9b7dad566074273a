use Rattle.std.proofs.Common.{◌<◌, ◌∙◌, subst}
use Rattle.pattern_syntax.proofs.RowsLemmas.{alternation_many}
use Rattle.pattern_syntax.proofs.rows.choice.Goals as goal

pub returns-then-len-gt1 : goal.returns-then-len-gt1
returns-then-len-gt1 c =
    alternation_many c.a_tree_is_made_of_the_trees_of_the_parts.ensures.alternation c.from.result c.args.parts.items c.from.ensures (subst (λ n. 1 < n) (c.len.ensures ∙ c.args.parts.ok.0) c.if-len-gt1.true)
