use Rattle.std.proofs.Common.{◌<◌, ◌∙◌, subst}
use Rattle.pattern_syntax.proofs.RowsLemmas.{concat_many}
use Rattle.pattern_syntax.proofs.rows.sequence.Goals as goal

pub returns-then-len-gt1 : goal.returns-then-len-gt1
returns-then-len-gt1 c =
    concat_many c.a_tree_is_made_of_the_trees_of_the_parts.ensures.concat c.from.result c.args.parts.items c.from.ensures (subst (λ n. 1 < n) (c.len.ensures ∙ c.args.parts.ok.0) c.if-len-gt1.true)
