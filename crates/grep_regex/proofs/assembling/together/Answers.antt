use Rattle.std.proofs.Common.{sym, ap, ◌∙◌, map}
use Rattle.hir_tree.specs.Tree.{alternation, tree_of, trees}
use Rattle.grep_regex.specs.Options.{one_of}
use Rattle.grep_regex.proofs.assembling.NumberingLemmas.{one_alone, others_alternate}
use Rattle.grep_regex.proofs.assembling.together.Goals as goal

pub returns-then-len-eq1 : goal.returns-then-len-eq1
returns-then-len-eq1 c =
    let patterns = c.in_ok-patterns.patterns in
    one_alone patterns.items c.swap_remove.result (sym (c.len.ensures ∙ patterns.ok.0) ∙ c.if-len-eq1.true) c.swap_remove.ensures.value
    ∙ ap one_of c.in_ok-patterns.ensures

pub returns : goal.returns
returns c =
    let patterns = c.in_ok-patterns.patterns in
    c.a_tree_is_made_of_the_trees_of_the_parts.ensures.alternation c.from.result
    ∙ ap (λ parts. alternation (trees (map tree_of parts))) c.from.ensures
    ∙ others_alternate patterns.items (λ one. c.if-len-eq1.false (c.len.ensures ∙ patterns.ok.0 ∙ one))
    ∙ ap one_of c.in_ok-patterns.ensures
