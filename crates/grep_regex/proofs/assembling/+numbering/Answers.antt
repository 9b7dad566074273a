use Rattle.std.proofs.Common.{map, sym, ap, ◌∙◌, arith, rules}
use Rattle.hir_tree.specs.declared.hir.Hir.{the_lemmas}
use Rattle.hir_tree.specs.Tree.{alternation, concat, tree_of, trees}
use Rattle.grep_regex.specs.Options.{numbered_from}
use Rattle.grep_regex.proofs.assembling.NumberingLemmas.{at_most_greatest, each_numbered_from-trees}
use Rattle.grep_regex.proofs.assembling.+numbering.Goals as goal

pub each_numbered_from-numbered_from-requires : goal.each_numbered_from-numbered_from-requires
each_numbered_from-numbered_from-requires t c =
    let within = at_most_greatest c.args.parts.now c.loop-part.part-index c.part-item.result c.loop-part-test.true c.part-item.is in
    (search (rules, the_lemmas), omega arith)

pub numbered_from-returns-in_ok-each_numbered_from-in-Concat : goal.numbered_from-returns-in_ok-each_numbered_from-in-Concat
numbered_from-returns-in_ok-each_numbered_from-in-Concat t c =
    let made = c.a_tree_is_made_of_the_trees_of_the_parts.ensures.concat in
    made c.in_ok-each_numbered_from-in-Concat.field-0
    ∙ ap (λ parts. concat (trees parts)) (c.in_ok-each_numbered_from-in-Concat.ensures
    ∙ ap (λ parts. map (numbered_from c.args.by) (map tree_of parts)) c.parts.ensures)
    ∙ sym (ap (λ hir. numbered_from c.args.by (tree_of hir)) c.in-Concat.is
    ∙ ap (numbered_from c.args.by) (made c.in-Concat.hirs)
    ∙ ap concat (each_numbered_from-trees c.args.by (map tree_of c.in-Concat.hirs.parts.items)))

pub numbered_from-returns-in_ok-each_numbered_from-in-Alternation : goal.numbered_from-returns-in_ok-each_numbered_from-in-Alternation
numbered_from-returns-in_ok-each_numbered_from-in-Alternation t c =
    let made = c.a_tree_is_made_of_the_trees_of_the_parts.ensures.alternation in
    made c.in_ok-each_numbered_from-in-Alternation.field-0
    ∙ ap (λ parts. alternation (trees parts)) (c.in_ok-each_numbered_from-in-Alternation.ensures
    ∙ ap (λ parts. map (numbered_from c.args.by) (map tree_of parts)) c.parts-in-Alternation.ensures)
    ∙ sym (ap (λ hir. numbered_from c.args.by (tree_of hir)) c.in-Alternation.is
    ∙ ap (numbered_from c.args.by) (made c.in-Alternation.hirs)
    ∙ ap alternation (each_numbered_from-trees c.args.by (map tree_of c.in-Alternation.hirs.parts.items)))
