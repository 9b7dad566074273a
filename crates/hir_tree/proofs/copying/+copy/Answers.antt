use Rattle.std.proofs.Common.{map, sym, ap, ◌∙◌}
use Rattle.hir_tree.specs.Tree.{alternation, concat, tree_of, trees}
use Rattle.hir_tree.proofs.tree_laws.TreeLemmas.{tree_concat, tree_alternation}
use Rattle.hir_tree.proofs.copying.+copy.Goals as goal

pub copied-returns-in_ok-copied_parts-in-Concat : goal.copied-returns-in_ok-copied_parts-in-Concat
copied-returns-in_ok-copied_parts-in-Concat t c =
    tree_concat c.in_ok-copied_parts-in-Concat.field-0
    ∙ ap (λ parts. concat (trees parts)) (c.in_ok-copied_parts-in-Concat.ensures ∙ ap (map tree_of) c.parts.ensures)
    ∙ sym (ap tree_of c.in-Concat.is ∙ tree_concat c.in-Concat.hirs)

pub copied-returns-in_ok-copied_parts-in-Alternation : goal.copied-returns-in_ok-copied_parts-in-Alternation
copied-returns-in_ok-copied_parts-in-Alternation t c =
    tree_alternation c.in_ok-copied_parts-in-Alternation.field-0
    ∙ ap (λ parts. alternation (trees parts)) (c.in_ok-copied_parts-in-Alternation.ensures ∙ ap (map tree_of) c.parts-in-Alternation.ensures)
    ∙ sym (ap tree_of c.in-Alternation.is ∙ tree_alternation c.in-Alternation.hirs)
