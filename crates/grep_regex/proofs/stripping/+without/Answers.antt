use Rattle.std.proofs.Common.{refl, map, ap, ◌∙◌}
use Rattle.hir_tree.specs.Hirs.{parts_of}
use Rattle.hir_tree.specs.Tree.{alternation, concat, tree_of}
use Rattle.grep_regex.proofs.stripping.WalkLemmas.{row-stripped}
use Rattle.grep_regex.proofs.stripping.+without.Goals as goal

pub without_byte-returns-in_ok-parts-in-Concat : goal.without_byte-returns-in_ok-parts-in-Concat
without_byte-returns-in_ok-parts-in-Concat t c =
    let law = c.a_tree_is_made_of_the_trees_of_the_parts.ensures in
    let new = c.from.result in
    let old = c.in-Concat.hirs in
    row-stripped concat c.args.byte _ (tree_of c.args.hir) (parts_of new) c.into_parts.result.items (parts_of old) (λ each. refl) (law.concat new)
    (ap (map tree_of) c.from.ensures ∙ c.in_ok-parts-in-Concat.ensures) c.into_parts.ensures (ap tree_of c.in-Concat.is ∙ law.concat old)

pub without_byte-returns-in_ok-parts-in-Alternation : goal.without_byte-returns-in_ok-parts-in-Alternation
without_byte-returns-in_ok-parts-in-Alternation t c =
    let law = c.a_tree_is_made_of_the_trees_of_the_parts.ensures in
    let new = c.from-in-Alternation.result in
    let old = c.in-Alternation.hirs in
    row-stripped alternation c.args.byte _ (tree_of c.args.hir) (parts_of new) c.into_parts-in-Alternation.result.items (parts_of old) (λ each. refl) (law.alternation new)
    (ap (map tree_of) c.from-in-Alternation.ensures ∙ c.in_ok-parts-in-Alternation.ensures) c.into_parts-in-Alternation.ensures (ap tree_of c.in-Alternation.is ∙ law.alternation old)
