use Rattle.std.proofs.Common.{◌∙◌, map, sym, ap, inl, inr}
use Rattle.grep_regex.specs.Anchors.{includes}
use Rattle.grep_regex.specs.NonMatching.{has_look, one_has_look}
use Rattle.grep_regex.proofs.non_matching.+anchors.Goals as goal
use Rattle.hir_tree.specs.Tree.{tree_of, trees}

pub has_anchor-returns-in-Concat : goal.has_anchor-returns-in-Concat
has_anchor-returns-in-Concat t c =
    let test = includes c.args.anchors in let hirs = c.in-Concat.hirs in let law = c.a_tree_is_made_of_the_trees_of_the_parts.ensures in
    let found = c.one_has_anchor.ensures ∙ ap (λ parts. one_has_look test (trees (map tree_of parts))) c.parts.ensures in
    elim c.in-Concat.is [
      | inl concat ↦ found ∙ sym (ap (has_look test) (ap tree_of concat ∙ law.concat hirs))
      | inr alternation ↦ found ∙ sym (ap (has_look test) (ap tree_of alternation ∙ law.alternation hirs))
    ]
