use Rattle.std.proofs.Common.{List, ◌∙◌, map, sym, ap, subst, inl, inr}
use Rattle.grep_regex.specs.NonMatching.{OneTakes, Takes}
use Rattle.grep_regex.specs.Removed.{HasLost}
use Rattle.grep_regex.proofs.non_matching.+taken.Goals as goal
use Rattle.hir_tree.specs.Tree.{Tree, tree_of, trees}
use Rattle.hir_tree.specs.declared.hir.Hir.{Hir}

pub remove_taken-returns-in-Concat : goal.remove_taken-returns-in-Concat
remove_taken-returns-in-Concat t c =
    let hirs = c.in-Concat.hirs in let law = c.a_tree_is_made_of_the_trees_of_the_parts.ensures in
    let old = c.args.set.now in let new = c.remove_taken_by_parts.new.set in
    let lost = subst (λ (parts : List Hir). HasLost old new (λ b. OneTakes b (trees (map tree_of parts)))) c.parts.ensures c.remove_taken_by_parts.ensures in
    let whole = λ (tree : Tree). HasLost old new (λ b. Takes b tree) in
    elim c.in-Concat.is [
      | inl is ↦ subst whole (sym (ap tree_of is ∙ law.concat hirs)) lost
      | inr is ↦ subst whole (sym (ap tree_of is ∙ law.alternation hirs)) lost
    ]
