use Rattle.std.proofs.Common.{subst, All}
use Rattle.hir_tree.specs.Tree.{tree_of}
use Rattle.std.proofs.lemmas.List.{take_all}
use Rattle.grep_regex.specs.Exact.{IsTidy}
use Rattle.grep_regex.proofs.stripping.WalkLemmas.{all-next, row, row-tidy}
use Rattle.grep_regex.proofs.stripping.+sorted.Goals as goal

pub show_sorted_classes-returns-in-Concat : goal.show_sorted_classes-returns-in-Concat
show_sorted_classes-returns-in-Concat t c =
    let law = c.a_tree_is_made_of_the_trees_of_the_parts.ensures in
    let hirs = c.in-Concat.hirs in
    row-tidy (tree_of c.args.hir.now) c.parts.result.now
    (row c.args.hir.now hirs c.parts.result.now c.in-Concat.is (law.concat hirs) (law.alternation hirs) c.parts.ensures)
    c.show_sorted_classes_of_each.ensures

pub show_sorted_classes_of_each-loop-part-preserved : goal.show_sorted_classes_of_each-loop-part-preserved
show_sorted_classes_of_each-loop-part-preserved t c =
    all-next (λ part. IsTidy (tree_of part)) c.args.parts.now c.loop-part.part-index c.part-item.result c.loop-part-test.true c.part-item.is c.loop-part.invariant
    c.show_sorted_classes.ensures

pub show_sorted_classes_of_each-returns : goal.show_sorted_classes_of_each-returns
show_sorted_classes_of_each-returns t c =
    subst (All (λ part. IsTidy (tree_of part))) (take_all c.loop-part.part-index c.args.parts.now c.loop-part-test.false) c.loop-part.invariant
