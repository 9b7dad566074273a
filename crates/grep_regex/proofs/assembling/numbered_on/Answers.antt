use Rattle.std.proofs.Common.{◌+◌, ap, ◌∙◌, map, sum}
use Rattle.hir_tree.specs.Spots.{groups_of}
use Rattle.hir_tree.specs.Tree.{tree_of}
use Rattle.grep_regex.proofs.assembling.NumberingLemmas.{counted_pushed, numbered_pushed}
use Rattle.grep_regex.proofs.assembling.numbered_on.Goals as goal

pub loop-hir-preserved : goal.loop-hir-preserved
loop-hir-preserved c = record {
  numbered =
      ap (map tree_of) c.in_ok-push.ensures.items
      ∙ numbered_pushed c.loop-hir.yielded c.loop-hir.patterns.items c.in-Some.hir c.in_ok-moved_on.field-0 c.loop-hir.groups
      c.loop-hir.invariant.numbered c.loop-hir.invariant.groups c.in_ok-moved_on.ensures;
  groups =
      ap (λ n. n + c.group_count-count.result) c.loop-hir.invariant.groups
      ∙ ap (λ n. sum (map groups_of c.loop-hir.yielded) + n) c.group_count-count.ensures
      ∙ counted_pushed c.loop-hir.yielded c.in-Some.hir;
}
