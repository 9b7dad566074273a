use Rattle.std.proofs.Common.{take, All}
use Rattle.hir_tree.specs.Tree.{tree_of}
use Rattle.grep_regex.specs.Exact.{IsTidy}
use Rattle.grep_regex.proofs.stripping.+sorted.Given as goal

abbrev pub invariant-show_sorted_classes_of_each-loop-part : goal.invariant-show_sorted_classes_of_each-loop-part
invariant-show_sorted_classes_of_each-loop-part l = All (λ part. IsTidy (tree_of part)) (take l.part-index l.parts)
