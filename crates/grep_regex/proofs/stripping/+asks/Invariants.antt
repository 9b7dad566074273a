use Rattle.std.proofs.Common.{◌≡◌, false, take, All}
use Rattle.std.specs.List.{list_any}
use Rattle.hir_tree.specs.Tree.{tree_of}
use Rattle.grep_regex.specs.Exact.{IsTidy}
use Rattle.grep_regex.specs.Stripping.{asks_for}
use Rattle.grep_regex.proofs.stripping.+asks.Given as goal

abbrev pub invariant-one_asks_for-loop-part : goal.invariant-one_asks_for-loop-part
invariant-one_asks_for-loop-part l = record {
  asks : list_any (λ part. asks_for l.byte (tree_of part)) (take l.part-index l.parts) ≡ false;
  sorted : All (λ part. IsTidy (tree_of part)) (take l.part-index l.parts);
}
