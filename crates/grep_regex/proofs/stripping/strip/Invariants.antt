use Rattle.std.proofs.Common.{◌≡◌, ◌⊎◌, drop}
use Rattle.hir_tree.specs.Tree.{tree_of}
use Rattle.grep_regex.specs.Exact.{IsTidy}
use Rattle.grep_regex.specs.Stripping.{not_allowed, stripped}
use Rattle.grep_regex.proofs.stripping.strip.Given as goal

abbrev pub invariant-loop-byte : goal.invariant-loop-byte
invariant-loop-byte l = record {
  stripped : stripped (drop l.byte-index l.bytes) (tree_of l.hir) ≡ stripped l.bytes (tree_of l.fn.hir);
  allowed : not_allowed (drop l.byte-index l.bytes) (tree_of l.hir) ≡ not_allowed l.bytes (tree_of l.fn.hir);
  sorted : ((l.byte-index ≡ 0) × (tree_of l.hir ≡ tree_of l.fn.hir)) ⊎ IsTidy (tree_of l.fn.hir);
}
