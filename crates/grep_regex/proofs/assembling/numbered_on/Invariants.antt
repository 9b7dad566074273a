use Rattle.std.proofs.Common.{◌≡◌, map, sum}
use Rattle.hir_tree.specs.Spots.{groups_of}
use Rattle.hir_tree.specs.Tree.{tree_of}
use Rattle.grep_regex.specs.Options.{numbered_on}
use Rattle.grep_regex.proofs.assembling.numbered_on.Given as goal

abbrev pub invariant-loop-hir : goal.invariant-loop-hir
invariant-loop-hir l = record {
  numbered : map tree_of l.patterns.items ≡ numbered_on 0 (map tree_of l.yielded);
  groups : l.groups ≡ sum (map groups_of l.yielded);
}
