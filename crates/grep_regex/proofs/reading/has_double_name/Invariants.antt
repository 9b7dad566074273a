use Rattle.std.proofs.Common.{map, take}
use Rattle.hir_tree.specs.Tree.{tree_of}
use Rattle.grep_regex.specs.ReadSoFar.{AreKnown, names_in_all}
use Rattle.grep_regex.proofs.reading.has_double_name.Given as goal

abbrev pub invariant-loop-hir : goal.invariant-loop-hir
invariant-loop-hir l = AreKnown l.known (names_in_all (map tree_of (take l.hir-index l.hirs)))
