use Rattle.std.proofs.Common.{◌≡◌, max, map, drop}
use Rattle.hir_tree.specs.Spots.{greatest, groups_of}
use Rattle.hir_tree.proofs.count.+groups.Given as goal

abbrev pub invariant-greatest_index-loop-part : goal.invariant-greatest_index-loop-part
invariant-greatest_index-loop-part l = max l.index (greatest (map groups_of (drop l.part-index l.parts))) ≡ greatest (map groups_of l.parts)
