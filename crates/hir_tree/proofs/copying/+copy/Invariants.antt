use Rattle.std.proofs.Common.{◌≡◌, map, take}
use Rattle.hir_tree.specs.Hirs.{parts_of}
use Rattle.hir_tree.specs.Tree.{tree_of}
use Rattle.hir_tree.proofs.copying.+copy.Given as goal

abbrev pub invariant-copied_parts-loop-part : goal.invariant-copied_parts-loop-part
invariant-copied_parts-loop-part l = map tree_of (parts_of l.copies) ≡ map tree_of (take l.part-index l.parts)
