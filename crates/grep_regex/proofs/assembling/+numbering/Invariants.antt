use Rattle.std.proofs.Common.{◌≡◌, map, take}
use Rattle.hir_tree.specs.Hirs.{parts_of}
use Rattle.hir_tree.specs.Tree.{tree_of}
use Rattle.grep_regex.specs.Options.{numbered_from}
use Rattle.grep_regex.proofs.assembling.+numbering.Given as goal

abbrev pub invariant-each_numbered_from-loop-part : goal.invariant-each_numbered_from-loop-part
invariant-each_numbered_from-loop-part l =
    map tree_of (parts_of l.moved) ≡ map (numbered_from l.by) (map tree_of (take l.part-index l.parts))
