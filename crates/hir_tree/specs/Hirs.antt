-- Lists of trees.
use Rattle.std.specs.Prelude.{List}
use Rattle.hir_tree.specs.declared.hir.Hir.{Hir}
use Rattle.hir_tree.specs.declared.hir.Hirs.{Hirs}

-- the trees of a list
abbrev pub parts_of : Hirs → List Hir
parts_of hirs = hirs.parts.items
