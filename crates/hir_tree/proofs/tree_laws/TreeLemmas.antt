-- The tree of each form of a pattern, and trees in a row that are sound.
use Rattle.std.proofs.Common.{◌≡◌, List, [], ◌∷◌, map, refl, ap, ◌∙◌, Vec, Global}
use Rattle.std.specs.Prelude.{◌&&◌}
use Rattle.std.specs.List.{list_all}
use mathlib.Core.Former.{Count}
use Rattle.hir_tree.specs.Hirs.{parts_of}
use Rattle.hir_tree.specs.Sound.{is_sound_tree, are_sound_trees}
use Rattle.hir_tree.specs.Tree.{Tree, concat, alternation, more, trees, tree_of, trees_of}
use Rattle.hir_tree.specs.declared.hir.Hir.{Hir, Row_of-Hir, end_of-Hir, more_of-Hir, items-the_row-Hir, items_hidden-the_row-Hir-0}
use Rattle.hir_tree.specs.declared.hir.Hir.TheBlock.{hidden-the_row-Hir-0}
use Rattle.hir_tree.specs.declared.hir.Hir.TheVariants.{Concat, Alternation}
use Rattle.hir_tree.specs.declared.hir.Hirs.{Hirs}

trees_of_row : (n : Count) (row : Row_of-Hir n) → trees_of row ≡ trees (map tree_of (items-the_row-Hir n row))
trees_of_row n end_of-Hir = refl
trees_of_row n (more_of-Hir part rest) = ap (more (tree_of part)) (trees_of_row _ rest)

trees_of_parts : (parts : Vec Hir Global) → trees_of (hidden-the_row-Hir-0 parts) ≡ trees (map tree_of parts.items)
trees_of_parts parts = trees_of_row _ (hidden-the_row-Hir-0 parts) ∙ ap (λ hirs. trees (map tree_of hirs)) (items_hidden-the_row-Hir-0 parts)

pub tree_concat : (hirs : Hirs) → tree_of (Concat hirs) ≡ concat (trees (map tree_of (parts_of hirs)))
tree_concat hirs = ap concat (trees_of_parts hirs.parts)

pub tree_alternation : (hirs : Hirs) → tree_of (Alternation hirs) ≡ alternation (trees (map tree_of (parts_of hirs)))
tree_alternation hirs = ap alternation (trees_of_parts hirs.parts)

pub sound_each : (parts : List Tree) → are_sound_trees (trees parts) ≡ list_all is_sound_tree parts
sound_each [] = refl
sound_each (part ∷ rest) = ap (λ sound. is_sound_tree part && sound) (sound_each rest)
