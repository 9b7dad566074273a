-- The core of trees in a row.
use Rattle.std.proofs.Common.{◌≡◌, List, [], ◌∷◌, map, refl, ap, ◌∙◌}
use Rattle.hir_tree.specs.Core.{pair_all, choice_all}
use Rattle.hir_tree.specs.Cores.{core_of, core_of_tree, cores_of_trees}
use Rattle.hir_tree.specs.Hirs.{parts_of}
use Rattle.hir_tree.specs.Tree.{Tree, trees, tree_of}
use Rattle.hir_tree.specs.declared.hir.Hir.{Hir}
use Rattle.hir_tree.specs.declared.hir.Hir.TheVariants.{Concat, Alternation}
use Rattle.hir_tree.specs.declared.hir.Hirs.{Hirs}
use Rattle.hir_tree.proofs.tree_laws.TreeLemmas.{tree_concat, tree_alternation}

pub cores_each : (parts : List Tree) → cores_of_trees (trees parts) ≡ map core_of_tree parts
cores_each [] = refl
cores_each (part ∷ rest) = ap (λ cores. core_of_tree part ∷ cores) (cores_each rest)

cores_in_memory : (parts : List Hir) → cores_of_trees (trees (map tree_of parts)) ≡ map core_of parts
cores_in_memory [] = refl
cores_in_memory (part ∷ rest) = ap (λ cores. core_of part ∷ cores) (cores_in_memory rest)

pub core_concat : (hirs : Hirs) → core_of (Concat hirs) ≡ pair_all (map core_of (parts_of hirs))
core_concat hirs = ap core_of_tree (tree_concat hirs) ∙ ap pair_all (cores_in_memory (parts_of hirs))

pub core_alternation : (hirs : Hirs) → core_of (Alternation hirs) ≡ choice_all (map core_of (parts_of hirs))
core_alternation hirs = ap core_of_tree (tree_alternation hirs) ∙ ap choice_all (cores_in_memory (parts_of hirs))
