-- The spots and the groups of trees in a row.
use Rattle.std.proofs.Common.{◌≡◌, ℕ, ◌+◌, max, List, [], ◌∷◌, map, length, refl, ap, ◌∙◌}
use Rattle.std.specs.Prelude.{sum}
use Rattle.std.proofs.lemmas.List.{length-map}
use Rattle.hir_tree.specs.Hirs.{parts_of}
use Rattle.hir_tree.specs.Spots.{spots_of, spots_of_tree, spots_of_trees, groups_of, groups_of_tree, groups_of_trees, greatest}
use Rattle.hir_tree.specs.Tree.{Tree, concat, alternation, trees, tree_of}
use Rattle.hir_tree.specs.declared.hir.Hir.{Hir}
use Rattle.hir_tree.specs.declared.hir.Hir.TheVariants.{Concat, Alternation}
use Rattle.hir_tree.specs.declared.hir.Hirs.{Hirs}
use Rattle.hir_tree.proofs.tree_laws.TreeLemmas.{tree_concat, tree_alternation}

pub groups_each : (parts : List Tree) → groups_of_trees (trees parts) ≡ map groups_of_tree parts
groups_each [] = refl
groups_each (part ∷ rest) = ap (λ groups. groups_of_tree part ∷ groups) (groups_each rest)

pub spots_each : (parts : List Tree) → spots_of_trees (trees parts) ≡ map spots_of_tree parts
spots_each [] = refl
spots_each (part ∷ rest) = ap (λ spots. spots_of_tree part ∷ spots) (spots_each rest)

pub concat_spots : (parts : List Tree) → spots_of_tree (concat (trees parts)) ≡ max 1 (sum (map spots_of_tree parts))
concat_spots parts = ap (λ spots. max 1 (sum spots)) (spots_each parts)

pub alternation_spots : (parts : List Tree) → spots_of_tree (alternation (trees parts)) ≡ max 1 (sum (map spots_of_tree parts) + length parts)
alternation_spots parts =
    ap (λ spots. max 1 (sum spots + length spots)) (spots_each parts)
    ∙ ap (λ (n : ℕ). max 1 (sum (map spots_of_tree parts) + n)) (length-map parts spots_of_tree)

groups_in_memory : (parts : List Hir) → groups_of_trees (trees (map tree_of parts)) ≡ map groups_of parts
groups_in_memory [] = refl
groups_in_memory (part ∷ rest) = ap (λ groups. groups_of part ∷ groups) (groups_in_memory rest)

spots_in_memory : (parts : List Hir) → spots_of_trees (trees (map tree_of parts)) ≡ map spots_of parts
spots_in_memory [] = refl
spots_in_memory (part ∷ rest) = ap (λ spots. spots_of part ∷ spots) (spots_in_memory rest)

pub groups_concat : (hirs : Hirs) → groups_of (Concat hirs) ≡ greatest (map groups_of (parts_of hirs))
groups_concat hirs = ap groups_of_tree (tree_concat hirs) ∙ ap greatest (groups_in_memory (parts_of hirs))

pub groups_alternation : (hirs : Hirs) → groups_of (Alternation hirs) ≡ greatest (map groups_of (parts_of hirs))
groups_alternation hirs = ap groups_of_tree (tree_alternation hirs) ∙ ap greatest (groups_in_memory (parts_of hirs))

pub spots_concat : (hirs : Hirs) → spots_of (Concat hirs) ≡ max 1 (sum (map spots_of (parts_of hirs)))
spots_concat hirs = ap spots_of_tree (tree_concat hirs) ∙ ap (λ spots. max 1 (sum spots)) (spots_in_memory (parts_of hirs))

pub spots_alternation : (hirs : Hirs) → spots_of (Alternation hirs) ≡ max 1 (sum (map spots_of (parts_of hirs)) + length (parts_of hirs))
spots_alternation hirs =
    ap spots_of_tree (tree_alternation hirs)
    ∙ ap (λ spots. max 1 (sum spots + length spots)) (spots_in_memory (parts_of hirs))
    ∙ ap (λ (n : ℕ). max 1 (sum (map spots_of (parts_of hirs)) + n)) (length-map (parts_of hirs) spots_of)
