-- How many spots the tree of a pattern takes when it is searched, and how many groups it has.
use Rattle.std.specs.Prelude.{ℕ, ◌+◌, ◌*◌, ◌-◌, ◌==◌, ◌&&◌, max, List, [], ◌∷◌, length, sum, Option, None, Some, if◌then◌else◌}
use Rattle.hir_tree.specs.Tree.{Tree, Trees, empty, literal, class_chars, class_bytes, look, repetition, capture, concat, alternation, none, more, tree_of}
use Rattle.hir_tree.specs.declared.hir.Hir.{Hir}

-- the spots of a part of so many spots that is written out from `least` to `most` times
abbrev pub repeated_spots : ℕ → ℕ → Option ℕ → ℕ
repeated_spots spots least None = if least == 0 then spots + 2 else least * spots + 1
repeated_spots spots least (Some most) = if least == 0 && most == 0 then 1 else least * spots + (most - least) * (spots + 1)

abbrev mutual
  -- the spots of a tree
  pub spots_of_tree : Tree → ℕ
  spots_of_tree empty = 1
  spots_of_tree (literal bytes) = length bytes
  spots_of_tree (class_chars ranges) = 4
  spots_of_tree (class_bytes ranges) = 1
  spots_of_tree (look kind) = 1
  spots_of_tree (repetition least most greedy part) = repeated_spots (spots_of_tree part) least most
  spots_of_tree (capture index name part) = spots_of_tree part + 2
  spots_of_tree (concat parts) = max 1 (sum (spots_of_trees parts))
  spots_of_tree (alternation parts) = max 1 (sum (spots_of_trees parts) + length (spots_of_trees parts))

  -- the spots of each tree
  pub spots_of_trees : Trees → List ℕ
  spots_of_trees none = []
  spots_of_trees (more part rest) = spots_of_tree part ∷ spots_of_trees rest

-- the spots of a tree in memory
abbrev pub spots_of : Hir → ℕ
spots_of hir = spots_of_tree (tree_of hir)

-- the greatest of the numbers, 0 where there is none
abbrev pub greatest : List ℕ → ℕ
greatest [] = 0
greatest (n ∷ rest) = max n (greatest rest)

abbrev mutual
  -- the greatest index of a group in a tree, 0 where there is none
  pub groups_of_tree : Tree → ℕ
  groups_of_tree empty = 0
  groups_of_tree (literal bytes) = 0
  groups_of_tree (class_chars ranges) = 0
  groups_of_tree (class_bytes ranges) = 0
  groups_of_tree (look kind) = 0
  groups_of_tree (repetition least most greedy part) = groups_of_tree part
  groups_of_tree (capture index name part) = max index (groups_of_tree part)
  groups_of_tree (concat parts) = greatest (groups_of_trees parts)
  groups_of_tree (alternation parts) = greatest (groups_of_trees parts)

  -- the greatest index in each tree
  pub groups_of_trees : Trees → List ℕ
  groups_of_trees none = []
  groups_of_trees (more part rest) = groups_of_tree part ∷ groups_of_trees rest

-- the greatest index of a group in a tree in memory, 0 where there is none
abbrev pub groups_of : Hir → ℕ
groups_of hir = groups_of_tree (tree_of hir)
