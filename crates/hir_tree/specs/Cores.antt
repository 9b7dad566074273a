-- The core of the tree of a pattern.
use Rattle.std.specs.Prelude.{ℕ, ◌+◌, List, [], ◌∷◌}
use Rattle.hir_tree.specs.Core.{Core}
use Rattle.hir_tree.specs.Core as core
use Rattle.hir_tree.specs.Tree.{Tree, Trees, empty, literal, class_chars, class_bytes, look, repetition, capture, concat, alternation, none, more, tree_of}
use Rattle.hir_tree.specs.declared.hir.Hir.{Hir}

abbrev mutual
  -- the core of a tree
  pub core_of_tree : Tree → Core
  core_of_tree empty = core.empty
  core_of_tree (literal bytes) = core.literal bytes
  core_of_tree (class_chars ranges) = core.char_in ranges
  core_of_tree (class_bytes ranges) = core.byte_in ranges
  core_of_tree (look kind) = core.look kind
  core_of_tree (repetition least most greedy part) = core.repeat least most greedy (core_of_tree part)
  core_of_tree (capture index name part) = core.group index (core_of_tree part)
  core_of_tree (concat parts) = core.pair_all (cores_of_trees parts)
  core_of_tree (alternation parts) = core.choice_all (cores_of_trees parts)

  -- the core of each tree
  pub cores_of_trees : Trees → List Core
  cores_of_trees none = []
  cores_of_trees (more part rest) = core_of_tree part ∷ cores_of_trees rest

-- the core of a tree in memory
abbrev pub core_of : Hir → Core
core_of hir = core_of_tree (tree_of hir)

-- the spots of a core: one for a byte, a look, a choice and the end of a group, one to go on with a plus, and four for the bytes of a character
abbrev pub core_spots : Core → ℕ
core_spots core.empty = 0
core_spots (core.byte_in ranges) = 1
core_spots (core.char_in ranges) = 4
core_spots (core.look kind) = 1
core_spots (core.group index a) = 1 + core_spots a
core_spots (core.pair a b) = core_spots a + core_spots b
core_spots (core.choice a b) = 1 + core_spots a + core_spots b
core_spots core.none = 0
core_spots (core.plus greedy a) = 1 + core_spots a
