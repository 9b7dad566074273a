-- Trees of patterns that can be searched.
use Rattle.std.specs.Prelude.{ℕ, Bool, true, nat_le, nat_lt, ◌&&◌, length, Option, None, Some}
use Rattle.hir_tree.specs.Tree.{Tree, Trees, empty, literal, class_chars, class_bytes, look, repetition, capture, concat, alternation, none, more, tree_of}
use Rattle.hir_tree.specs.declared.hir.Hir.{Hir}

-- the most times, if there are any, are no fewer than the least
abbrev pub is_ordered : ℕ → Option ℕ → Bool
is_ordered least None = true
is_ordered least (Some most) = nat_le least most

abbrev mutual
  -- no literal of the tree is empty, and no repetition ends below its least
  pub is_sound_tree : Tree → Bool
  is_sound_tree empty = true
  is_sound_tree (literal bytes) = nat_lt 0 (length bytes)
  is_sound_tree (class_chars ranges) = true
  is_sound_tree (class_bytes ranges) = true
  is_sound_tree (look kind) = true
  is_sound_tree (repetition least most greedy part) = is_ordered least most && is_sound_tree part
  is_sound_tree (capture index name part) = is_sound_tree part
  is_sound_tree (concat parts) = are_sound_trees parts
  is_sound_tree (alternation parts) = are_sound_trees parts

  -- so is each of the trees
  pub are_sound_trees : Trees → Bool
  are_sound_trees none = true
  are_sound_trees (more part rest) = is_sound_tree part && are_sound_trees rest

-- so is the tree in memory
abbrev pub is_sound : Hir → Bool
is_sound hir = is_sound_tree (tree_of hir)
