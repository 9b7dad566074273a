-- Patterns that are one text, and where a text stands.
use Rattle.std.specs.Prelude.{◌≡◌, ℕ, ◌+◌, Bool, List, [], ◌∷◌, ◌++◌, length, drop, replicate, slice_set, Option, Some, None, nat_eq, option_map, option_and_then, if◌then◌else◌}
use Rattle.std.specs.List.{starts_with}
use Rattle.hir_tree.specs.Cores.{core_of_tree}
use Rattle.hir_tree.specs.Runs.{preferred}
use Rattle.hir_tree.specs.Tree.{Tree, Trees, empty, literal, class_chars, class_bytes, look, repetition, capture, concat, alternation, none, more, tree_of}
use Rattle.hir_tree.specs.declared.hir.Hir.{Hir}

-- two texts joined, if both are there
abbrev pub joined : Option (List ℕ) → Option (List ℕ) → Option (List ℕ)
joined first second = option_and_then (λ xs. option_map (λ ys. xs ++ ys) second) first

-- all texts one after the other, if all are there
abbrev pub joined_all : List (Option (List ℕ)) → Option (List ℕ)
joined_all [] = Some []
joined_all (first ∷ rest) = joined first (joined_all rest)

abbrev mutual
  -- the bytes of a tree that is one text
  pub text_of_tree : Tree → Option (List ℕ)
  text_of_tree empty = Some []
  text_of_tree (literal bytes) = Some bytes
  text_of_tree (class_chars ranges) = None
  text_of_tree (class_bytes ranges) = None
  text_of_tree (look kind) = None
  text_of_tree (repetition least most greedy part) = None
  text_of_tree (capture index name part) = None
  text_of_tree (concat parts) = joined_all (texts_of_trees parts)
  text_of_tree (alternation parts) = None

  -- the bytes of each tree that is one text
  pub texts_of_trees : Trees → List (Option (List ℕ))
  texts_of_trees none = []
  texts_of_trees (more part rest) = text_of_tree part ∷ texts_of_trees rest

-- the bytes of a tree in memory that is one text
abbrev pub text_of : Hir → Option (List ℕ)
text_of hir = text_of_tree (tree_of hir)

-- the bytes stand in the text at a place
abbrev pub stands_at : List ℕ → List ℕ → ℕ → Bool
stands_at bytes text at = starts_with nat_eq (drop at text) bytes

-- the groups of a match of these bytes at a place: group 0 has them, and no other is set
abbrev pub text_groups : List ℕ → ℕ → ℕ → List (Option (ℕ × ℕ))
text_groups bytes groups at = slice_set (replicate (groups + 1) None) 0 (Some (at, at + length bytes))

-- those groups, where the bytes stand at the place
abbrev pub text_found : List ℕ → ℕ → List ℕ → ℕ → Option (List (Option (ℕ × ℕ)))
text_found bytes groups text at = if stands_at bytes text at then Some (text_groups bytes groups at) else None

-- the preferred match of a pattern that is one text is that text, where it stands
abbrev pub OneTextMatchesWhereItStands : Type 0
OneTextMatchesWhereItStands = (tree : Tree) (bytes : List ℕ) → text_of_tree tree ≡ Some bytes → (groups : ℕ) (text : List ℕ) (at : ℕ)
    → preferred (core_of_tree tree) groups text at ≡ text_found bytes groups text at
