-- The tree of a pattern with each class as the set of its members.
use Rattle.std.specs.Prelude.{ℕ, Bool, List, [], ◌∷◌, ◌&&◌, nat_lt, Option}
use Rattle.hir_tree.specs.declared.look.Look.{Look}
use Rattle.hir_tree.specs.Runs.{in_set}
use Rattle.hir_tree.specs.Tree as hir_tree
use Rattle.hir_tree.specs.Tree.{Tree, Trees}
use Rattle.pattern_syntax.specs.Sets.{Set, is_scalar}

mutual
  pub data SetTree : Type 0 where
    empty : SetTree
    literal : List ℕ → SetTree
    chars : Set → SetTree
    bytes : Set → SetTree
    looks : Look → SetTree
    -- a part from so many times to so many, or without a bound; more are preferred if the flag is true
    repetition : ℕ → Option ℕ → Bool → SetTree → SetTree
    -- the group with this index, and with this name if it has one
    capture : ℕ → Option (List ℕ) → SetTree → SetTree
    concat : SetTrees → SetTree
    alternation : SetTrees → SetTree

  pub data SetTrees : Type 0 where
    none : SetTrees
    more : SetTree → SetTrees → SetTrees

-- the trees of a list
abbrev pub trees : List SetTree → SetTrees
trees [] = none
trees (tree ∷ rest) = more tree (trees rest)

abbrev mutual
  -- a tree with the set of each class in place of its ranges
  pub with_sets : Tree → SetTree
  with_sets hir_tree.empty = empty
  with_sets (hir_tree.literal text) = literal text
  with_sets (hir_tree.class_chars ranges) = chars (λ c. is_scalar c && in_set ranges c)
  with_sets (hir_tree.class_bytes ranges) = bytes (λ c. nat_lt c 256 && in_set ranges c)
  with_sets (hir_tree.look kind) = looks kind
  with_sets (hir_tree.repetition least most greedy part) = repetition least most greedy (with_sets part)
  with_sets (hir_tree.capture index name part) = capture index name (with_sets part)
  with_sets (hir_tree.concat parts) = concat (all_with_sets parts)
  with_sets (hir_tree.alternation parts) = alternation (all_with_sets parts)

  -- each of the trees, so
  pub all_with_sets : Trees → SetTrees
  all_with_sets hir_tree.none = none
  all_with_sets (hir_tree.more part rest) = more (with_sets part) (all_with_sets rest)
