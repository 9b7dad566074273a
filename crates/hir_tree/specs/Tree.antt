-- The tree of a pattern, without where it lies in memory.
use Rattle.std.specs.Prelude.{ℕ, Bool, List, [], ◌∷◌, Option}
use Rattle.hir_tree.specs.declared.look.Look.{Look}
use Rattle.hir_tree.specs.declared.hir.Hir.{Hir, Empty, Literal, ClassChars, ClassBytes, Look as LookAt, Repetition', Capture', Concat', Alternation', Row_of-Hir, end_of-Hir, more_of-Hir}

-- A class is the sorted list of its ranges, both ends included.
mutual
  pub data Tree : Type 0 where
    empty : Tree
    literal : List ℕ → Tree
    class_chars : List (ℕ × ℕ) → Tree
    class_bytes : List (ℕ × ℕ) → Tree
    look : Look → Tree
    -- a part from so many times to so many, or without a bound; more are preferred if the flag is true
    repetition : ℕ → Option ℕ → Bool → Tree → Tree
    -- the group with this index, and with this name if it has one
    capture : ℕ → Option (List ℕ) → Tree → Tree
    concat : Trees → Tree
    alternation : Trees → Tree

  pub data Trees : Type 0 where
    none : Trees
    more : Tree → Trees → Trees

-- the trees of a list
abbrev pub trees : List Tree → Trees
trees [] = none
trees (tree ∷ rest) = more tree (trees rest)

abbrev mutual
  -- the tree that lies in memory
  pub tree_of : Hir → Tree
  tree_of Empty = empty
  tree_of (Literal bytes) = literal bytes
  tree_of (ClassChars ranges) = class_chars ranges
  tree_of (ClassBytes ranges) = class_bytes ranges
  tree_of (LookAt kind) = look kind
  tree_of (Repetition' least most greedy at part) = repetition least most greedy (tree_of part)
  tree_of (Capture' index name at part) = capture index name (tree_of part)
  tree_of (Concat' shape parts) = concat (trees_of parts)
  tree_of (Alternation' shape parts) = alternation (trees_of parts)

  -- the tree of each part
  pub trees_of : {n : _} → Row_of-Hir n → Trees
  trees_of end_of-Hir = none
  trees_of (more_of-Hir part rest) = more (tree_of part) (trees_of rest)
