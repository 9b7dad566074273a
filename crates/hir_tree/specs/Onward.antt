-- Patterns that don't look about, and that matches rest on what lies ahead.
use Rattle.std.specs.Prelude.{◌≡◌, ℕ, ◌≤◌, Bool, true, false, ◌&&◌, List, length, drop, IfSome}
use Rattle.hir_tree.specs.Core.{Core}
use Rattle.hir_tree.specs.Cores.{core_of_tree}
use Rattle.hir_tree.specs.Groups.{EachLiesFrom}
use Rattle.hir_tree.specs.Runs.{preferred}
use Rattle.hir_tree.specs.Tree.{Tree, Trees, empty, literal, class_chars, class_bytes, look, repetition, capture, concat, alternation, none, more, tree_of}
use Rattle.hir_tree.specs.declared.hir.Hir.{Hir}

abbrev mutual
  -- no part of the tree is a look
  pub looks_nowhere : Tree → Bool
  looks_nowhere empty = true
  looks_nowhere (literal bytes) = true
  looks_nowhere (class_chars ranges) = true
  looks_nowhere (class_bytes ranges) = true
  looks_nowhere (look kind) = false
  looks_nowhere (repetition least most greedy part) = looks_nowhere part
  looks_nowhere (capture index name part) = looks_nowhere part
  looks_nowhere (concat parts) = all_look_nowhere parts
  looks_nowhere (alternation parts) = all_look_nowhere parts

  -- so is it with each of the trees
  pub all_look_nowhere : Trees → Bool
  all_look_nowhere none = true
  all_look_nowhere (more part rest) = looks_nowhere part && all_look_nowhere rest

-- so is it with the tree in memory
abbrev pub looks_nowhere_of : Hir → Bool
looks_nowhere_of hir = looks_nowhere (tree_of hir)

-- What a pattern that looks nowhere matches from a place on rests, in texts of one length, on the bytes from there on alone.
abbrev pub MatchesByWhatFollows : Type 0
MatchesByWhatFollows = (tree : Tree) → looks_nowhere tree ≡ true → (groups : ℕ) (one other : List ℕ) (at : ℕ)
    → length one ≡ length other → drop at one ≡ drop at other
    → preferred (core_of_tree tree) groups one at ≡ preferred (core_of_tree tree) groups other at

-- each group that is set in a preferred match begins at the place of the match, or after it
abbrev pub GroupsLieAhead : Type 0
GroupsLieAhead = (core : Core) (groups : ℕ) (text : List ℕ) (at : ℕ) → at ≤ length text → IfSome (preferred core groups text at) (EachLiesFrom at)
