-- The files that a tree command works on under rules of what is ignored.
use Rattle.std.specs.Prelude.{◌≡◌, false, ℕ, List, ◌++◌, map, Some, true}
use Rattle.sd_io.specs.Tree.{NameList, Tree}
use Rattle.sd_io.specs.Paths.{reached}
use Rattle.sd_ignore.specs.declared.rule.Rule.{Rule}
use Rattle.sd_ignore.specs.Ignored.{IsIgnored}
use Rattle.chosen_files.specs.Chosen.{IsChosen, IsListOf, path_from}

-- A kept file is a chosen one whose names after the root's aren't ignored.
pub record IsKept (tree : Tree) (root : NameList) (globs : List (List ℕ)) (rules : List Rule) (place : NameList) : Type 0 where
  pub chosen : IsChosen tree root globs place
  pub not_ignored : ¬ IsIgnored rules chosen.names false

-- the kept files below a root, in the order of name lists
abbrev pub Kept : Tree → NameList → List (List ℕ) → List Rule → List NameList → Type 0
Kept tree root globs rules places = IsListOf (IsKept tree root globs rules) places

-- The paths of the kept files below the node that the root leads to, links followed: each is of the root as it was given, and the file's names from there.
pub record ListsKept (tree : Tree) (root : List ℕ) (globs : List (List ℕ)) (rules : List Rule) (paths : List (List ℕ)) : Type 0 where
  pub top : NameList
  pub leads : reached tree root true ≡ Some top
  pub places : List NameList
  pub kept : Kept tree top globs rules places
  pub names : List NameList
  pub places_are : places ≡ map (λ below. top ++ below) names
  pub paths_are : paths ≡ map (path_from root) names
