-- The files that a tree command works on.
use Rattle.std.specs.Prelude.{◌≡◌, ◌≢◌, ◌↔◌, ℕ, List, [], ◌++◌, map, Some, true, Contains}
use Rattle.std.specs.List.{join_with_byte}
use Rattle.std.specs.List.Sorted.{IsStrictlySortedBy}
use Rattle.sd_io.specs.Tree.{NameList, Tree, IsNonemptyFile, name_list_cmp}
use Rattle.sd_io.specs.Paths.{reached}
use Rattle.walk_rest.specs.Plan.{path_below}
use Rattle.chosen_files.specs.Globs.{FitsAny}

-- A chosen file lies properly below the root, is a regular file with at least one byte, and its names after the root's, joined by `/`,
-- fit a glob.
pub record IsChosen (tree : Tree) (root : NameList) (globs : List (List ℕ)) (place : NameList) : Type 0 where
  pub names : NameList
  pub below : place ≡ root ++ names
  pub proper : names ≢ []
  pub is_file : IsNonemptyFile tree place
  pub fits : FitsAny globs (join_with_byte 47 names)

-- the list of the name lists of which a fact holds, strictly in their order
pub record IsListOf (P : NameList → Type 0) (places : List NameList) : Type 0 where
  pub in_order : IsStrictlySortedBy name_list_cmp places
  pub these : (place : NameList) → Contains places place ↔ P place

-- the chosen files below a root, in the order of name lists
abbrev pub Chosen : Tree → NameList → List (List ℕ) → List NameList → Type 0
Chosen tree root globs places = IsListOf (IsChosen tree root globs) places

-- the path of what has these names below a root: the root as it was given, `/` unless it ends with it, and the names joined by `/`
abbrev pub path_from : List ℕ → NameList → List ℕ
path_from root names = path_below root (join_with_byte 47 names)

-- the path is the root as it was given, `/` unless it ends with it, and more
abbrev pub IsPathBelow : List ℕ → List ℕ → Type 0
IsPathBelow root path = (names : List ℕ) × (path ≡ path_below root names)

-- The paths of the chosen files below the node that the root leads to, links followed: each is of the root as it was given, and the file's names from there.
pub record ListsChosen (tree : Tree) (root : List ℕ) (globs : List (List ℕ)) (paths : List (List ℕ)) : Type 0 where
  pub top : NameList
  pub leads : reached tree root true ≡ Some top
  pub places : List NameList
  pub chosen : Chosen tree top globs places
  pub names : List NameList
  pub places_are : places ≡ map (λ below. top ++ below) names
  pub paths_are : paths ≡ map (path_from root) names
