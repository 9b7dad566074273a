-- How many entries lie below a root.
use Rattle.std.specs.Prelude.{◌≡◌, ◌≢◌, ◌<◌, ◌≤◌, ℕ, List, [], ◌++◌, length, All, true, Some, IsSome}
use Rattle.std.specs.List.Sorted.{IsStrictlySortedBy}
use Rattle.sd_io.specs.Tree.{NameList, Tree, name_list_cmp, node_at}
use Rattle.sd_io.specs.Paths.{reached}
use Rattle.chosen_files.specs.Chosen.{IsListOf}

-- something stands properly below a top
abbrev pub IsBelow : Tree → NameList → NameList → Type 0
IsBelow tree top place = (names : NameList) × (place ≡ top ++ names) × (names ≢ []) × IsSome (node_at tree place)

-- all that stands properly below the node that a root leads to
pub record ListsBelow (tree : Tree) (root : List ℕ) (places : List NameList) : Type 0 where
  pub top : NameList
  pub leads : reached tree root true ≡ Some top
  pub are_all : IsListOf (IsBelow tree top) places

-- at each of these places, each named once, something stands properly below the node that a root leads to
pub record FindsBelow (tree : Tree) (root : List ℕ) (places : List NameList) : Type 0 where
  pub top : NameList
  pub leads : reached tree root true ≡ Some top
  pub in_order : IsStrictlySortedBy name_list_cmp places
  pub each : All (IsBelow tree top) places

-- fewer than so many entries lie below a root
abbrev pub HasFewerBelow : ℕ → Tree → List ℕ → Type 0
HasFewerBelow cap tree root = (places : List NameList) × ListsBelow tree root places × (length places < cap)

-- so many entries, or more, lie below a root
abbrev pub HasManyBelow : ℕ → Tree → List ℕ → Type 0
HasManyBelow cap tree root = (places : List NameList) × FindsBelow tree root places × (cap ≤ length places)
