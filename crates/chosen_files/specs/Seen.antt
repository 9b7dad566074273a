-- Which entries a choice under rules comes to, and how many.
use Rattle.std.specs.Prelude.{◌≡◌, ◌≢◌, ◌<◌, ◌≤◌, ◌+◌, ℕ, List, [], ◌∷◌, ◌++◌, length, All, true, Some, IsSome}
use Rattle.std.specs.List.Sorted.{IsStrictlySortedBy}
use Rattle.sd_io.specs.Tree.{Name, NameList, Tree, name_list_cmp, node_at}
use Rattle.sd_io.specs.Paths.{reached}
use Rattle.sd_ignore.specs.declared.rule.Rule.{Rule}
use Rattle.sd_ignore.specs.Ignored.{IsIgnored}
use Rattle.chosen_files.specs.Chosen.{IsListOf}

-- the directory with these names below a top isn't ignored; the top itself never is
abbrev pub IsEntered : List Rule → NameList → Type 0
IsEntered rules folder = folder ≢ [] → ¬ IsIgnored rules folder true

-- An entry is seen that stands in the top, or in a directory below it that isn't ignored.
pub record IsSeen (tree : Tree) (top : NameList) (rules : List Rule) (place : NameList) : Type 0 where
  pub folder : NameList
  pub name : Name
  pub place_is : place ≡ top ++ (folder ++ name ∷ [])
  pub stands : IsSome (node_at tree place)
  pub entered : IsEntered rules folder

-- all entries that are seen below the node that a root leads to
pub record ListsSeen (tree : Tree) (root : List ℕ) (rules : List Rule) (places : List NameList) : Type 0 where
  pub top : NameList
  pub leads : reached tree root true ≡ Some top
  pub are_all : IsListOf (IsSeen tree top rules) places

-- at each of these places, each named once, an entry is seen
pub record FindsSeen (tree : Tree) (root : List ℕ) (rules : List Rule) (places : List NameList) : Type 0 where
  pub top : NameList
  pub leads : reached tree root true ≡ Some top
  pub in_order : IsStrictlySortedBy name_list_cmp places
  pub each : All (IsSeen tree top rules) places

-- fewer than so many entries are seen below a root
abbrev pub HasFewerSeen : ℕ → Tree → List ℕ → List Rule → Type 0
HasFewerSeen cap tree root rules = (places : List NameList) × ListsSeen tree root rules places × (length places < cap)

-- so many entries, or more, are seen below a root
abbrev pub HasManySeen : ℕ → Tree → List ℕ → List Rule → Type 0
HasManySeen cap tree root rules = (places : List NameList) × FindsSeen tree root rules places × (cap ≤ length places)

-- a count of listed entries rose by the number of those that are seen: no ignored directory was read
abbrev pub ListsOnlySeen : Tree → List ℕ → List Rule → ℕ → ℕ → Type 0
ListsOnlySeen tree root rules old new = (places : List NameList) × ListsSeen tree root rules places × (new ≡ old + length places)
