-- What a walk gives that leaves unread the directories that rules ignore, and which of that is kept.
use Rattle.std.specs.Prelude.{◌≡◌, ◌⊎◌, ◌≤◌, ℕ, true, List, length, Some}
use Rattle.sd_io.specs.Tree.{NameList, Tree, IsTree}
use Rattle.sd_io.specs.Files.{path_text}
use Rattle.sd_io.specs.Paths.{reached}
use Rattle.walk_rest.specs.declared.options.Options.{Options}
use Rattle.walk_rest.specs.Listing.{IsRootPlan, manner_of}
use Rattle.walk_rest.specs.Names.{by_file_name}
use Rattle.walk_rest.specs.Plan.{Item, Plan}
use Rattle.sd_ignore.specs.declared.rule.Rule.{Rule}
use Rattle.chosen_files.specs.Chosen.{IsListOf}
use Rattle.chosen_files.specs.Picks.{AreEntriesAt, IsPlainWalk, Picks}
use Rattle.chosen_files.specs.LeftOut.{leaves_out}
use Rattle.chosen_files.specs.Kept.{ListsKept}
use Rattle.walkdir.specs.Gather.{given_in, gathered_of}
use Rattle.chosen_files.specs.Seen.{IsSeen}

-- the plan is that of a walk of a place, sorted by file name
abbrev pub IsPlanAt : Tree → Options → NameList → Plan → Type 0
IsPlanAt tree options top plan = IsRootPlan tree (manner_of tree options true by_file_name (path_text top)) (path_text top) plan

-- A plain walk of the place that a path leads to gives these items where it leaves unread what the rules ignore. They are no more than `max_depth`,
-- so no directory lies so deep that it isn't opened.
pub record WalksSeen (tree : Tree) (options : Options) (root : List ℕ) (top : NameList) (rules : List Rule) (items : List Item) : Type 0 where
  pub is_plain : IsPlainWalk options
  pub leads : reached tree root true ≡ Some top
  pub plan : Plan
  pub planned : IsPlanAt tree options top plan
  pub same : items ≡ given_in (leaves_out rules (path_text top)) plan
  pub few : length items ≤ options.max_depth

-- the items are the entries of a place and of all that is seen below it, in the order of their name lists
pub record ListsAllSeen (tree : Tree) (top : NameList) (rules : List Rule) (items : List Item) : Type 0 where
  pub places : List NameList
  pub all : IsListOf (λ place. (place ≡ top) ⊎ IsSeen tree top rules place) places
  pub entries : AreEntriesAt tree top places items

-- ---- laws

-- a whole walk gives the entries of all that is seen
abbrev pub WalkListsAllSeen : Type 0
WalkListsAllSeen = (tree : Tree) (options : Options) (root : List ℕ) (top : NameList) (rules : List Rule) (items : List Item)
    → IsTree tree → WalksSeen tree options root top rules items → ListsAllSeen tree top rules items

-- what is picked of its entries that aren't left out are the kept files
abbrev pub PickedAreKept : Type 0
PickedAreKept = (tree : Tree) (options : Options) (root : List ℕ) (top : NameList) (globs : List (List ℕ)) (rules : List Rule) (items : List Item) (paths : List (List ℕ))
    → IsTree tree → WalksSeen tree options root top rules items → Picks tree root (path_text top) globs (gathered_of (leaves_out rules (path_text top)) items) paths
    → ListsKept tree root globs rules paths
