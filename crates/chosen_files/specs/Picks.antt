-- What a walk of a place gives, and which of its entries are those of chosen files.
use Rattle.std.specs.Prelude.{◌≡◌, ◌<◌, ◌≤◌, ◌+◌, ◌⊎◌, ℕ, false, true, List, [], ◌∷◌, ◌++◌, length, Some, IsSome, Ok, Err}
use Rattle.sd_io.specs.Tree.{NameList, Node, Tree, node_at}
use Rattle.sd_io.specs.Paths.{reached}
use Rattle.sd_io.specs.Files.{kind_of, len_of, path_text}
use Rattle.sd_io.specs.declared.meta.Kind.TheVariants as kind
use Rattle.walk_rest.specs.declared.entry.DirEntry.{DirEntry}
use Rattle.walk_rest.specs.declared.options.Options.{Options}
use Rattle.walk_rest.specs.Plan.{Item, path_below, node_to}
use Rattle.walk_rest.specs.Names.{by_file_name}
use Rattle.walk_rest.specs.Listing.{IsListing}
use Rattle.chosen_files.specs.Chosen.{IsListOf}
use Rattle.chosen_files.specs.Globs.{FitsAny}

-- ---- all that stands at or below a place

-- the place is the other one, or below it
abbrev pub IsWithin : NameList → NameList → Type 0
IsWithin top place = (names : NameList) × (place ≡ top ++ names)

-- A walk goes from the root on, gives a directory before its contents, follows no link and enters directories on all devices.
pub record IsPlainWalk (options : Options) : Type 0 where
  pub from_root : options.min_depth ≡ 0
  pub contents_last : options.contents_first ≡ false
  pub no_links : options.follow_links ≡ false
  pub all_devices : options.same_file_system ≡ false

-- A plain walk of the place that a path leads to gives these items, sorted by file name. They are no more than `max_depth`, so no directory
-- lies so deep that it isn't opened.
pub record WalksWhole (tree : Tree) (options : Options) (root : List ℕ) (top : NameList) (items : List Item) : Type 0 where
  pub is_plain : IsPlainWalk options
  pub leads : reached tree root true ≡ Some top
  pub listing : IsListing tree options true by_file_name (path_text top) items
  pub few : length items ≤ options.max_depth

-- a node stands at a place that is the top or below it
abbrev pub StandsIn : Tree → NameList → NameList → Type 0
StandsIn tree top place = IsWithin top place × IsSome (node_at tree place)

-- The entry is that of the node at a place: with its kind, the text of the place for its path, and as many names deep as it lies below the top.
pub record IsEntryAt (tree : Tree) (top place : NameList) (entry : DirEntry) : Type 0 where
  pub node : Node
  pub stands : node_at tree place ≡ Some node
  pub kind_is : entry.kind ≡ kind_of node.content
  pub path_is : entry.path ≡ path_text place
  pub depth_is : length place ≡ length top + entry.depth
  pub not_followed : entry.followed ≡ false

-- the items are the entries at these places in turn
abbrev pub AreEntriesAt : Tree → NameList → List NameList → List Item → Type 0
AreEntriesAt tree top [] [] = Unit {0}
AreEntriesAt tree top [] (item ∷ items) = ⊥
AreEntriesAt tree top (place ∷ places) [] = ⊥
AreEntriesAt tree top (place ∷ places) (Ok entry ∷ items) = IsEntryAt tree top place entry × AreEntriesAt tree top places items
AreEntriesAt tree top (place ∷ places) (Err error ∷ items) = ⊥

-- the items are the entries of all nodes at or below the top, in the order of their name lists
pub record ListsAllIn (tree : Tree) (top : NameList) (items : List Item) : Type 0 where
  pub places : List NameList
  pub all : IsListOf (StandsIn tree top) places
  pub entries : AreEntriesAt tree top places items

-- ---- chosen files

-- The entry is that of a regular file below the top, with at least one byte, and what its path has after the top's fits a glob.
pub record IsPicked (tree : Tree) (top : List ℕ) (globs : List (List ℕ)) (entry : DirEntry) : Type 0 where
  pub below_top : 0 < entry.depth
  pub is_file : entry.kind ≡ kind.File
  pub node : Node
  pub leads : node_to tree entry.path entry.followed ≡ Some node
  pub nonempty : 0 < len_of node.content
  pub names : List ℕ
  pub path_is : entry.path ≡ path_below top names
  pub fits : FitsAny globs names

-- Of the entries that are picked, in turn, the paths: a root, and what the entry's path has after the top's. An error isn't picked.
abbrev pub Picks : Tree → List ℕ → List ℕ → List (List ℕ) → List Item → List (List ℕ) → Type 0
Picks tree root top globs [] paths = paths ≡ []
Picks tree root top globs (Err error ∷ items) paths = Picks tree root top globs items paths
Picks tree root top globs (Ok entry ∷ items) paths =
    ((picked : IsPicked tree top globs entry) × (more : List (List ℕ)) × (paths ≡ path_below root picked.names ∷ more) × Picks tree root top globs items more)
    ⊎ (¬ IsPicked tree top globs entry × Picks tree root top globs items paths)
