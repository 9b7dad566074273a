-- The tree of a disk in memory.
use Rattle.std.specs.Prelude.{◌≡◌, ◌≢◌, ◌⊎◌, ℕ, false, IsTrue, nat_le, List, [], ◌∷◌, ◌++◌, map, Some, None, IsSome, if◌then◌else◌, option_map}
use Rattle.std.specs.List.{filter_map, list_any}
use Rattle.std.specs.Option.{option_map_or}
use Rattle.std.specs.FinMap.{from_entries}
use Rattle.sd_io.specs.Lists.{name_below, raw_entry}
use Rattle.sd_io.specs.declared.meta.RawEntry.{RawEntry}
use Rattle.sd_io.specs.Tree.{Name, NameList, Content, Node, Tree, IsName, SameBut, SameOrders, SameOrdersBut, node_at, is_directory_at}
use Rattle.sd_io.specs.Paths.{parts_of, parent_of, is_up, reached_plain}
use Rattle.mem_io.specs.MemNode.{with_bytes}

-- the entries that lie directly in a folder
abbrev pub entries_below : NameList → List (NameList × Node) → List RawEntry
entries_below folder nodes = filter_map (λ e. option_map (raw_entry e.1) (name_below folder e.0)) nodes

-- in the order of their inodes, which is that of adding
abbrev pub insert_by_number : RawEntry → List RawEntry → List RawEntry
insert_by_number e [] = e ∷ []
insert_by_number e (f ∷ fs) = if nat_le e.ino f.ino then e ∷ f ∷ fs else f ∷ insert_by_number e fs

abbrev pub by_number : List RawEntry → List RawEntry
by_number [] = []
by_number (e ∷ es) = insert_by_number e (by_number es)

-- the entries of a folder in its order
unfoldable pub listing : NameList → List (NameList × Node) → List RawEntry
listing folder nodes = by_number (entries_below folder nodes)

-- the tree of a top and the nodes below it
unfoldable pub tree_of : Node → List (NameList × Node) → Tree
tree_of top nodes = record { nodes = from_entries (([], top) ∷ nodes); order = λ folder. map (λ (e : RawEntry). e.name) (listing folder nodes) }

-- ---- what the changes of a tree do

-- a name of its own in a directory of the tree
pub record IsPlaceIn (tree : Tree) (place : NameList) : Type 0 where
  pub folder : NameList
  pub name : Name
  pub place_is : place ≡ folder ++ name ∷ []
  pub is_name : IsName name
  pub in_directory : IsTrue (is_directory_at tree folder)

-- the names of a path that a builder can add a node at: no `..`, in a directory, and nothing stands there
pub record IsFreePlace (tree : Tree) (path : List ℕ) (place : NameList) : Type 0 where
  pub names : parts_of path ≡ place
  pub no_up : list_any is_up place ≡ false
  pub is_place : IsPlaceIn tree place
  pub free : node_at tree place ≡ None

-- the path holds no name or `..`, its parent is no directory, or something stands there
abbrev pub HasNoFreePlace : Tree → List ℕ → Type 0
HasNoFreePlace tree path =
    (parts_of path ≡ []) ⊎ IsTrue (list_any is_up (parts_of path)) ⊎ (is_directory_at tree (parent_of (parts_of path)) ≡ false) ⊎ IsSome (node_at tree (parts_of path))

-- the device of the node at a name list, 0 where nothing stands
abbrev pub dev_at : Tree → NameList → ℕ
dev_at tree place = option_map_or (λ (node : Node). node.dev) (node_at tree place) 0

-- a node with this content and number stands at the place, with its folder's device
pub record Adds (old : Tree) (place : NameList) (content : Content) (ino : ℕ) (new : Tree) : Type 0 where
  pub stands : node_at new place ≡ Some (record { content = content; dev = dev_at old (parent_of place); ino = ino })
  pub others : SameBut place old new

-- the order of the place's folder has its name last, and every other order is as before
pub record AddsName (old : Tree) (place : NameList) (new : Tree) : Type 0 where
  pub folder : NameList
  pub name : Name
  pub place_is : place ≡ folder ++ name ∷ []
  pub last : new.order folder ≡ old.order folder ++ name ∷ []
  pub others : SameOrdersBut (folder ∷ []) old new

-- the node at the place has other bytes
pub record PutsBytes (old : Tree) (place : NameList) (bytes : List ℕ) (new : Tree) : Type 0 where
  pub holds : node_at new place ≡ option_map (λ node. with_bytes node bytes) (node_at old place)
  pub others : SameBut place old new

-- nothing stands at the place
pub record TakesAway (old : Tree) (place : NameList) (new : Tree) : Type 0 where
  pub gone : node_at new place ≡ None
  pub others : SameBut place old new

-- what stood at `from` stands at `to`, and nothing at `from` unless both are one place
pub record Moves (old : Tree) (from to : NameList) (new : Tree) : Type 0 where
  pub moved : node_at new to ≡ node_at old from
  pub gone : from ≢ to → node_at new from ≡ None
  pub others : (q : NameList) → q ≢ from → q ≢ to → node_at new q ≡ node_at old q

-- the node at a place and all nodes below it have this device, and everything else is as before
pub record PutsDevice (old : Tree) (place : NameList) (dev : ℕ) (new : Tree) : Type 0 where
  pub within : (rest : NameList) → node_at new (place ++ rest) ≡ option_map (λ (node : Node). record node { dev = dev }) (node_at old (place ++ rest))
  pub others : (q : NameList) → ((rest : NameList) → q ≢ place ++ rest) → node_at new q ≡ node_at old q
  pub orders : SameOrders old new

-- the path leads to a node, no link followed; it and all nodes below it have this device
pub record PutsDeviceAt (old : Tree) (path : List ℕ) (dev : ℕ) (new : Tree) : Type 0 where
  pub place : NameList
  pub leads : reached_plain old path ≡ Some place
  pub stands : IsSome (node_at old place)
  pub puts : PutsDevice old place dev new
