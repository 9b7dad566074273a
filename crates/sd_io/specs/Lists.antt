-- What the calls on lists of a directory's entries do.
use Rattle.std.specs.Prelude.{◌≡◌, ◌≢◌, ◌+◌, ◌⊎◌, ℕ, Bool, true, false, max, if◌then◌else◌, List, [], ◌∷◌, ◌++◌, Option, Some, None}
use Rattle.std.specs.Option.{option_and_then}
use Rattle.std.specs.Str.{bytes_eq}
use Rattle.sd_io.specs.declared.meta.RawEntry.{RawEntry}
use Rattle.sd_io.specs.Tree.{NameList, Name, Node, Tree, node_at, is_directory_at}
use Rattle.sd_io.specs.Paths.{reached}
use Rattle.sd_io.specs.Count.{IsAtLast}
use Rattle.sd_io.specs.Outcomes.{after_folder_sync}
use Rattle.sd_io.specs.Disk.{DiskState, OpenList, Advances, outcomes_now}
use Rattle.sd_io.specs.Files.{kind_of}

-- a list is open under this number
abbrev pub IsOpen : DiskState → ℕ → Type 0
IsOpen state number = (list : OpenList) × (state.open_list number ≡ Some list)

-- every other list is as before
abbrev pub SameOtherLists : DiskState → ℕ → DiskState → Type 0
SameOtherLists old number new = (k : ℕ) → k ≢ number → new.open_list k ≡ old.open_list k

-- a list is open under this number, and isn't at its end
abbrev pub IsUnfinished : DiskState → ℕ → Type 0
IsUnfinished state number = (left : List RawEntry) × (state.open_list number ≡ Some (record { is_at_end = false; left = left }))

-- no list is opened or closed
pub record SameOpen (old new : DiskState) : Type 0 where
  pub open_count : new.open_count ≡ old.open_count
  pub open_most : new.open_most ≡ old.open_most

-- ---- open_dir

-- a list is open under a number that was free; it isn't at its end
pub record Opens (old : DiskState) (number : ℕ) (new : DiskState) : Type 0 where
  pub was_free : old.open_list number ≡ None
  pub left : List RawEntry
  pub opened : new.open_list number ≡ Some (record { is_at_end = false; left = left })
  pub others : SameOtherLists old number new
  pub open_count : new.open_count ≡ old.open_count + 1
  pub open_most : new.open_most ≡ max old.open_most new.open_count
  pub listed : new.listed ≡ old.listed

-- the name list of the directory that a path leads to
abbrev pub directory_of : Tree → List ℕ → Option NameList
directory_of tree path = option_and_then (λ place. if is_directory_at tree place then Some place else None) (reached tree path true)

-- the path leads to no directory
abbrev pub IsNoDirectory : DiskState → List ℕ → Type 0
IsNoDirectory old path = directory_of old.tree path ≡ None

-- the entry tells the name, the kind and the inode of what stands under this name in the folder; a link isn't followed
pub record Tells (tree : Tree) (folder : NameList) (name : Name) (entry : RawEntry) : Type 0 where
  pub node : Node
  pub stands : node_at tree (folder ++ name ∷ []) ≡ Some node
  pub name_is : entry.name ≡ name
  pub kind_is : entry.kind ≡ kind_of node.content
  pub ino_is : entry.ino ≡ node.ino

-- the entries tell of these names in turn
abbrev pub TellAll : Tree → NameList → List Name → List RawEntry → Type 0
TellAll tree folder [] [] = Unit {0}
TellAll tree folder [] (entry ∷ entries) = ⊥
TellAll tree folder (name ∷ names) [] = ⊥
TellAll tree folder (name ∷ names) (entry ∷ entries) = Tells tree folder name entry × TellAll tree folder names entries

-- the name of a place that lies directly in a folder
abbrev pub name_below : NameList → NameList → Option Name
name_below [] [] = None
name_below [] (name ∷ []) = Some name
name_below [] (name ∷ next ∷ more) = None
name_below (m ∷ folder) [] = None
name_below (m ∷ folder) (n ∷ place) = if bytes_eq m n then name_below folder place else None

-- the entry of a node under this name
abbrev pub raw_entry : Node → Name → RawEntry
raw_entry node name = record { name = name; kind = kind_of node.content; ino = node.ino }

-- the list has the entries of the directory that the path leads to, as they stand and in its order
pub record ListsDirectory (old : DiskState) (path : List ℕ) (number : ℕ) (new : DiskState) : Type 0 where
  pub folder : NameList
  pub leads : directory_of old.tree path ≡ Some folder
  pub left : List RawEntry
  pub opened : new.open_list number ≡ Some (record { is_at_end = false; left = left })
  pub entries : TellAll old.tree folder (old.tree.order folder) left

-- ---- sync_dir

-- the names in the directory that the path leads to are on the medium as they stand, and the tree stays
pub record SyncsFolder (old : DiskState) (path : List ℕ) (new : DiskState) : Type 0 where
  pub folder : NameList
  pub leads : directory_of old.tree path ≡ Some folder
  pub tree : new.tree ≡ old.tree
  pub advances : Advances old new (after_folder_sync (node_at old.tree) folder (outcomes_now old))

-- ---- next_entry

-- an entry is given or passed over: the count of listed entries rises by one, and the list isn't at its end
pub record Passes (old : DiskState) (number : ℕ) (rest : List RawEntry) (new : DiskState) : Type 0 where
  pub listed : new.listed ≡ old.listed + 1
  pub now : new.open_list number ≡ Some (record { is_at_end = false; left = rest })

-- the list is put at its end
pub record Ends (old : DiskState) (number : ℕ) (new : DiskState) : Type 0 where
  pub listed : new.listed ≡ old.listed
  pub left : List RawEntry
  pub now : new.open_list number ≡ Some (record { is_at_end = true; left = left })

-- an entry is given, by a list that wasn't at its end
pub record Gives (old : DiskState) (number : ℕ) (new : DiskState) : Type 0 where
  pub left : List RawEntry
  pub was : old.open_list number ≡ Some (record { is_at_end = false; left = left })
  pub rest : List RawEntry
  pub passes : Passes old number rest new

-- it is the next one of the list
pub record GivesNext (old : DiskState) (number : ℕ) (entry : RawEntry) (new : DiskState) : Type 0 where
  pub rest : List RawEntry
  pub was : old.open_list number ≡ Some (record { is_at_end = false; left = entry ∷ rest })
  pub now : new.open_list number ≡ Some (record { is_at_end = false; left = rest })

-- the list has nothing left
abbrev pub HasNoneLeft : DiskState → ℕ → Type 0
HasNoneLeft old number = (ended : Bool) × (old.open_list number ≡ Some (record { is_at_end = ended; left = [] }))

-- A list that wasn't at its end passes over one entry, or is put at its end.
pub record PassesOver (old : DiskState) (number : ℕ) (new : DiskState) : Type 0 where
  pub left : List RawEntry
  pub was : old.open_list number ≡ Some (record { is_at_end = false; left = left })
  pub outcome : ((rest : List RawEntry) × Passes old number rest new) ⊎ Ends old number new

-- the entry that is passed over is the next one
abbrev pub PassesOverNext : DiskState → ℕ → DiskState → Type 0
PassesOverNext old number new =
    (rest : List RawEntry) → Passes old number rest new → (entry : RawEntry) × (old.open_list number ≡ Some (record { is_at_end = false; left = entry ∷ rest }))

-- the count of listed entries stands at its last value
abbrev pub IsFull : DiskState → Type 0
IsFull state = IsAtLast state.listed

-- ---- close_dir

-- no list is open under this number, and every other is as before
pub record Closes (old : DiskState) (number : ℕ) (new : DiskState) : Type 0 where
  pub closed : new.open_list number ≡ None
  pub others : SameOtherLists old number new
  pub listed : new.listed ≡ old.listed
  pub open_most : new.open_most ≡ old.open_most
  pub open_count : (list : OpenList) → old.open_list number ≡ Some list → new.open_count + 1 ≡ old.open_count
  pub not_open : old.open_list number ≡ None → new.open_count ≡ old.open_count
