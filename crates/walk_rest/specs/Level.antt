-- What a walk keeps, as what is due of it.
use Rattle.std.specs.Prelude.{◌≡◌, ◌+◌, ◌-◌, ◌^◌, ◌≤◌, ◌⊎◌, ℕ, zero, suc, max, List, [], ◌∷◌, ◌++◌, length, map, reverse, Option, Some, None, Ok, option_map, if◌then◌else◌}
use Rattle.sd_io.specs.Count.{IsAtLast}
use Rattle.sd_io.specs.Tree.{Tree}
use Rattle.sd_io.specs.Disk.{DiskState, OpenList}
use Rattle.sd_io.specs.declared.meta.RawEntry.{RawEntry}
use Rattle.walk_rest.specs.declared.entry.DirEntry.{DirEntry}
use Rattle.walk_rest.specs.declared.level.Folder.{Folder}
use Rattle.walk_rest.specs.declared.level.Due.{Due}
use Rattle.walk_rest.specs.declared.level.Entries.{Entries}
use Rattle.walk_rest.specs.declared.level.Entries.TheVariants.{Unread, Open, Kept}
use Rattle.walk_rest.specs.declared.level.Level.{Level}
use Rattle.walk_rest.specs.Plan.{Item, Plan, Manner, IsPlan, IsContents, entry_below}
use Rattle.walk_rest.specs.Listing.{IsRootPlan}
use Rattle.walk_rest.specs.Rest.{Fault, Part, Rest, Moves, Skips}
use Rattle.walk_rest.specs.Sorting.{IsSublist}

-- ---- what is due of a level

-- what an open list still gives
abbrev pub left_in : Option OpenList → List RawEntry
left_in None = []
left_in (Some list) = if list.is_at_end then [] else list.left

abbrev pub fault_of : Due → Fault
fault_of due = record { path = due.path; depth = due.depth }

abbrev pub item_of : DirEntry → Item
item_of entry = Ok entry

-- the directories that were entered, the nearest first, with one more
abbrev pub with_folder : Option Folder → List Folder → List Folder
with_folder None chain = chain
with_folder (Some folder) chain = folder ∷ chain

-- What is due of a level's entries; the chain has its own folder first. A list that wasn't read has all entries of its directory due, and the root,
-- which lies in no directory, all that is due of it.
abbrev pub IsDue : DiskState → Manner → List ℕ → List Folder → Option Folder → Entries → Plan → Type 0
IsDue state manner root chain None Unread plan = (chain ≡ []) × IsRootPlan state.tree manner root plan
IsDue state manner root chain (Some folder) Unread plan =
    (entries : List DirEntry) × IsContents state.tree manner folder entries × IsPlan state.tree manner chain entries plan
IsDue state manner root chain None (Open list) plan = ⊥
IsDue state manner root chain (Some folder) (Open list) plan = IsPlan state.tree manner chain (map (entry_below folder) (left_in (state.open_list list.number))) plan
IsDue state manner root chain folder (Kept kept) plan = IsPlan state.tree manner chain (reverse kept.items) plan

-- the part is what is due of the level
pub record HasPart (state : DiskState) (manner : Manner) (root : List ℕ) (chain : List Folder) (level : Level) (part : Part) : Type 0 where
  pub folder : part.folder ≡ level.folder
  pub first : part.first ≡ option_map item_of level.first
  pub due : IsDue state manner root chain level.folder level.entries part.left
  pub faults : part.faults ≡ map fault_of level.faults.items

-- the parts are what is due of the levels, bottom first
abbrev pub HasParts : DiskState → Manner → List ℕ → List Folder → List Level → Rest → Type 0
HasParts state manner root chain [] [] = Unit {0}
HasParts state manner root chain [] (part ∷ parts) = ⊥
HasParts state manner root chain (level ∷ levels) [] = ⊥
HasParts state manner root chain (level ∷ levels) (part ∷ parts) =
    HasPart state manner root (with_folder level.folder chain) level part × HasParts state manner root (with_folder level.folder chain) levels parts

-- the chain above these levels
abbrev pub chain_above : List Folder → List Level → List Folder
chain_above chain [] = chain
chain_above chain (level ∷ levels) = chain_above (with_folder level.folder chain) levels

-- ---- counts

-- no more cuts than the count of faults rose, or any number at its last value
abbrev pub IsAllowed : ℕ → ℕ → ℕ → Type 0
IsAllowed cuts before now = (cuts + before ≤ now) ⊎ IsAtLast now

-- failures came to be due behind those that were due, and the disk counted each
pub record AddsFaults (old : DiskState) (due : List Due) (new : DiskState) (now_due : List Due) : Type 0 where
  pub more : List Due
  pub now_are : now_due ≡ due ++ more
  pub allowed : IsAllowed (length more) old.faults new.faults

-- how many entries the lists of a disk can still give: their count has 64 bits
abbrev pub listable : DiskState → ℕ
listable state = 2 ^ 64 - state.listed

-- so many entries were taken from what the disk can still list
abbrev pub TakesEntries : ℕ → DiskState → DiskState → Type 0
TakesEntries n old new = n + listable new ≤ listable old

-- what an open list may lose without an entry, by a failure that ends it
abbrev pub unended : Option OpenList → ℕ
unended None = 0
unended (Some list) = if list.is_at_end then 0 else 1

-- So many entries were taken, and each failure that came to be due passed over one more, but for so many failures, which ended a list.
abbrev pub TakesWithFaults : ℕ → ℕ → DiskState → List Due → DiskState → List Due → Type 0
TakesWithFaults n ending old due new now_due = n + length now_due + listable new ≤ length due + listable old + ending

-- the same lists are open as before, and at most one more was open in between
pub record LeavesLists (old new : DiskState) : Type 0 where
  pub open_list : (number : ℕ) → new.open_list number ≡ old.open_list number
  pub open_count : new.open_count ≡ old.open_count
  pub open_most : new.open_most ≤ max old.open_most (old.open_count + 1)

-- ---- a list that is read to its end

-- so many faults of listing a directory
abbrev pub listing_faults : ℕ → ℕ → List Fault
listing_faults depth zero = []
listing_faults depth (suc n) = record { path = None; depth = depth } ∷ listing_faults depth n

-- some entries are lost, none without a fault
pub record Loses (cuts : ℕ) (old new : List DirEntry) : Type 0 where
  pub left : IsSublist new old
  pub whole : cuts ≡ 0 → new ≡ old

-- so many faults came: opening the directory failed and nothing came, or reading it failed so often
abbrev pub ComesWith : Folder → ℕ → List Fault → List DirEntry → Type 0
ComesWith folder cuts faults left =
    (faults ≡ listing_faults (folder.depth + 1) cuts)
    ⊎ ((cuts ≡ 1) × (faults ≡ record { path = Some folder.path; depth = folder.depth } ∷ []) × (left ≡ []))

-- The entries of a directory were read, but for those lost; each fault that was met is due behind those that were due before. Without one the
-- count of listed entries rose by their number.
pub record ReadsFolder (old : DiskState) (folder : Folder) (due : List Due) (entries : List DirEntry) (new : DiskState) (now_due : List Due)
    (left : List DirEntry) : Type 0 where
  pub cuts : ℕ
  pub loses : Loses cuts entries left
  pub faults : List Fault
  pub now_are : map fault_of now_due ≡ map fault_of due ++ faults
  pub comes : ComesWith folder cuts faults left
  pub allowed : IsAllowed cuts old.faults new.faults
  pub listed : cuts ≡ 0 → new.listed ≡ old.listed + length entries

-- ---- what that does to the rest

-- the topmost part with another plan and more faults
abbrev pub read_part : Part → Plan → List Fault → Part
read_part part left faults = record part { left = left; faults = part.faults ++ faults }

-- A part whose directory is read: so many cuts, and its plan is that of the entries that came.
pub record ReadsPart (tree : Tree) (manner : Manner) (chain : List Folder) (below : List Part) (part : Part) (cuts : ℕ) (faults : List Fault)
    (entries : List DirEntry) : Type 0 where
  pub left : Plan
  pub planned : IsPlan tree manner chain entries left
  pub moves : Moves cuts (below ++ part ∷ []) (below ++ read_part part left faults ∷ [])

-- the topmost of these levels is left, with what is due of it
abbrev pub SkipsTo : DiskState → Manner → List ℕ → List Level → Rest → Type 0
SkipsTo state manner root levels rest = (new : Rest) × Skips rest new × HasParts state manner root [] levels new

-- ---- a list that is kept while others stay open

-- what the list of a level still gives
abbrev pub entries_left : DiskState → Entries → List RawEntry
entries_left state Unread = []
entries_left state (Open list) = left_in (state.open_list list.number)
entries_left state (Kept kept) = []

abbrev pub HasKept : Entries → List DirEntry → Type 0
HasKept Unread entries = ⊥
HasKept (Open list) entries = ⊥
HasKept (Kept kept) entries = reverse kept.items ≡ entries

abbrev pub IsOpenEntries : Entries → Type 0
IsOpenEntries Unread = ⊥
IsOpenEntries (Open list) = Unit {0}
IsOpenEntries (Kept kept) = ⊥

-- the lists that these levels read are as before
abbrev pub SameReads : DiskState → DiskState → Entries → Type 0
SameReads old new Unread = Unit {0}
SameReads old new (Open list) = new.open_list list.number ≡ old.open_list list.number
SameReads old new (Kept kept) = Unit {0}

abbrev pub AllSameReads : DiskState → DiskState → List Level → Type 0
AllSameReads old new [] = Unit {0}
AllSameReads old new (level ∷ levels) = SameReads old new level.entries × AllSameReads old new levels

-- an open list was read to its end and kept, and each fault that was met is due
pub record KeepsList (old : DiskState) (folder : Folder) (level : Level) (new : DiskState) (kept : Level) : Type 0 where
  pub cuts : ℕ
  pub entries : List DirEntry
  pub loses : IsSublist entries (map (entry_below folder) (entries_left old level.entries))
  pub whole : cuts ≡ 0 → entries ≡ map (entry_below folder) (entries_left old level.entries)
  pub folder_is : kept.folder ≡ level.folder
  pub first : kept.first ≡ level.first
  pub kept_is : HasKept kept.entries entries
  pub faults : map fault_of kept.faults.items ≡ map fault_of level.faults.items ++ listing_faults (folder.depth + 1) cuts
  pub tree : new.tree ≡ old.tree

-- the rest after so many cuts
pub record CutsTo (state : DiskState) (manner : Manner) (root : List ℕ) (levels : List Level) (cuts : ℕ) (rest : Rest) : Type 0 where
  pub new : Rest
  pub moves : Moves cuts rest new
  pub has : HasParts state manner root [] levels new
