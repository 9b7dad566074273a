-- The entries of a directory and what a walk makes of each, as a plan.
use Rattle.std.specs.Prelude.{◌≡◌, ◌≤◌, ◌<◌, ◌+◌, ◌⊎◌, ℕ, Bool, true, false, ◌&&◌, not, ◌==◌, nat_eq, nat_le, nat_lt, List, [], ◌∷◌, ◌++◌, map, Option, Some, None, Result, Ok, Err, if◌then◌else◌, option_map}
use Rattle.std.specs.Option.{option_and_then, option_map_or}
use Rattle.std.specs.Ordering.{is_lt}
use Rattle.std.specs.declared.cmp.Ordering.{Ordering}
use Rattle.std.specs.List.{ends_with}
use Rattle.sd_io.specs.Tree.{NameList, Node, Tree, node_at, is_directory_content}
use Rattle.sd_io.specs.Paths.{reached}
use Rattle.sd_io.specs.Files.{kind_of}
use Rattle.sd_io.specs.Lists.{directory_of, TellAll}
use Rattle.sd_io.specs.declared.meta.Kind.{Kind}
use Rattle.sd_io.specs.declared.meta.Kind.TheVariants.{Directory, Link, File, Other}
use Rattle.sd_io.specs.declared.meta.Ident.{Ident}
use Rattle.sd_io.specs.declared.meta.RawEntry.{RawEntry}
use Rattle.walk_rest.specs.declared.entry.DirEntry.{DirEntry}
use Rattle.walk_rest.specs.declared.error.Error.{Error}
use Rattle.walk_rest.specs.declared.error.Error.TheVariants as error
use Rattle.walk_rest.specs.declared.level.Folder.{Folder}
use Rattle.walk_rest.specs.declared.options.Options.{Options}

-- what a walk gives: an entry, or an error
abbrev pub Item : Type 0
Item = Result DirEntry Error

-- The entries of one directory in turn, and what comes of each.
pub data Plan : Type 0 where
  done : Plan
  -- an entry that isn't entered: its path, its item unless it is hidden, and the entries after it
  past : List ℕ → Option Item → Plan → Plan
  -- a directory that is entered: its item before its contents, its contents, its item after them, and the entries after it
  into : Folder → Option Item → Plan → Option Item → Plan → Plan

abbrev pub items_of : Option Item → List Item
items_of None = []
items_of (Some item) = item ∷ []

-- the items of a plan in turn
abbrev pub items_in : Plan → List Item
items_in done = []
items_in (past path item plan) = items_of item ++ items_in plan
items_in (into folder before contents after plan) = items_of before ++ (items_in contents ++ (items_of after ++ items_in plan))

-- ---- how a walk goes

-- how two entries compare
abbrev pub Comparison : Type 0
Comparison = DirEntry → DirEntry → Ordering

pub record Manner : Type 0 where
  pub options : Options
  pub sorts : Bool
  pub compare : Comparison
  -- the root's device; it counts only under `same_file_system`
  pub device : ℕ

-- ---- one entry

-- the folder's path, `/` unless that ends with it, and the name
abbrev pub path_below : List ℕ → List ℕ → List ℕ
path_below folder name = if ends_with nat_eq folder (47 ∷ []) then folder ++ name else (folder ++ 47 ∷ []) ++ name

-- an entry as the list of its folder gives it
abbrev pub entry_below : Folder → RawEntry → DirEntry
entry_below folder raw = record { path = path_below folder.path raw.name; kind = raw.kind; depth = folder.depth + 1; ino = raw.ino; followed = false }

abbrev pub is_directory : Kind → Bool
is_directory Directory = true
is_directory Link = false
is_directory File = false
is_directory Other = false

abbrev pub is_link : Kind → Bool
is_link Directory = false
is_link Link = true
is_link File = false
is_link Other = false

-- the node that a path leads to
abbrev pub node_to : Tree → List ℕ → Bool → Option Node
node_to tree path follow = option_and_then (node_at tree) (reached tree path follow)

abbrev pub ident_of : Node → Ident
ident_of node = record { dev = node.dev; ino = node.ino }

abbrev pub same_ident : Ident → Ident → Bool
same_ident a b = (a.dev == b.dev) && (a.ino == b.ino)

-- the directory with this identity among those that were entered, the nearest first
abbrev pub ancestor_with : Ident → List Folder → Option Folder
ancestor_with ident [] = None
ancestor_with ident (folder ∷ chain) = if option_map_or (same_ident ident) folder.ident false then Some folder else ancestor_with ident chain

-- What a walk makes of an entry: an error stands in its place, it isn't entered, or it is entered.
pub data Seen : Type 0 where
  fails : Error → Seen
  stays : DirEntry → Seen
  enters : DirEntry → Folder → Seen

-- a directory that is entered, by the node that its path leads to; its identity is kept where links are followed
abbrev pub folder_of : Options → DirEntry → Option Node → Folder
folder_of options entry node = record { path = entry.path; depth = entry.depth; ident = if options.follow_links then option_map ident_of node else None }

-- its device isn't the root's
abbrev pub is_foreign : Manner → Option Node → Bool
is_foreign manner node = option_map_or (λ (n : Node). not (n.dev == manner.device)) node true

-- a directory, or a link that was followed to one
abbrev pub seen_directory : Manner → DirEntry → Option Node → Seen
seen_directory manner entry node =
    if manner.options.same_file_system && nat_lt 0 entry.depth && is_foreign manner node then stays entry
    else enters entry (folder_of manner.options entry node)

-- a root link that isn't followed itself
abbrev pub seen_root_link : Manner → DirEntry → Option Node → Seen
seen_root_link manner entry None = fails (error.Absent entry.path entry.depth)
seen_root_link manner entry (Some node) = if is_directory_content node.content then enters entry (folder_of manner.options entry (Some node)) else stays entry

abbrev pub seen_unfollowed : Manner → DirEntry → Option Node → Seen
seen_unfollowed manner entry node =
    if is_directory entry.kind then seen_directory manner entry node
    else (if is_link entry.kind && nat_eq entry.depth 0 && manner.options.follow_root_links then seen_root_link manner entry node else stays entry)

-- the entry, with its target's kind
abbrev pub followed_entry : DirEntry → Node → DirEntry
followed_entry entry node = record entry { kind = kind_of node.content; followed = true }

abbrev pub seen_loop : DirEntry → Node → Folder → Seen
seen_loop entry node ancestor = fails (error.Loop entry.path entry.depth ancestor.path (ident_of node))

abbrev pub seen_target : Manner → DirEntry → Node → Option Folder → Seen
seen_target manner entry node (Some ancestor) = seen_loop entry node ancestor
seen_target manner entry node None = seen_directory manner (followed_entry entry node) (Some node)

-- a link that is followed, by the node that it leads to
abbrev pub seen_link : Manner → List Folder → DirEntry → Option Node → Seen
seen_link manner chain entry None = fails (error.Absent entry.path entry.depth)
seen_link manner chain entry (Some node) =
    if is_directory_content node.content then seen_target manner entry node (ancestor_with (ident_of node) chain) else stays (followed_entry entry node)

-- by the node that its path leads to, links followed
abbrev pub seen_by : Manner → List Folder → DirEntry → Option Node → Seen
seen_by manner chain entry node =
    if manner.options.follow_links && is_link entry.kind then seen_link manner chain entry node else seen_unfollowed manner entry node

abbrev pub seen : Tree → Manner → List Folder → DirEntry → Seen
seen tree manner chain entry = seen_by manner chain entry (node_to tree entry.path true)

-- ---- its items

-- an entry at this depth is an item
abbrev pub is_shown : Options → ℕ → Bool
is_shown options depth = nat_le options.min_depth depth && nat_le depth options.max_depth

abbrev pub item_where : Bool → DirEntry → Option Item
item_where shown entry = if shown then Some (Ok entry) else None

abbrev pub item_before : Options → DirEntry → Option Item
item_before options entry = item_where (not options.contents_first && is_shown options entry.depth) entry

abbrev pub item_after : Options → DirEntry → Option Item
item_after options entry = item_where (options.contents_first && is_shown options entry.depth) entry

-- ---- the contents of a directory

-- the entries of the directory that a path leads to, in its order
pub record ListsNames (tree : Tree) (path : List ℕ) (entries : List RawEntry) : Type 0 where
  pub folder : NameList
  pub leads : directory_of tree path ≡ Some folder
  pub told : TellAll tree folder (tree.order folder) entries

-- an entry stands before the first that isn't less than it
abbrev pub insert : {X : Type 0} → (X → X → Ordering) → X → List X → List X
insert compare x [] = x ∷ []
insert compare x (y ∷ ys) = if is_lt (compare y x) then y ∷ insert compare x ys else x ∷ y ∷ ys

-- sorted stably
abbrev pub sorted : {X : Type 0} → (X → X → Ordering) → List X → List X
sorted compare [] = []
sorted compare (x ∷ xs) = insert compare x (sorted compare xs)

abbrev pub in_order : Manner → List DirEntry → List DirEntry
in_order manner entries = if manner.sorts then sorted manner.compare entries else entries

-- it lies below `max_depth`, and these are its entries
pub record Lists (tree : Tree) (manner : Manner) (folder : Folder) (entries : List DirEntry) : Type 0 where
  pub shallow : folder.depth < manner.options.max_depth
  pub listed : List RawEntry
  pub names : ListsNames tree folder.path listed
  pub ordered : entries ≡ in_order manner (map (entry_below folder) listed)

-- The contents of an entered directory; at `max_depth` it holds nothing.
abbrev pub IsContents : Tree → Manner → Folder → List DirEntry → Type 0
IsContents tree manner folder entries = ((manner.options.max_depth ≤ folder.depth) × (entries ≡ [])) ⊎ Lists tree manner folder entries

-- ---- the plan of a directory

abbrev pub IsPast : Manner → Seen → Option Item → Type 0
IsPast manner (fails error) item = item ≡ Some (Err error)
IsPast manner (stays entry) item = item ≡ item_where (is_shown manner.options entry.depth) entry
IsPast manner (enters entry folder) item = ⊥

abbrev pub IsInto : Manner → Seen → Folder → Option Item → Option Item → Type 0
IsInto manner (fails error) folder before after = ⊥
IsInto manner (stays entry) folder before after = ⊥
IsInto manner (enters entry entered) folder before after = (folder ≡ entered) × (before ≡ item_before manner.options entry) × (after ≡ item_after manner.options entry)

-- The plan is that of these entries of one directory, in which the directories of the chain were entered, the nearest first.
abbrev pub IsPlan : Tree → Manner → List Folder → List DirEntry → Plan → Type 0
IsPlan tree manner chain [] done = Unit {0}
IsPlan tree manner chain [] (past path item plan) = ⊥
IsPlan tree manner chain [] (into folder before contents after plan) = ⊥
IsPlan tree manner chain (entry ∷ entries) done = ⊥
IsPlan tree manner chain (entry ∷ entries) (past path item plan) =
    (path ≡ entry.path) × IsPast manner (seen tree manner chain entry) item × IsPlan tree manner chain entries plan
IsPlan tree manner chain (entry ∷ entries) (into folder before contents after plan) =
    IsInto manner (seen tree manner chain entry) folder before after
    × ((inner : List DirEntry) × IsContents tree manner folder inner × IsPlan tree manner (folder ∷ chain) inner contents)
    × IsPlan tree manner chain entries plan
