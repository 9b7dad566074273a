-- What the parts of a step do to what is left of a walk.
use Rattle.std.specs.Prelude.{◌≡◌, ◌↔◌, ◌⊎◌, ◌<◌, ℕ, Bool, false, IsTrue, List, [], ◌∷◌, ◌++◌, Option, Some, None, Ok, option_map}
use Rattle.std.specs.declared.cmp.Ordering.{Ordering}
use Rattle.sd_io.specs.Count.{HasRisen}
use Rattle.sd_io.specs.Disk.{DiskState}
use Rattle.walk_rest.specs.declared.entry.DirEntry.{DirEntry}
use Rattle.walk_rest.specs.declared.error.Error.{Error}
use Rattle.walk_rest.specs.declared.error.Error.TheVariants as error
use Rattle.walk_rest.specs.declared.level.Folder.{Folder}
use Rattle.walk_rest.specs.declared.level.Entries.TheVariants.{Unread}
use Rattle.walk_rest.specs.declared.level.Level.{Level}
use Rattle.walk_rest.specs.declared.options.Options.{Options}
use Rattle.walk_rest.specs.Plan.{Comparison, Item, Plan, into, IsPlan, item_before, item_after}
use Rattle.walk_rest.specs.Listing.{ends, beginning, device_to}
use Rattle.walk_rest.specs.Rest.{Part, Rest, Moves, IsStep, Skips}
use Rattle.walk_rest.specs.Level.{HasParts, IsAllowed, chain_above, with_folder, item_of}
use Rattle.walk_steps.specs.declared.inside.Inside.{Inside}
use Rattle.walk_steps.specs.Inside.{HasRest, entries_due, manner_in, with_top}

-- ---- the root

-- a call on the root failed, and was counted; or it leads nowhere, as the tree has it, or as the disk counted where it doesn't tell its tree
abbrev pub CannotBegin : Bool → DiskState → DiskState → Options → List ℕ → Error → Type 0
CannotBegin tells old new options root failed =
    (failed ≡ error.NoMemory) ⊎ (((failed ≡ error.Disk (Some root) 0) × HasRisen old.faults new.faults)
    ⊎ ((failed ≡ error.Absent root 0) × (IsTrue tells → beginning old.tree options root ≡ ends failed) × (tells ≡ false → old.faults < new.faults)))

-- ---- what a step enters

-- what is due next in the topmost part is a directory that is entered
pub record IsNextInto (rest : Rest) : Type 0 where
  pub below : List Part
  pub part : Part
  pub is : rest ≡ below ++ part ∷ []
  pub first : part.first ≡ None
  pub folder : Folder
  pub before : Option Item
  pub contents : Plan
  pub after : Option Item
  pub plan : Plan
  pub next : part.left ≡ into folder before contents after plan

-- the level on top is that of a directory, and nothing was read of it
pub record HasUnreadTop (top : Option Level) : Type 0 where
  pub level : Level
  pub folder : Folder
  pub on_top : top ≡ Some level
  pub folder_is : level.folder ≡ Some folder
  pub unread : level.entries ≡ Unread

module _ {S : Type 0} where
  -- ---- steps

  -- the walk moved on, with no answer yet
  pub record MovesTo (before : DiskState) (sorts : Bool) (compare : DirEntry → DirEntry → Ordering) (rest : Rest) (now : DiskState) (inside : Inside S) : Type 0 where
    pub cuts : ℕ
    pub new : Rest
    pub moves : Moves cuts rest new
    pub left : HasRest now sorts compare inside new
    pub allowed : IsAllowed cuts before.faults now.faults

  -- the walk made one step
  pub record StepsTo (before : DiskState) (sorts : Bool) (compare : DirEntry → DirEntry → Ordering) (rest : Rest) (answer : Option Item) (now : DiskState) (inside : Inside S) : Type 0 where
    pub cuts : ℕ
    pub new : Rest
    pub is_step : IsStep cuts rest answer new
    pub left : HasRest now sorts compare inside new
    pub allowed : IsAllowed cuts before.faults now.faults
    -- an entry comes before the contents of its directory exactly where that lies unread on top
    pub enters : (entry : DirEntry) → answer ≡ Some (Ok entry) → IsNextInto is_step.mid ↔ HasUnreadTop inside.top

  -- it came to an item, or moved on
  abbrev pub TurnsTo : DiskState → Bool → (DirEntry → DirEntry → Ordering) → Rest → Option Item → DiskState → Inside S → Type 0
  TurnsTo before sorts compare rest None now inside = MovesTo before sorts compare rest now inside
  TurnsTo before sorts compare rest (Some item) now inside = StepsTo before sorts compare rest (Some item) now inside

  -- on a disk that tells its tree, by each comparison that is the order's and each rest that the walk has
  abbrev pub ByEachRest : Bool → (S → Comparison → Type 0) → DiskState → Bool → Inside S → (Comparison → Rest → Type 0) → Type 0
  ByEachRest tells compares_by state sorts inside P = IsTrue tells → (by : Comparison) (rest : Rest) → compares_by inside.order by → HasRest state sorts by inside rest → P by rest

  -- ---- an entry that was taken

  -- this is left of the walk, where an entry was taken from the level on top, of which nothing else was due first
  pub record HasTaken (state : DiskState) (sorts : Bool) (compare : DirEntry → DirEntry → Ordering) (inside : Inside S) (level : Level) (entry : DirEntry) (rest : Rest) : Type 0 where
    pub below : List Part
    pub part : Part
    pub was : rest ≡ below ++ part ∷ []
    pub lower : HasParts state (manner_in state.tree sorts compare inside) inside.root [] inside.stack.items below
    pub folder : part.folder ≡ level.folder
    pub first : part.first ≡ None
    pub faultless : part.faults ≡ []
    pub planned : IsPlan state.tree (manner_in state.tree sorts compare inside) (with_folder level.folder (chain_above [] inside.stack.items)) (entry ∷ entries_due state level) part.left
    pub device : IsTrue inside.options.same_file_system → inside.device ≡ device_to state.tree inside.root

  -- A directory was entered: its level lies unread on top, and its item after its contents, if it is one, waits in the level below.
  pub record Enters (old : Inside S) (level : Level) (entry : DirEntry) (folder : Folder) (new : Inside S) (given : Option DirEntry) : Type 0 where
    pub raised : Level
    pub opened : Level
    pub top : new.top ≡ Some opened
    pub stack : new.stack.items ≡ old.stack.items ++ raised ∷ []
    pub raised_is : raised ≡ record level { first = raised.first }
    pub after : option_map item_of raised.first ≡ item_after old.options entry
    pub before : option_map item_of given ≡ item_before old.options entry
    pub folder_is : opened.folder ≡ Some folder
    pub first : opened.first ≡ None
    pub unread : opened.entries ≡ Unread
    pub faultless : opened.faults.items ≡ []

  -- ---- leaving

  -- the walk left the topmost directory
  pub record SkipsTo (sorts : Bool) (compare : DirEntry → DirEntry → Ordering) (rest : Rest) (now : DiskState) (inside : Inside S) : Type 0 where
    pub new : Rest
    pub skips : Skips rest new
    pub left : HasRest now sorts compare inside new

-- a directory that was entered, and of which nothing was read
pub record LiesUnread (level : Level) (folder : Option Folder) : Type 0 where
  pub folder_is : level.folder ≡ folder
  pub first : level.first ≡ None
  pub unread : level.entries ≡ Unread
  pub faultless : level.faults.items ≡ []

-- of the walk as it was with a level on top that lay unread, before that was taken off
abbrev pub WithUnread : {S : Type 0} → Inside S → Option Folder → (Inside S → Type 0) → Type 0
WithUnread inside folder P = (level : Level) → LiesUnread level folder → P (with_top inside level)
