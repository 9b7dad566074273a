-- What is left of a walk, and its steps.
use Rattle.std.specs.Prelude.{◌≡◌, ◌+◌, ◌⊎◌, ℕ, suc, List, [], ◌∷◌, ◌++◌, Option, Some, None, Err}
use Rattle.walk_rest.specs.declared.error.Error.TheVariants as error
use Rattle.walk_rest.specs.declared.level.Folder.{Folder}
use Rattle.walk_rest.specs.Plan.{Item, Plan, done, past, into, items_in, items_of}

-- a fault that was met and wasn't given yet: the path and depth of its item
pub record Fault : Type 0 where
  pub path : Option (List ℕ)
  pub depth : ℕ

abbrev pub item_of_fault : Fault → Item
item_of_fault fault = Err (error.Disk fault.path fault.depth)

-- What is due of one entered directory, or of the root.
pub record Part : Type 0 where
  -- none for the part of the root
  pub folder : Option Folder
  -- the item of a directory in it that was left
  pub first : Option Item
  pub left : Plan
  pub faults : List Fault

-- the parts of the directories that were entered and not left, the last one last; the first is the root's
abbrev pub Rest : Type 0
Rest = List Part

-- the part of a directory that is entered
abbrev pub entered : Folder → Plan → Part
entered folder contents = record { folder = Some folder; first = None; left = contents; faults = [] }

-- nothing is due
pub record IsSpent (part : Part) : Type 0 where
  pub first : part.first ≡ None
  pub left : part.left ≡ done
  pub faults : part.faults ≡ []

-- ---- cuts

-- some entries are gone, each with all below it
pub data IsCutTo : Plan → Plan → Type 0 where
  all_kept : IsCutTo done done
  past_gone : {path : List ℕ} {item : Option Item} {plan left : Plan} → IsCutTo plan left → IsCutTo (past path item plan) left
  past_kept : {path : List ℕ} {item : Option Item} {plan left : Plan} → IsCutTo plan left → IsCutTo (past path item plan) (past path item left)
  into_gone : {folder : Folder} {before after : Option Item} {contents plan left : Plan} → IsCutTo plan left → IsCutTo (into folder before contents after plan) left
  into_kept : {folder : Folder} {before after : Option Item} {contents plan left : Plan}
      → IsCutTo plan left → IsCutTo (into folder before contents after plan) (into folder before contents after left)

-- the next entry is gone, with all below it
abbrev pub IsNextGone : Plan → List ℕ → Plan → Type 0
IsNextGone done path left = ⊥
IsNextGone (past at item plan) path left = (at ≡ path) × (left ≡ plan)
IsNextGone (into folder before contents after plan) path left = (folder.path ≡ path) × (left ≡ plan)

-- opening the directory failed: no entry comes, and the fault has its depth and path
abbrev pub IsOpeningFault : Folder → Fault → Plan → Type 0
IsOpeningFault folder fault left = (fault ≡ record { path = Some folder.path; depth = folder.depth }) × (left ≡ done)

-- reading its list failed, or the identity of one of its entries for the loop check: the fault has the depth of its entries and no path
abbrev pub IsListingFault : Folder → Fault → Plan → Plan → Type 0
IsListingFault folder fault plan left = (fault ≡ record { path = None; depth = folder.depth + 1 }) × IsCutTo plan left

-- another call on its next entry failed: the fault has that entry's depth and path
abbrev pub IsEntryFault : ℕ → Fault → Plan → Plan → Type 0
IsEntryFault depth fault plan left = (path : List ℕ) × (fault ≡ record { path = Some path; depth = depth }) × IsNextGone plan path left

-- a call on the root failed: it is gone with all below it, and the fault has its path, or none for the loop check
abbrev pub IsRootFault : Fault → Plan → Plan → Type 0
IsRootFault fault plan left = IsEntryFault 0 fault plan left ⊎ ((path : List ℕ) × (fault ≡ record { path = None; depth = 0 }) × IsNextGone plan path left)

abbrev pub IsFaultIn : Option Folder → Fault → Plan → Plan → Type 0
IsFaultIn None fault plan left = IsRootFault fault plan left
IsFaultIn (Some folder) fault plan left = IsOpeningFault folder fault left ⊎ IsListingFault folder fault plan left ⊎ IsEntryFault (folder.depth + 1) fault plan left

-- one part loses entries for one fault
pub record Cuts (old new : Rest) : Type 0 where
  pub below : List Part
  pub part : Part
  pub above : List Part
  pub left : Plan
  pub fault : Fault
  pub was : old ≡ below ++ part ∷ above
  pub met : IsFaultIn part.folder fault part.left left
  pub now : new ≡ below ++ record part { left = left; faults = part.faults ++ fault ∷ [] } ∷ above

-- ---- what comes next

-- What is due next in the topmost part, by its `first` and its `left`, is taken off: what it gives, if it isn't hidden.
abbrev pub ComesIn : List Part → Part → Option Item → Plan → Option Item → Rest → Type 0
-- the item of a directory that was left
ComesIn below part (Some first) plan item new = (item ≡ Some first) × (new ≡ below ++ record part { first = None } ∷ [])
ComesIn below part None done item new = ⊥
-- an entry that isn't entered
ComesIn below part None (past path given plan) item new = (item ≡ given) × (new ≡ below ++ record part { left = plan } ∷ [])
-- a directory: its part goes on top
ComesIn below part None (into folder before contents after plan) item new =
    (item ≡ before) × (new ≡ (below ++ record part { first = after; left = plan } ∷ []) ++ entered folder contents ∷ [])

-- it comes only where no fault of the part is due
pub record Comes (old : Rest) (item : Option Item) (new : Rest) : Type 0 where
  pub below : List Part
  pub part : Part
  pub was : old ≡ below ++ part ∷ []
  pub faultless : part.faults ≡ []
  pub comes : ComesIn below part part.first part.left item new

-- the topmost part is passed, of which nothing is due
pub record Leaves (old new : Rest) : Type 0 where
  pub part : Part
  pub was : old ≡ new ++ part ∷ []
  pub spent : IsSpent part

-- one fault due of some part is taken off
pub record GivesFault (old : Rest) (item : Item) (new : Rest) : Type 0 where
  pub below : List Part
  pub part : Part
  pub above : List Part
  pub before : List Fault
  pub fault : Fault
  pub after : List Fault
  pub was : old ≡ below ++ part ∷ above
  pub due : part.faults ≡ before ++ fault ∷ after
  pub given : item ≡ item_of_fault fault
  pub now : new ≡ below ++ record part { faults = before ++ after } ∷ above

-- ---- steps

-- some cuts, and no answer yet
pub data Moves : ℕ → Rest → Rest → Type 0 where
  none : {rest : Rest} → Moves 0 rest rest
  cut : {n : ℕ} {old mid new : Rest} → Moves n old mid → Cuts mid new → Moves (suc n) old new
  -- what is hidden is passed over
  come : {n : ℕ} {old mid new : Rest} → Moves n old mid → Comes mid None new → Moves n old new
  leave : {n : ℕ} {old mid new : Rest} → Moves n old mid → Leaves mid new → Moves n old new

-- the answer: a fault due, or what is due next, or none where nothing is left
abbrev pub Answers : Rest → Option Item → Rest → Type 0
Answers old None new = (old ≡ []) × (new ≡ [])
Answers old (Some item) new = GivesFault old item new ⊎ Comes old (Some item) new

-- One step of a walk, with so many cuts. A directory that the answer enters is read by a later step, and not opened by this one.
pub record IsStep (cuts : ℕ) (old : Rest) (answer : Option Item) (new : Rest) : Type 0 where
  pub mid : Rest
  pub moves : Moves cuts old mid
  pub answers : Answers mid answer new

-- The topmost part is taken off, with its faults due; there is none where only the root's part stands.
abbrev pub Skips : Rest → Rest → Type 0
Skips [] new = new ≡ []
Skips (part ∷ []) new = new ≡ part ∷ []
Skips (part ∷ next ∷ parts) new = (top : Part) × (part ∷ next ∷ parts ≡ new ++ top ∷ [])

-- ---- whole runs

-- all items that are due, where no fault comes
abbrev pub due_of : Part → List Item
due_of part = items_of part.first ++ items_in part.left

abbrev pub due_in : Rest → List Item
due_in [] = []
due_in (part ∷ parts) = due_in parts ++ due_of part

-- no fault is due
abbrev pub HasNoFaults : Rest → Type 0
HasNoFaults [] = Unit {0}
HasNoFaults (part ∷ parts) = (part.faults ≡ []) × HasNoFaults parts

-- steps without cuts gave these items, and then nothing
abbrev pub Runs : Rest → List Item → Type 0
Runs rest [] = (new : Rest) × IsStep 0 rest None new
Runs rest (item ∷ items) = (new : Rest) × IsStep 0 rest (Some item) new × Runs new items

-- the rest of a walk that begins: the root's part
abbrev pub start : Plan → Rest
start plan = record { folder = None; first = None; left = plan; faults = [] } ∷ []
