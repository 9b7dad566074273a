-- Why a walk gives its items.
use Rattle.std.specs.Prelude.{◌≡◌, ◌⊎◌, ◌+◌, ◌≤◌, ◌<◌, ℕ, Bool, true, false, not, if◌then◌else◌, IsTrue, List, [], ◌∷◌, length, Option, Some, None, Ok, Err}
use Rattle.sd_io.specs.Count.{IsAtLast}
use Rattle.sd_io.specs.Disk.{DiskState}
use Rattle.sd_io.specs.declared.meta.Ident.{Ident}
use Rattle.walk_rest.specs.declared.entry.DirEntry.{DirEntry}
use Rattle.walk_rest.specs.declared.error.Error.{Error}
use Rattle.walk_rest.specs.declared.error.Error.TheVariants.{Disk, Absent, Loop, NoMemory, TooMany}
use Rattle.walk_rest.specs.declared.level.Folder.{Folder}
use Rattle.walk_rest.specs.declared.level.Entries.TheVariants.{Unread}
use Rattle.walk_rest.specs.declared.level.Level.{Level}
use Rattle.walk_rest.specs.Plan.{Comparison, Item}
use Rattle.walk_rest.specs.Rest.{Rest}
use Rattle.walk_steps.specs.declared.inside.Inside.{Inside}
use Rattle.walk_steps.specs.declared.see.Sight.{Sight}
use Rattle.walk_steps.specs.declared.see.Sight.TheVariants.{Stays, Enters}
use Rattle.walk_steps.specs.Inside.{HasRest, chain_of}
use Rattle.walk_steps.specs.Seen.{IsLoopIn}

-- ---- counted faults

-- how many faults these levels hold that were met and not given yet
abbrev pub faults_due : List Level → ℕ
faults_due [] = 0
faults_due (level ∷ levels) = length level.faults.items + faults_due levels

-- an error for which the disk counts a fault: `Disk`, and `Absent` where the disk doesn't tell its tree
abbrev pub is_counted : Bool → Error → Bool
is_counted tells (Disk path depth) = true
is_counted tells (Absent path depth) = not tells
is_counted tells (Loop path depth ancestor ident) = false
is_counted tells NoMemory = false
is_counted tells TooMany = false

-- how many counted faults an answer tells
abbrev pub faults_told : Bool → Option Item → ℕ
faults_told tells None = 0
faults_told tells (Some (Ok entry)) = 0
faults_told tells (Some (Err error)) = if is_counted tells error then 1 else 0

-- The faults that were told, with those that are due now and weren't before, are at most as many as the count rose, or it stands at its last value.
abbrev pub CountsFaults : ℕ → DiskState → List Level → DiskState → List Level → Type 0
CountsFaults told old before new after = (told + faults_due after + old.faults ≤ faults_due before + new.faults) ⊎ IsAtLast new.faults

module _ {S : Type 0} where
  -- on a disk that tells its tree, something is left of a walk over it, by a comparison that is the order's
  abbrev pub FitsTree : Bool → (S → Comparison → Type 0) → DiskState → Bool → Inside S → Type 0
  FitsTree tells compares_by state sorts inside = IsTrue tells → (by : Comparison) × (rest : Rest) × compares_by inside.order by × HasRest state sorts by inside rest

-- ---- errors

-- an item `Absent` on a disk that doesn't tell its tree comes only where the count of faults rose
abbrev pub CountsAbsent : Bool → DiskState → Option Item → DiskState → Type 0
CountsAbsent tells old answer new = tells ≡ false → (path : List ℕ) (depth : ℕ) → answer ≡ Some (Err (Absent path depth)) → old.faults < new.faults

-- an item `Loop` comes only where links are followed; the identity that it carries is the one that is kept for the directory of the chain that it names
abbrev pub IsLoopOf : Bool → List Folder → Option Item → Type 0
IsLoopOf follows chain answer =
    (path : List ℕ) (depth : ℕ) (ancestor : List ℕ) (ident : Ident) → answer ≡ Some (Err (Loop path depth ancestor ident)) → IsLoopIn follows chain (Loop path depth ancestor ident)

-- ---- what was entered

-- a directory that an entry leads to has its path and depth
pub record IsFolderOf (entry : DirEntry) (folder : Folder) : Type 0 where
  pub path : folder.path ≡ entry.path
  pub depth : folder.depth ≡ entry.depth

-- a directory that lies unread on top after an answer was entered by it: the answer is its entry
abbrev pub IsEnteredBy : Option Item → Option Level → Type 0
IsEnteredBy answer top = (level : Level) (folder : Folder) → top ≡ Some level → level.entries ≡ Unread → level.folder ≡ Some folder
    → (entry : DirEntry) × (answer ≡ Some (Ok entry)) × IsFolderOf entry folder

-- ---- parts of it

-- what the walk makes of an entry has its depth, and a directory is entered by its entry's path and depth
abbrev pub IsSightOf : DirEntry → Sight → Type 0
IsSightOf entry (Stays seen) = seen.depth ≡ entry.depth
IsSightOf entry (Enters seen folder) = (seen.depth ≡ entry.depth) × IsFolderOf seen folder

-- an answer, if one came, came for these causes
module _ {S : Type 0} where
  pub record IsCaused (tells : Bool) (old new : DiskState) (answer : Option Item) (now : Inside S) : Type 0 where
    pub absent : CountsAbsent tells old answer new
    pub looped : IsLoopOf now.options.follow_links (chain_of now) answer
    pub uncapped : answer ≡ Some (Err TooMany) → ⊥
    pub entered : (answer ≡ None → ⊥) → IsEnteredBy answer now.top
