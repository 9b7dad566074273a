-- How a choice of files ends.
use Rattle.std.specs.Prelude.{◌≡◌, ◌+◌, ◌≤◌, ℕ, max, IsTrue, true, List, Result, IsSome, IfErr, IfOk, OnOk, All, ⊤}
use Rattle.sd_io.specs.Count.{HasRisen}
use Rattle.sd_io.specs.Disk.{DiskState, SameTree}
use Rattle.sd_io.specs.Files.{LeadsNowhere}
use Rattle.sd_io.specs.Lists.{IsOpen}
use Rattle.sd_io.specs.Paths.{reached}
use Rattle.sd_course.specs.Course.{Course, AsTold, DiskFailed}
use Rattle.walk_rest.specs.declared.error.Error.{Error}
use Rattle.walk_rest.specs.declared.error.Error.TheVariants as error
use Rattle.sd_ignore.specs.declared.rule.Rule.{Rule}
use Rattle.chosen_files.specs.declared.choice.Choice.{Choice}
use Rattle.chosen_files.specs.declared.fault.ChoiceFault.{ChoiceFault}
use Rattle.chosen_files.specs.declared.fault.ChoiceFault.TheVariants as fault
use Rattle.chosen_files.specs.Below.{HasManyBelow}
use Rattle.chosen_files.specs.Chosen.{IsPathBelow}
use Rattle.chosen_files.specs.Globs.{IsFirstInvalid}
use Rattle.chosen_files.specs.Kept.{ListsKept}
use Rattle.chosen_files.specs.Seen.{HasFewerSeen, HasManySeen, ListsOnlySeen}

-- ---- open lists

-- Each list that was open is as it was, as many are open, and at most so many more were open in between.
pub record KeepsLists (more : ℕ) (old new : DiskState) : Type 0 where
  pub open_list : (number : ℕ) → IsOpen old number → new.open_list number ≡ old.open_list number
  pub open_count : new.open_count ≡ old.open_count
  pub open_most : new.open_most ≤ max old.open_most (old.open_count + more)

-- ---- why it is refused

-- why a walk fails: the disk counted a fault; on one that doesn't tell its tree it may tell of nothing and count that
abbrev pub WalkFails : Course DiskState → Error → Type 0
WalkFails d (error.Disk path depth) = DiskFailed d
WalkFails d (error.Absent path depth) = (IsTrue d.tells → ⊥) × DiskFailed d
WalkFails d (error.Loop path depth ancestor ident) = ⊥
WalkFails d error.NoMemory = ⊥
WalkFails d error.TooMany = ⊥

-- why globs aren't read: the first that is invalid stands at this place
abbrev pub GlobsFail : List (List ℕ) → ChoiceFault → Type 0
GlobsFail globs (fault.BadGlob place) = IsFirstInvalid globs place
GlobsFail globs fault.RootMissing = ⊥
GlobsFail globs (fault.Walk failed) = ⊥
GlobsFail globs fault.TooMany = ⊥
GlobsFail globs fault.NoMemory = ⊤

-- why no files are chosen
abbrev pub ChoiceFails : List ℕ → ℕ → Course DiskState → ChoiceFault → Type 0
ChoiceFails root cap d (fault.BadGlob place) = ⊥
ChoiceFails root cap d fault.RootMissing = AsTold d.tells (LeadsNowhere d.old root true) (DiskFailed d)
ChoiceFails root cap d (fault.Walk failed) = WalkFails d failed
ChoiceFails root cap d fault.TooMany = AsTold d.tells (HasManyBelow cap d.old.tree root) (d.old.listed + cap ≤ d.new.listed)
ChoiceFails root cap d fault.NoMemory = ⊤

-- why no files are chosen under rules of what is ignored
abbrev pub KeepFails : List ℕ → List Rule → ℕ → Course DiskState → ChoiceFault → Type 0
KeepFails root rules cap d (fault.BadGlob place) = ⊥
KeepFails root rules cap d fault.RootMissing = AsTold d.tells (LeadsNowhere d.old root true) (DiskFailed d)
KeepFails root rules cap d (fault.Walk failed) = WalkFails d failed
KeepFails root rules cap d fault.TooMany = AsTold d.tells (HasManySeen cap d.old.tree root rules) (d.old.listed + cap ≤ d.new.listed)
KeepFails root rules cap d fault.NoMemory = ⊤

-- an error of a walk as a fault of a choice
abbrev pub fault_of : Error → ChoiceFault
fault_of (error.Disk path depth) = fault.Walk (error.Disk path depth)
fault_of (error.Absent path depth) = fault.Walk (error.Absent path depth)
fault_of (error.Loop path depth ancestor ident) = fault.Walk (error.Loop path depth ancestor ident)
fault_of error.NoMemory = fault.NoMemory
fault_of error.TooMany = fault.TooMany

-- ---- a choice under rules of what is ignored

-- What a choice of files answers, and what it leaves.
pub record Chooses (root : List ℕ) (globs : List (List ℕ)) (rules : List Rule) (cap : ℕ) (d : Course DiskState) (result : Result Choice ChoiceFault) : Type 0 where
  -- on a disk that tells its tree: the kept files in their order
  pub kept : IsTrue d.tells → IfOk result (λ (choice : Choice). ListsKept d.old.tree root globs rules choice.paths.items)
  pub below_root : IfOk result (λ (choice : Choice). All (IsPathBelow root) choice.paths.items)
  pub few : IsTrue d.tells → OnOk result (HasFewerSeen cap d.old.tree root rules)
  -- no ignored directory was read, and no other one twice
  pub listed : IsTrue d.tells → (HasRisen d.old.faults d.new.faults → ⊥) → OnOk result (ListsOnlySeen d.old.tree root rules d.old.listed d.new.listed)
  pub refused : IfErr result (KeepFails root rules cap d)
  -- where nothing else stands in the way, it is refused for want of memory alone
  pub complete : IsTrue d.tells → IsSome (reached d.old.tree root true) → HasFewerSeen cap d.old.tree root rules → (DiskFailed d → ⊥)
      → IfErr result (λ (failed : ChoiceFault). failed ≡ fault.NoMemory)
  pub tree : SameTree d.old d.new
  pub lists : KeepsLists 10 d.old d.new
  pub faults : d.old.faults ≤ d.new.faults
  -- the count of listed entries never falls
  pub later : d.old.listed ≤ d.new.listed
