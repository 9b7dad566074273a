-- The rewriting of one file.
use Rattle.std.specs.Prelude.{◌≡◌, ◌≢◌, ◌≤◌, ◌↔◌, ◌⊎◌, ℕ, true, IsTrue, List, length, Option, Some, None, IsSome, Contains}
use Rattle.sd_io.specs.Tree.{NameList, Content, Tree, SameBut, node_at, file_at}
use Rattle.sd_io.specs.Paths.{reached, parent_of}
use Rattle.sd_io.specs.Files.{file_of}
use Rattle.sd_io.specs.Disk.{DiskState, SameTree}
use Rattle.sd_io.specs.declared.fault.DiskFault.{DiskFault}
use Rattle.sd_io.specs.declared.fault.DiskFault.TheVariants as disk
use Rattle.sd_change.specs.Change.{Change, FileChange}
use Rattle.sd_course.specs.Course.{Course, AsTold, HasRisenBy, DiskFailed}
use Rattle.file_exchange.specs.Reserved.{Free, FirstFree, reserved_names}
use Rattle.file_rewrite.specs.Paths.{IsNoPath}
use Rattle.file_rewrite.specs.Rewritten.{IsLeft, IsOld, IsNewFile, IsChangedFile}
use Rattle.file_rewrite.specs.declared.rewrite.Rewrite.{Rewrite}
use Rattle.file_rewrite.specs.declared.fault.JobFault.{JobFault}
use Rattle.file_rewrite.specs.declared.fault.JobFault.TheVariants as job

-- ---- done

-- The path led to a regular file, which has its mode and its new bytes; where these are its bytes, nothing changed at all. Every other place is as before.
pub record RewritesFile (change : Change) (path : List ℕ) (rewrite : Rewrite) (old new : DiskState) : Type 0 where
  pub place : NameList
  pub leads : reached old.tree path true ≡ Some place
  pub bytes : List ℕ
  pub mode : ℕ
  pub was : file_at old.tree place ≡ Some (bytes, mode)
  pub new_bytes : List ℕ
  pub new_bytes_are : FileChange change bytes new_bytes rewrite.replaced
  pub changed : IsTrue rewrite.changed ↔ (new_bytes ≢ bytes)
  pub holds : file_at new.tree place ≡ Some (new_bytes, mode)
  pub kept : new_bytes ≡ bytes → SameTree old new
  pub others : SameBut place old.tree new.tree

-- ---- refused

-- The file at the place is left. At most one reserved name of its folder, the first that was free, may still be taken: only where the file is old, and its
-- removal was refused as well.
pub record LeavesAt (change : Change) (path : List ℕ) (fault : JobFault) (old new : DiskState) : Type 0 where
  pub place : NameList
  pub leads : reached old.tree path true ≡ Some place
  pub is_file : IsSome (file_at old.tree place)
  pub left : IsLeft (FileChange change) old.tree new.tree place fault
  pub temporary : Option NameList
  pub was_free : (q : NameList) → temporary ≡ Some q → FirstFree old.tree (parent_of place) q
  pub others : (q : NameList) → q ≢ place → temporary ≢ Some q → node_at new.tree q ≡ node_at old.tree q
  pub old_or_alone : IsOld old.tree new.tree place ⊎ (temporary ≡ None)
  pub two_refusals : (fault ≡ job.NoMemory) ⊎ (temporary ≡ None) ⊎ HasRisenBy 2 old.faults new.faults

-- nothing changed, or a file is left so
abbrev pub LeavesFile : Change → List ℕ → JobFault → DiskState → DiskState → Type 0
LeavesFile change path fault old new = SameTree old new ⊎ LeavesAt change path fault old new

-- ---- why

-- the fault of a file: `Failed` with a counted fault alone, `Absent` where no regular file stands at the path; untold with a counted fault as well
abbrev pub IsFileFault : Course DiskState → List ℕ → DiskFault → Type 0
IsFileFault d path disk.Absent = AsTold d.tells (file_of d.old.tree path ≡ None) (DiskFailed d)
IsFileFault d path disk.Taken = ⊥
IsFileFault d path disk.Failed = DiskFailed d
IsFileFault d path disk.NoMemory = ⊥

-- the fault of a move: a counted one; `Absent` on an untold disk alone
abbrev pub IsMoveFault : Course DiskState → DiskFault → Type 0
IsMoveFault d disk.Absent = AsTold d.tells ⊥ (DiskFailed d)
IsMoveFault d disk.Taken = ⊥
IsMoveFault d disk.Failed = DiskFailed d
IsMoveFault d disk.NoMemory = ⊥

-- the folder has at most so many free reserved names: each is one of so many places
pub record FreeAtMost (tree : Tree) (folder : NameList) (n : ℕ) : Type 0 where
  pub places : List NameList
  pub few : length places ≤ n
  pub all : (place : NameList) → Free tree folder place → Contains places place

-- the path leads to a regular file, in whose folder at most so many reserved names are free
pub record IsCrowded (tree : Tree) (path : List ℕ) (n : ℕ) : Type 0 where
  pub place : NameList
  pub leads : reached tree path true ≡ Some place
  pub is_file : IsSome (file_at tree place)
  pub few : FreeAtMost tree (parent_of place) n

-- why a file is refused
abbrev pub HasFileCause : Course DiskState → List ℕ → JobFault → Type 0
HasFileCause d path (job.File fault) = IsFileFault d path fault
HasFileCause d path (job.TempfilePersist fault) = IsMoveFault d fault
HasFileCause d path job.InvalidPath = IsNoPath path
HasFileCause d path job.TempName = AsTold d.tells (IsCrowded d.old.tree path 0) (HasRisenBy reserved_names d.old.faults d.new.faults)
HasFileCause d path job.NoMemory = Unit {0}

-- ---- a crash

-- the file that the path leads to, with its mode and its new bytes
abbrev pub IsNewAt : Change → Tree → List ℕ → NameList → Content → Type 0
IsNewAt change tree path q content = (reached tree path true ≡ Some q) × IsNewFile (FileChange change) tree q content

-- the same, where its bytes change
abbrev pub IsChangedAt : Change → Tree → List ℕ → NameList → Content → Type 0
IsChangedAt change tree path q content = (reached tree path true ≡ Some q) × IsChangedFile (FileChange change) tree q content

-- the first reserved name that is free in the folder of the file that the path leads to
pub record IsFirstFreeBy (tree : Tree) (path : List ℕ) (temporary : NameList) : Type 0 where
  pub place : NameList
  pub leads : reached tree path true ≡ Some place
  pub is_file : IsSome (file_at tree place)
  pub first : FirstFree tree (parent_of place) temporary
