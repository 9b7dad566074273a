-- Lines of a plan that are checked before anything is written.
use Rattle.std.specs.Prelude.{◌≡◌, ◌≢◌, ℕ, IsTrue, List, ◌∷◌, ◌++◌, All, Some, ⊤}
use Rattle.sd_plan.specs.Sha256.{sha256}
use Rattle.sd_io.specs.Tree.{Tree}
use Rattle.sd_io.specs.Files.{file_of}
use Rattle.sd_io.specs.Disk.{DiskState}
use Rattle.sd_change.specs.Change.{Change, FileChange}
use Rattle.sd_course.specs.Course.{Course}
use Rattle.file_rewrite.specs.OneFile.{IsFileFault}
use Rattle.sd_plan.specs.declared.line.PlanLine.{PlanLine}
use Rattle.planned_files.specs.declared.fault.ApplyFault.{ApplyFault}
use Rattle.planned_files.specs.declared.fault.ApplyFault.TheVariants as fault

-- ---- one line

-- At the line's path stands a regular file with the digest `before`, and its new bytes have the digest `after`.
pub record IsRight (change : Change) (tree : Tree) (line : PlanLine) : Type 0 where
  pub bytes : List ℕ
  pub mode : ℕ
  pub is_file : file_of tree line.path ≡ Some (bytes, mode)
  pub before : line.before ≡ sha256 bytes
  pub new_bytes : List ℕ
  pub count : ℕ
  pub new_bytes_are : FileChange change bytes new_bytes count
  pub after : line.after ≡ sha256 new_bytes

-- a regular file stands there, whose digest isn't `before`
pub record IsStale (tree : Tree) (line : PlanLine) (found : List ℕ) : Type 0 where
  pub bytes : List ℕ
  pub mode : ℕ
  pub is_file : file_of tree line.path ≡ Some (bytes, mode)
  pub found_is : found ≡ sha256 bytes
  pub differs : line.before ≢ found

-- a regular file with the digest `before` stands there, and the digest of its new bytes isn't `after`
pub record IsDifferent (change : Change) (tree : Tree) (line : PlanLine) (found : List ℕ) : Type 0 where
  pub bytes : List ℕ
  pub mode : ℕ
  pub is_file : file_of tree line.path ≡ Some (bytes, mode)
  pub before : line.before ≡ sha256 bytes
  pub new_bytes : List ℕ
  pub count : ℕ
  pub new_bytes_are : FileChange change bytes new_bytes count
  pub found_is : found ≡ sha256 new_bytes
  pub differs : line.after ≢ found

-- ---- why a check fails

-- the file has changed since the plan; on a disk that doesn't tell its tree, what is told are two digests that differ
pub record TellsStale (line : PlanLine) (d : Course DiskState) (path planned found : List ℕ) : Type 0 where
  pub path_is : path ≡ line.path
  pub planned_is : planned ≡ line.before
  pub differ : planned ≢ found
  pub told : IsTrue d.tells → IsStale d.old.tree line found

-- the file would become something else than was planned
pub record TellsDifferent (change : Change) (line : PlanLine) (d : Course DiskState) (path planned found : List ℕ) : Type 0 where
  pub path_is : path ≡ line.path
  pub planned_is : planned ≡ line.after
  pub differ : planned ≢ found
  pub told : IsTrue d.tells → IsDifferent change d.old.tree line found

-- why the check of a line fails
abbrev pub LineFails : Change → PlanLine → Course DiskState → ApplyFault → Type 0
LineFails change line d (fault.File failed) = IsFileFault d line.path failed
LineFails change line d (fault.Stale path planned found) = TellsStale line d path planned found
LineFails change line d (fault.Differs path planned found) = TellsDifferent change line d path planned found
LineFails change line d (fault.Failed jobs) = ⊥
LineFails change line d fault.NoMemory = ⊤

-- the lines before this one are right
pub record IsNextAfterRight (change : Change) (tree : Tree) (lines : List PlanLine) (line : PlanLine) : Type 0 where
  pub earlier : List PlanLine
  pub later : List PlanLine
  pub lines_are : lines ≡ earlier ++ line ∷ later
  pub right : All (IsRight change tree) earlier

-- the first of the lines whose check fails, and why
pub record FailsFirst (change : Change) (lines : List PlanLine) (d : Course DiskState) (failed : ApplyFault) : Type 0 where
  pub earlier : List PlanLine
  pub line : PlanLine
  pub later : List PlanLine
  pub lines_are : lines ≡ earlier ++ line ∷ later
  pub right : IsTrue d.tells → All (IsRight change d.old.tree) earlier
  pub why : LineFails change line d failed

-- why the check of all lines fails; want of memory may come at any of them, and before
abbrev pub CheckFails : Change → List PlanLine → Course DiskState → ApplyFault → Type 0
CheckFails change lines d fault.NoMemory = ⊤
CheckFails change lines d failed = FailsFirst change lines d failed
