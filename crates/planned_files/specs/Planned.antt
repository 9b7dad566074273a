-- Plans that are made of files.
use Rattle.std.specs.Prelude.{◌≡◌, ◌≢◌, ◌≤◌, ◌↔◌, ℕ, IsTrue, List, ◌∷◌, ◌++◌, map, All, Some, Result, IfOk, IfErr, ⊤}
use Rattle.std.specs.List.{AllZip}
use Rattle.sd_plan.specs.Sha256.{sha256}
use Rattle.sd_io.specs.Tree.{Tree}
use Rattle.sd_io.specs.Files.{file_of}
use Rattle.sd_io.specs.Disk.{DiskState, SameTree, SameLists}
use Rattle.sd_io.specs.declared.fault.DiskFault.{DiskFault}
use Rattle.sd_io.specs.declared.fault.DiskFault.TheVariants as disk
use Rattle.sd_change.specs.Change.{Change, FileChange}
use Rattle.sd_course.specs.Course.{Course, DiskFailed}
use Rattle.file_rewrite.specs.OneFile.{IsFileFault}
use Rattle.many_files.specs.Clear.{LeadsToFile}
use Rattle.sd_plan.specs.declared.line.PlanLine.{PlanLine}

abbrev pub path_of : PlanLine → List ℕ
path_of line = line.path

-- ---- the line of a file

-- The line of a file with these bytes: the digests of its bytes and of its new bytes, whether these differ, and how many spans are replaced in it.
pub record BecomesLine (change : Change) (bytes : List ℕ) (line : PlanLine) : Type 0 where
  pub new_bytes : List ℕ
  pub new_bytes_are : FileChange change bytes new_bytes line.replaced
  pub before : line.before ≡ sha256 bytes
  pub after : line.after ≡ sha256 new_bytes
  pub changed : IsTrue line.changed ↔ (new_bytes ≢ bytes)

-- the line of the regular file that the path leads to
pub record IsLineOf (change : Change) (tree : Tree) (path : List ℕ) (line : PlanLine) : Type 0 where
  pub path_is : line.path ≡ path
  pub bytes : List ℕ
  pub mode : ℕ
  pub is_file : file_of tree path ≡ Some (bytes, mode)
  pub becomes : BecomesLine change bytes line

-- a line for each of the paths, in order
abbrev pub PlansFiles : Change → Tree → List (List ℕ) → List PlanLine → Type 0
PlansFiles change tree paths lines = AllZip (IsLineOf change tree) paths lines

-- ---- why no plan is made

-- why a file isn't read: for want of memory; or with a counted fault, or because no regular file stands at the path
abbrev pub IsUnreadBy : Course DiskState → List ℕ → DiskFault → Type 0
IsUnreadBy d path disk.NoMemory = ⊤
IsUnreadBy d path failed = IsFileFault d path failed

-- the first of the files that isn't read, and why
pub record PlanningFails (paths : List (List ℕ)) (d : Course DiskState) (failed : DiskFault) : Type 0 where
  pub earlier : List (List ℕ)
  pub path : List ℕ
  pub later : List (List ℕ)
  pub paths_are : paths ≡ earlier ++ path ∷ later
  pub read : IsTrue d.tells → All (LeadsToFile d.old.tree) earlier
  pub why : IsUnreadBy d path failed

-- nothing stands in the way of reading these files
pub record AreReadable (paths : List (List ℕ)) (d : Course DiskState) : Type 0 where
  pub files : IsTrue d.tells → All (LeadsToFile d.old.tree) paths
  pub no_fault : DiskFailed d → ⊥

-- ---- all of it

-- What the making of a plan promises at each of its ends: what it is a plan of, why there is none, that nothing changed, and when nothing but want of
-- memory refuses it.
pub record Plans (change : Change) (paths : List (List ℕ)) (result : Result (List PlanLine) DiskFault) (d : Course DiskState) : Type 0 where
  pub planned : IsTrue d.tells → IfOk result (PlansFiles change d.old.tree paths)
  pub paths_are : IfOk result (λ lines. map path_of lines ≡ paths)
  pub fails : IfErr result (PlanningFails paths d)
  pub tree : SameTree d.old d.new
  pub lists : SameLists d.old d.new
  pub never_falls : d.old.faults ≤ d.new.faults
  pub complete : AreReadable paths d → IfErr result (λ failed. failed ≡ disk.NoMemory)
