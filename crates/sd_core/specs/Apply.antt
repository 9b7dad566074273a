-- What the applying of a plan does, and how it ends.
use Rattle.std.specs.Prelude.{◌≡◌, ◌≤◌, ℕ, IsTrue, List, Some, Result, Ok, Err, IfOk, IfErr, ⊤}
use Rattle.sd_io.specs.Tree.{Tree}
use Rattle.sd_io.specs.Files.{file_of}
use Rattle.sd_io.specs.Disk.{DiskState, SameTree, SameLists}
use Rattle.sd_change.specs.Change.{Change}
use Rattle.sd_course.specs.Course.{Course, course, DiskFailed}
use Rattle.file_rewrite.specs.OneFile.{IsFileFault}
use Rattle.many_files.specs.declared.report.Report.{Report}
use Rattle.sd_plan.specs.Plan.{IsTextOf, IsNoPlan}
use Rattle.sd_plan.specs.declared.line.PlanLine.{PlanLine}
use Rattle.planned_files.specs.Applied.{Applies}
use Rattle.planned_files.specs.declared.fault.ApplyFault.{ApplyFault}
use Rattle.sd_core.specs.Errors.{of_apply}
use Rattle.sd_core.specs.declared.error.Error.{Error}
use Rattle.sd_core.specs.declared.error.Error.TheVariants as error

-- the same answer, its fault told as that of a command
abbrev pub told_as_error : Result Report ApplyFault → Result Report Error
told_as_error (Ok report) = Ok report
told_as_error (Err fault) = Err (of_apply fault)

-- The plan of these lines is applied, or refused, with all that is promised of that.
pub record AppliesLines (change : Change) (lines : List PlanLine) (result : Result Report Error) (d : Course DiskState) : Type 0 where
  pub answer : Result Report ApplyFault
  pub applies : Applies change lines answer d
  pub told : result ≡ told_as_error answer

-- ---- the plan that a file holds

-- at the path stands a regular file, links followed, that holds the text of this plan
pub record HoldsPlan (tree : Tree) (path : List ℕ) (lines : List PlanLine) : Type 0 where
  pub text : List ℕ
  pub mode : ℕ
  pub is_file : file_of tree path ≡ Some (text, mode)
  pub is_text : IsTextOf text lines

-- one stands there, that holds the text of no plan
pub record HoldsNoPlan (tree : Tree) (path : List ℕ) : Type 0 where
  pub text : List ℕ
  pub mode : ℕ
  pub is_file : file_of tree path ≡ Some (text, mode)
  pub is_none : IsNoPlan text

-- Why no plan is read of a file.
abbrev pub PlanNotRead : List ℕ → Course DiskState → Error → Type 0
PlanNotRead path d (error.File fault) = IsFileFault d path fault
PlanNotRead path d error.NotAPlan = IsTrue d.tells → HoldsNoPlan d.old.tree path
PlanNotRead path d error.NoMemory = ⊤
PlanNotRead path d _ = ⊥

-- What the reading of a plan promises at each of its ends.
pub record ReadsPlan (path : List ℕ) (result : Result (List PlanLine) Error) (d : Course DiskState) : Type 0 where
  pub held : IsTrue d.tells → IfOk result (HoldsPlan d.old.tree path)
  pub fails : IfErr result (PlanNotRead path d)
  pub same : SameTree d.old d.new
  pub lists : SameLists d.old d.new
  pub never_falls : d.old.faults ≤ d.new.faults
  pub complete : IsTrue d.tells → (DiskFailed d → ⊥) → (lines : List PlanLine) → HoldsPlan d.old.tree path lines → IfErr result (λ failed. failed ≡ error.NoMemory)

-- ---- both, one after the other

-- The plan that was read is applied; where none was read, nothing more is done.
abbrev pub ThenApplies : Change → Result (List PlanLine) Error → Result Report Error → Course DiskState → Type 0
ThenApplies change (Ok lines) result d = AppliesLines change lines result d
ThenApplies change (Err failed) result d = (result ≡ Err failed) × (d.new ≡ d.old)

-- What the applying of the plan that a file holds promises: the file is read, which leaves the tree as it is, and then its plan is applied.
pub record AppliesFile (change : Change) (path : List ℕ) (result : Result Report Error) (d : Course DiskState) : Type 0 where
  pub read : Result (List PlanLine) Error
  pub between : DiskState
  pub reads : ReadsPlan path read (course d.tells d.old between)
  pub applies : ThenApplies change read result (course d.tells between d.new)
