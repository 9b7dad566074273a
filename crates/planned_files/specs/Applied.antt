-- Plans that are applied.
use Rattle.std.specs.Prelude.{◌≡◌, ◌≤◌, ◌+◌, ◌⊎◌, ℕ, true, IsTrue, List, [], ◌∷◌, length, map, All, Contains, Some, None, Result, Err, IfOk, IfErr, OnOk, ⊤}
use Rattle.std.specs.List.{AllZip}
use Rattle.sd_plan.specs.Sha256.{sha256}
use Rattle.sd_io.specs.Tree.{NameList, Tree, node_at, file_at}
use Rattle.sd_io.specs.Paths.{reached}
use Rattle.sd_io.specs.Files.{file_of}
use Rattle.sd_io.specs.Disk.{DiskState, SameTree, SameLists}
use Rattle.sd_io.specs.Crashes.{LeavesSince, IsDurable}
use Rattle.sd_io.specs.declared.fault.DiskFault.TheVariants as disk
use Rattle.sd_change.specs.Change.{Change, FileChange}
use Rattle.sd_course.specs.Course.{Course, course, DiskFailed}
use Rattle.file_rewrite.specs.Rewritten.{IsLeft}
use Rattle.file_rewrite.specs.declared.fault.JobFault.{JobFault}
use Rattle.many_files.specs.Files.{IsFreeBeside}
use Rattle.many_files.specs.Rewritten.{LeavesEach, IsNewOne, IsChangedOne}
use Rattle.many_files.specs.Counts.{change_count}
use Rattle.many_files.specs.Jobs.{Job, WantMemory}
use Rattle.many_files.specs.InTurn.{DoesFiles, FailsSome}
use Rattle.many_files.specs.Clear.{HasRoomBy}
use Rattle.many_files.specs.declared.report.Report.{Report}
use Rattle.sd_plan.specs.declared.line.PlanLine.{PlanLine}
use Rattle.planned_files.specs.Planned.{path_of}
use Rattle.planned_files.specs.Checked.{IsRight, IsStale, IsDifferent, IsNextAfterRight, CheckFails}
use Rattle.planned_files.specs.declared.fault.ApplyFault.{ApplyFault}
use Rattle.planned_files.specs.declared.fault.ApplyFault.TheVariants as fault

-- ---- lines that lead apart

-- no place stands twice
abbrev pub AreApart : List NameList → Type 0
AreApart [] = ⊤
AreApart (place ∷ places) = (Contains places place → ⊥) × AreApart places

-- the paths lead to these places, links followed, no two to one
pub record LeadApart (tree : Tree) (paths : List (List ℕ)) (places : List NameList) : Type 0 where
  pub lead : map (λ path. reached tree path true) paths ≡ map (λ place. Some place) places
  pub apart : AreApart places

-- The regular file at the place had the digest `before`; it keeps its mode and holds its new bytes, whose digest is `after`.
pub record IsApplied (change : Change) (old new : Tree) (line : PlanLine) (place : NameList) : Type 0 where
  pub bytes : List ℕ
  pub mode : ℕ
  pub was : file_at old place ≡ Some (bytes, mode)
  pub before : line.before ≡ sha256 bytes
  pub new_bytes : List ℕ
  pub count : ℕ
  pub new_bytes_are : FileChange change bytes new_bytes count
  pub after : line.after ≡ sha256 new_bytes
  pub holds : file_at new place ≡ Some (new_bytes, mode)

-- what a line's file adds to the counts: whether its bytes change, and how many spans are replaced
pub record CountsLine (change : Change) (tree : Tree) (line : PlanLine) (changed replaced : ℕ) : Type 0 where
  pub bytes : List ℕ
  pub mode : ℕ
  pub is_file : file_of tree line.path ≡ Some (bytes, mode)
  pub new_bytes : List ℕ
  pub new_bytes_are : FileChange change bytes new_bytes replaced
  pub changed_is : changed ≡ change_count bytes new_bytes

-- how many of the lines' files change, and how many spans are replaced in all of them
abbrev pub CountsLines : Change → Tree → List PlanLine → ℕ → ℕ → Type 0
CountsLines change tree [] changed replaced = (changed ≡ 0) × (replaced ≡ 0)
CountsLines change tree (line ∷ lines) changed replaced =
    (one count rest_changed rest_replaced : ℕ) × CountsLine change tree line one count
    × CountsLines change tree lines rest_changed rest_replaced × (changed ≡ one + rest_changed) × (replaced ≡ count + rest_replaced)

-- Each line is applied, at every other place stands what stood there, and the report counts the lines, the files and the spans.
pub record AppliesPlan (change : Change) (lines : List PlanLine) (places : List NameList) (report : Report) (old new : Tree) : Type 0 where
  pub each : AllZip (IsApplied change old new) lines places
  pub others : (q : NameList) → (Contains places q → ⊥) → node_at new q ≡ node_at old q
  pub chosen : report.chosen ≡ length lines
  pub counts : CountsLines change old lines report.changed report.replaced

-- the line is applied, or its file is a job, and left as its fault says
abbrev pub IsAppliedOrLeft : Change → List Job → Tree → Tree → PlanLine → NameList → Type 0
IsAppliedOrLeft change jobs old new line place =
    IsApplied change old new line place ⊎ ((failed : JobFault) × Contains jobs (line.path, failed) × IsLeft (FileChange change) old new place failed)

-- what a refusal leaves of them
abbrev pub FailsApart : Change → List PlanLine → List NameList → Tree → Tree → ApplyFault → Type 0
FailsApart change lines places old new (fault.Failed jobs) = AllZip (IsAppliedOrLeft change jobs old new) lines places
FailsApart change lines places old new _ = ⊤

-- The lines are applied, or some of their files failed. However it ends each file is old or new, and nothing else stands otherwise but reserved
-- names; a crash leaves each of them so at any moment; and after `Ok` their new bytes alone.
pub record AppliesApart (change : Change) (lines : List PlanLine) (places : List NameList) (result : Result Report ApplyFault) (old new : DiskState)
    : Type 0 where
  pub applied : IfOk result (λ report. AppliesPlan change lines places report old.tree new.tree)
  pub failed : IfErr result (FailsApart change lines places old.tree new.tree)
  pub however : LeavesEach (Contains places) (FileChange change) old.tree new.tree
  pub crash : LeavesSince (IsNewOne (Contains places) (FileChange change) old.tree) (IsFreeBeside (Contains places) old.tree) old new
  pub durable : OnOk result (IsDurable (IsChangedOne (Contains places) (FileChange change) old.tree) old new)

-- ---- lines that may lead to one file

-- All lines are right. Then their files were rewritten in turn, from the disk as the check left it, with the same tree; and the report counts what
-- was done.
pub record DoesLines (change : Change) (lines : List PlanLine) (report : Report) (d : Course DiskState) : Type 0 where
  pub right : IsTrue d.tells → All (IsRight change d.old.tree) lines
  pub checked : DiskState
  pub same : SameTree d.old checked
  pub low : d.old.faults ≤ checked.faults
  pub done : DoesFiles change (map path_of lines) report (course d.tells checked d.new)

-- all lines are right, but some of their files failed then
pub record FailsLines (change : Change) (lines : List PlanLine) (d : Course DiskState) (jobs : List Job) : Type 0 where
  pub right : IsTrue d.tells → All (IsRight change d.old.tree) lines
  pub checked : DiskState
  pub same : SameTree d.old checked
  pub low : d.old.faults ≤ checked.faults
  pub failed : FailsSome change (map path_of lines) (course d.tells checked d.new) jobs

-- What a refusal leaves, and why it comes.
abbrev pub ApplyFails : Change → List PlanLine → Course DiskState → ApplyFault → Type 0
ApplyFails change lines d (fault.Failed jobs) = FailsLines change lines d jobs
ApplyFails change lines d failed = SameTree d.old d.new × CheckFails change lines d failed

-- ---- when a refusal comes

-- want of memory may come in place of any refusal
abbrev pub IsOrMemory : ApplyFault → Result Report ApplyFault → Type 0
IsOrMemory expected result = (result ≡ Err expected) ⊎ (result ≡ Err fault.NoMemory)

-- the folder of the line's file has a reserved name that is free
abbrev pub HasRoomFor : Tree → PlanLine → Type 0
HasRoomFor tree line = HasRoomBy tree line.path

-- nothing stands in the way of applying the plan
pub record IsApplyClear (change : Change) (lines : List PlanLine) (d : Course DiskState) : Type 0 where
  pub told : IsTrue d.tells
  pub right : All (IsRight change d.old.tree) lines
  pub room : All (HasRoomFor d.old.tree) lines
  pub no_fault : DiskFailed d → ⊥

-- want of memory is the one reason left
abbrev pub IsApplyForMemory : Tree → ApplyFault → Type 0
IsApplyForMemory tree (fault.Failed jobs) = WantMemory tree jobs
IsApplyForMemory tree fault.NoMemory = ⊤
IsApplyForMemory tree _ = ⊥

-- ---- all of it

-- What the applying of a plan promises at each of its ends: what is done, why it is refused and that nothing was written then, what stands and what
-- a crash leaves where no two lines lead to one file, exactly when each refusal of a line comes, and when nothing but want of memory refuses it.
pub record Applies (change : Change) (lines : List PlanLine) (result : Result Report ApplyFault) (d : Course DiskState) : Type 0 where
  pub done : IfOk result (λ report. DoesLines change lines report d)
  pub fails : IfErr result (ApplyFails change lines d)
  pub apart : IsTrue d.tells → (places : List NameList) → LeadApart d.old.tree (map path_of lines) places
      → AppliesApart change lines places result d.old d.new
  pub absent : IsTrue d.tells → (DiskFailed d → ⊥) → (line : PlanLine) → IsNextAfterRight change d.old.tree lines line
      → file_of d.old.tree line.path ≡ None → IsOrMemory (fault.File disk.Absent) result
  pub stale : IsTrue d.tells → (DiskFailed d → ⊥) → (line : PlanLine) (found : List ℕ) → IsNextAfterRight change d.old.tree lines line
      → IsStale d.old.tree line found → IsOrMemory (fault.Stale line.path line.before found) result
  pub differs : IsTrue d.tells → (DiskFailed d → ⊥) → (line : PlanLine) (found : List ℕ) → IsNextAfterRight change d.old.tree lines line
      → IsDifferent change d.old.tree line found → IsOrMemory (fault.Differs line.path line.after found) result
  pub lists : SameLists d.old d.new
  pub never_falls : d.old.faults ≤ d.new.faults
  pub complete : IsApplyClear change lines d → IfErr result (IsApplyForMemory d.new.tree)
