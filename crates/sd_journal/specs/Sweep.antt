-- What a journalled sweep does, and how it ends.
use Rattle.std.specs.Prelude.{◌≡◌, ◌⊎◌, ◌≤◌, ℕ, IsTrue, List, length, Some, None, Result, Err, IsErrAnd, IfOk, IfErr, OnOk}
use Rattle.sd_io.specs.Tree.{NameList, Tree}
use Rattle.sd_io.specs.Lists.{directory_of}
use Rattle.sd_io.specs.Disk.{DiskState, SameTree}
use Rattle.sd_change.specs.Change.{Change}
use Rattle.sd_course.specs.Course.{Course}
use Rattle.chosen_files.specs.Globs.{IsFirstInvalid}
use Rattle.chosen_files.specs.Choice.{KeepsLists}
use Rattle.many_files.specs.Counts.{Counts}
use Rattle.many_files.specs.declared.report.Report.{Report}
use Rattle.sd_plan.specs.Plan.{changed_in, replaced_in}
use Rattle.sd_plan.specs.declared.line.PlanLine.{PlanLine}
use Rattle.change_phases.specs.Between.{Work}
use Rattle.journal.specs.Keeping.{KeepsBetween}
use Rattle.journal.specs.Changing.{IsChanged, IsPending, ExchangesFiles}
use Rattle.journal.specs.Clearing.{LeavesNoMore}
use Rattle.sd_core.specs.Selection.{IsChosenBelow, by_globs, ListsChosenAt}
use Rattle.sd_core.specs.Sweep.{IsClear, sweep_cap}
use Rattle.sd_core.specs.declared.error.Error.TheVariants as sweep
use Rattle.sd_journal.specs.Work.{IsWorkOf, IsFresh}
use Rattle.sd_journal.specs.Refused.{JournalledFails, ComesBefore, HasRoomForChosen, IsForWantOfMemory}
use Rattle.sd_journal.specs.declared.error.JournalError.{JournalError}
use Rattle.sd_journal.specs.declared.error.JournalError.TheVariants as error

-- the report counts the lines of a plan, those whose files change, and the spans that are replaced in all of them
pub record CountsPlan (lines : List PlanLine) (report : Report) : Type 0 where
  pub chosen : report.chosen ≡ length lines
  pub changed : report.changed ≡ changed_in lines
  pub replaced : report.replaced ≡ replaced_in lines

-- the report counts the chosen files
pub record CountsChosen (change : Change) (root : List ℕ) (globs : List (List ℕ)) (tree : Tree) (report : Report) : Type 0 where
  pub paths : List (List ℕ)
  pub places : List NameList
  pub chosen : ListsChosenAt tree root globs paths places
  pub counts : Counts change tree places report

-- Nothing changed; or there is the work of the sweep, every image that a crash might have left since the start is between, and what was settled is so.
abbrev pub IsOldOrBetween : Change → List ℕ → List (List ℕ) → DiskState → DiskState → Type 0
IsOldOrBetween change root globs old new =
    SameTree old new ⊎ ((work : Work) × IsWorkOf change (IsChosenBelow old.tree root globs) root old.tree work × KeepsBetween work old new)

-- Each chosen file whose bytes change keeps its mode and holds its new bytes, and every other place is as before. Each crash leaves these files new, and no
-- journal.
pub record IsAllNew (change : Change) (root : List ℕ) (globs : List (List ℕ)) (old new : DiskState) : Type 0 where
  pub work : Work
  pub is_its : IsWorkOf change (IsChosenBelow old.tree root globs) root old.tree work
  pub exchanged : ExchangesFiles work.files old.tree new.tree
  pub durable : IsChanged work new

-- the refusal is this one, or for want of memory
abbrev pub IsErrOrMemory : {A : Type 0} → JournalError → Result A JournalError → Type 0
IsErrOrMemory expected result = (result ≡ Err expected) ⊎ (result ≡ Err error.NoMemory)

-- What a journalled sweep promises at each of its ends. That the disk is the very value that was handed in is given as a fact.
pub record SweepsJournalled (change : Change) (root : List ℕ) (globs : List (List ℕ)) (same_disk : Type 0) (result : Result Report JournalError) (d : Course DiskState) : Type 0 where
  pub kept : IsTrue d.tells → (folder : NameList) → directory_of d.old.tree root ≡ Some folder → IsFresh root d.old → IsOldOrBetween change root globs d.old d.new
  pub changed : IsTrue d.tells → (folder : NameList) → directory_of d.old.tree root ≡ Some folder → IsFresh root d.old → OnOk result (IsAllNew change root globs d.old d.new)
  pub nowhere : IsTrue d.tells → directory_of d.old.tree root ≡ None → OnOk result (SameTree d.old d.new)
  pub counted : IsTrue d.tells → IfOk result (CountsChosen change root globs d.old.tree)
  pub few : IsTrue d.tells → OnOk result ((by_globs root globs).HasFewer sweep_cap d.old.tree)
  pub fails : IfErr result (JournalledFails change root globs d)
  pub pending : IsTrue d.tells → IsPending d.old.tree root → IsErrAnd result ComesBefore
  pub unwritten : IsTrue d.tells → IsPending d.old.tree root → LeavesNoMore d.old d.new
  pub complete : IsClear (by_globs root globs) sweep_cap d → (folder : NameList) → directory_of d.old.tree root ≡ Some folder → IsFresh root d.old
      → HasRoomForChosen change root globs d.old.tree → IfErr result IsForWantOfMemory
  pub elsewhere : IsClear (by_globs root globs) sweep_cap d → directory_of d.old.tree root ≡ None → IfErr result IsForWantOfMemory
  pub bad_glob : (place : ℕ) → IsFirstInvalid globs place → same_disk × IsErrOrMemory (error.Sweep (sweep.BadGlob place)) result
  pub lists : KeepsLists 10 d.old d.new
  pub never_falls : d.old.faults ≤ d.new.faults
