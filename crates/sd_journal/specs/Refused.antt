-- Why a journalled sweep isn't made, and what stands then.
use Rattle.std.specs.Prelude.{◌≡◌, ◌<◌, ℕ, IsTrue, List, ⊤}
use Rattle.sd_io.specs.Tree.{Tree}
use Rattle.sd_io.specs.Disk.{DiskState, SameTree}
use Rattle.sd_change.specs.Change.{Change}
use Rattle.sd_course.specs.Course.{Course, AsTold, HasRisenBy, DiskFailed}
use Rattle.file_exchange.specs.Reserved.{reserved_names}
use Rattle.file_rewrite.specs.declared.fault.JobFault.{JobFault}
use Rattle.file_rewrite.specs.declared.fault.JobFault.TheVariants as job
use Rattle.journal.specs.Clearing.{LeavesNoMore}
use Rattle.journal.specs.Changing.{IsPending, IsTooCrowded, IsFilledUp, LeavesAllButFree, HasRoomFor}
use Rattle.journal.specs.declared.fault.JournalFault.{JournalFault}
use Rattle.sd_plan.specs.declared.line.PlanLine.{PlanLine}
use Rattle.sd_core.specs.Selection.{by_globs}
use Rattle.sd_core.specs.Sweep.{SelectingFails, sweep_cap}
use Rattle.sd_core.specs.Plan.{IsPlanOf}
use Rattle.sd_core.specs.declared.error.Error.{Error}
use Rattle.sd_core.specs.declared.error.Error.TheVariants as sweep
use Rattle.sd_journal.specs.Errors.{of_change}
use Rattle.sd_journal.specs.Work.{changed_paths}
use Rattle.sd_journal.specs.declared.error.JournalError.{JournalError}
use Rattle.sd_journal.specs.declared.error.JournalError.TheVariants as error

-- the fault of a change that the error tells is so
abbrev pub IsFaultOf : (JournalFault → Type 0) → JournalError → Type 0
IsFaultOf IsSo refused = (fault : JournalFault) × (refused ≡ of_change fault) × IsSo fault

-- ---- why it isn't made

-- so it is of the paths of the chosen files whose bytes change
abbrev pub OfChangedPaths : Change → List ℕ → List (List ℕ) → Tree → (List (List ℕ) → Type 0) → Type 0
OfChangedPaths change root globs tree IsSo = (lines : List PlanLine) × IsPlanOf change (by_globs root globs) tree lines × IsSo (changed_paths lines)

-- why it is refused as a sweep is: no files are chosen, and the disk is as it was; or the disk counted a fault
abbrev pub IsRefusedSweep : List ℕ → List (List ℕ) → Course DiskState → Error → Type 0
IsRefusedSweep root globs d (sweep.File fault) = LeavesAllButFree d × DiskFailed d
IsRefusedSweep root globs d sweep.NoMemory = ⊥
IsRefusedSweep root globs d refused = SameTree d.old d.new × SelectingFails (by_globs root globs) sweep_cap d refused

-- why it isn't carried out, once the journal has its name
abbrev pub IsUnfinishedSweep : Change → List ℕ → List (List ℕ) → Course DiskState → JobFault → Type 0
IsUnfinishedSweep change root globs d (job.File refused) = DiskFailed d
IsUnfinishedSweep change root globs d (job.TempfilePersist refused) = DiskFailed d
IsUnfinishedSweep change root globs d job.InvalidPath = ⊥
IsUnfinishedSweep change root globs d job.TempName =
    AsTold d.tells (OfChangedPaths change root globs d.old.tree (IsFilledUp change d.old.tree)) (HasRisenBy reserved_names d.old.faults d.new.faults)
IsUnfinishedSweep change root globs d job.NoMemory = ⊤

-- Why a journalled sweep isn't made, and what is left: all but reserved names that were free, unless it is unfinished. Where a journal is pending, nothing was
-- written.
abbrev pub JournalledFails : Change → List ℕ → List (List ℕ) → Course DiskState → JournalError → Type 0
JournalledFails change root globs d (error.Sweep refused) = IsRefusedSweep root globs d refused
JournalledFails change root globs d error.Pending = (IsTrue d.tells → LeavesNoMore d.old d.new) × AsTold d.tells (IsPending d.old.tree root) (d.old.listed < d.new.listed)
JournalledFails change root globs d (error.TempName text) =
    LeavesAllButFree d
    × AsTold d.tells (OfChangedPaths change root globs d.old.tree (λ paths. IsTooCrowded change d.old.tree root paths text))
    (HasRisenBy reserved_names d.old.faults d.new.faults)
JournalledFails change root globs d (error.Unfinished job) = IsUnfinishedSweep change root globs d job
JournalledFails change root globs d error.NoMemory = LeavesAllButFree d
JournalledFails change root globs d _ = ⊥

-- these come before a pending journal is told
abbrev pub ComesBefore : JournalError → Type 0
ComesBefore (error.Sweep refused) = ⊤
ComesBefore error.Pending = ⊤
ComesBefore error.NoMemory = ⊤
ComesBefore _ = ⊥

-- ---- when nothing but want of memory refuses it

-- each folder has a free reserved name for each of its chosen files that change and one more, and the root yet one more
abbrev pub HasRoomForChosen : Change → List ℕ → List (List ℕ) → Tree → Type 0
HasRoomForChosen change root globs tree =
    (lines : List PlanLine) → IsPlanOf change (by_globs root globs) tree lines → HasRoomFor change tree root (changed_paths lines)

-- want of memory is the one reason left
abbrev pub IsForWantOfMemory : JournalError → Type 0
IsForWantOfMemory (error.Unfinished refused) = refused ≡ job.NoMemory
IsForWantOfMemory error.NoMemory = ⊤
IsForWantOfMemory _ = ⊥
