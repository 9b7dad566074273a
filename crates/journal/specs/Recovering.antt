-- A change is recovered.
use Rattle.std.specs.Prelude.{◌≡◌, ◌<◌, ◌⊎◌, ℕ, true, List, length, Some, IsTrue, Contains, ⊤}
use Rattle.sd_io.specs.Tree.{NameList, Tree}
use Rattle.sd_io.specs.Paths.{parent_of}
use Rattle.sd_io.specs.Lists.{directory_of}
use Rattle.sd_io.specs.Files.{LeadsNowhere}
use Rattle.sd_io.specs.Disk.{DiskState}
use Rattle.sd_course.specs.Course.{Course, AsTold, DiskFailed}
use Rattle.journal_text.specs.declared.line.Line.{Line}
use Rattle.change_phases.specs.Between.{Work, IsWork, AllNew}
use Rattle.change_phases.specs.Recovery.{IsRecoverable}
use Rattle.journal.specs.declared.fault.JournalFault.{JournalFault}
use Rattle.journal.specs.declared.fault.JournalFault.TheVariants as fault
use Rattle.file_exchange.specs.Reserved.{Free}
use Rattle.file_exchange.specs.Crash.{Exchange}
use Rattle.file_rewrite.specs.declared.fault.JobFault.{JobFault}
use Rattle.file_rewrite.specs.declared.fault.JobFault.TheVariants as job
use Rattle.journal.specs.Clearing.{LeavesNoMore}
use Rattle.journal.specs.Placing.{HasLineCause}
use Rattle.journal.specs.Finishing.{StagesAreGone}
use Rattle.journal.specs.Reading.{NoneStands, OtherStands, AllStand, StagesFail}

-- the change was of files below this root, and can be recovered from
pub record MayRecover (work : Work) (root : List ℕ) (state : DiskState) : Type 0 where
  pub is_work : IsWork work
  pub leads : directory_of work.tree root ≡ Some work.root
  pub recoverable : IsRecoverable work state

-- the journal or a stage isn't what was written
abbrev pub IsMisread : JournalFault → Type 0
IsMisread fault.BadJournal = ⊤
IsMisread (fault.StageMissing path) = ⊤
IsMisread (fault.StageDiffers path planned found) = ⊤
IsMisread _ = ⊥

-- why a root isn't looked at: it leads nowhere, or the disk counted a fault
abbrev pub RootFails : Course DiskState → List ℕ → JournalFault → Type 0
RootFails d root fault.RootMissing = AsTold d.tells (LeadsNowhere d.old root true) (DiskFailed d)
RootFails d root (fault.File refused) = DiskFailed d
RootFails d root fault.NoMemory = ⊤
RootFails d root _ = ⊥

-- ---- what is answered, and refused

-- the files are all new, and no stage of the lines is left
pub record IsCarriedOut (work : Work) (lines : List Line) (state : DiskState) : Type 0 where
  pub files : AllNew work state.tree
  pub stages : StagesAreGone lines state

-- 0 where no journal stood, and nothing was written; else the number of its lines, whose stages all stood
abbrev pub IsRecovered : DiskState → List ℕ → ℕ → DiskState → Type 0
IsRecovered old root count new = (NoneStands old.tree root × (count ≡ 0) × LeavesNoMore old new) ⊎ ((lines : List Line) × AllStand old.tree root lines × (count ≡ length lines))

-- why a change is left unfinished whose journal and stages stood: a file of one of the lines wasn't put in place, or a step after that failed
pub record CarryingFails (d : Course DiskState) (root : List ℕ) (job : JobFault) : Type 0 where
  pub found : d.old.listed < d.new.listed
  pub lines : List Line
  pub stand : IsTrue d.tells → AllStand d.old.tree root lines
  pub cause : HasLineCause d lines job

-- Why a change isn't recovered: the root leads nowhere, what stands in the journal's place is none, or a stage isn't what its line tells; or a step that
-- writes was refused, where the journal and all its stages stood. Else the disk counted a fault, or there is no memory left.
abbrev pub RecoverFails : Course DiskState → List ℕ → JournalFault → Type 0
RecoverFails d root (fault.Unfinished job) = CarryingFails d root job
RecoverFails d root fault.BadJournal = AsTold d.tells (OtherStands d.old.tree root) (d.old.listed < d.new.listed)
RecoverFails d root (fault.StageMissing path) = StagesFail d root (fault.StageMissing path)
RecoverFails d root (fault.StageDiffers path planned found) = StagesFail d root (fault.StageDiffers path planned found)
RecoverFails d root refused = RootFails d root refused

-- the change isn't begun to be carried out: nothing was written
abbrev pub IsBeforeWriting : JournalFault → Type 0
IsBeforeWriting (fault.Unfinished job) = ⊥
IsBeforeWriting _ = ⊤

-- ---- when it comes to its end

-- a reserved name is free in the folder of each file that changes
abbrev pub HaveFreeNames : Work → Tree → Type 0
HaveFreeNames work tree = (f : Exchange) → Contains work.files f → (q : NameList) × Free tree (parent_of f.0) q
