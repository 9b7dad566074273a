-- The files of a journal are put in place.
use Rattle.std.specs.Prelude.{◌≡◌, ◌≢◌, ◌⊎◌, true, List, Some, None, IsSome, Contains, ⊤}
use Rattle.sd_io.specs.Tree.{NameList, Tree, node_at, file_at}
use Rattle.sd_io.specs.Paths.{reached}
use Rattle.sd_io.specs.Files.{path_text, file_of}
use Rattle.sd_io.specs.Disk.{DiskState}
use Rattle.sd_io.specs.declared.fault.DiskFault.{DiskFault}
use Rattle.sd_io.specs.declared.fault.DiskFault.TheVariants as disk
use Rattle.sd_course.specs.Course.{Course, AsTold, HasRisenBy, DiskFailed}
use Rattle.file_exchange.specs.Reserved.{reserved_names}
use Rattle.file_exchange.specs.Crash.{Exchange}
use Rattle.file_rewrite.specs.OneFile.{IsMoveFault, IsCrowded}
use Rattle.file_rewrite.specs.declared.fault.JobFault.{JobFault}
use Rattle.file_rewrite.specs.declared.fault.JobFault.TheVariants as job
use Rattle.journal_text.specs.declared.line.Line.{Line}
use Rattle.change_phases.specs.Between.{Work, IsNew, IsLineOf, stage_of}
use Rattle.change_phases.specs.Phases.{IsOnly}

-- ---- what a crash leaves

-- every crash leaves each file new
abbrev pub AreNewForGood : Work → DiskState → Type 0
AreNewForGood work state = (f : Exchange) → Contains work.files f → IsOnly state f.0 (IsNew work f)

-- the file of the line is new for good, and so is each that was
pub record PlacesOne (work : Work) (line : Line) (old new : DiskState) : Type 0 where
  pub placed : (f : Exchange) → Contains work.files f → IsLineOf f line → IsOnly new f.0 (IsNew work f)
  pub stays : (f : Exchange) → Contains work.files f → IsOnly old f.0 (IsNew work f) → IsOnly new f.0 (IsNew work f)

-- ---- the tree

-- at each place stands what stood there, or a regular file where one stood
abbrev pub SameFiles : Tree → Tree → Type 0
SameFiles old new = (q : NameList) → (node_at new q ≡ node_at old q) ⊎ (IsSome (file_at old q) × IsSome (file_at new q))

-- and no other place differs than those that the paths of the lines lead to
pub record ChangesFiles (lines : List Line) (old new : Tree) : Type 0 where
  pub each : SameFiles old new
  pub others : (q : NameList) → ((line : Line) → Contains lines line → reached old line.path true ≢ Some q) → node_at new q ≡ node_at old q

-- ---- why a file isn't put in place

-- the path of the line, or that of its stage, leads to no regular file
abbrev pub LacksFile : Tree → Line → Type 0
LacksFile tree line = (file_of tree line.path ≡ None) ⊎ (file_of tree (path_text (stage_of line)) ≡ None)

-- so it is for one of the lines
abbrev pub OneLacksFile : Tree → List Line → Type 0
OneLacksFile tree lines = (line : Line) × Contains lines line × LacksFile tree line

-- the fault of a file: a counted one; `Absent` where a line lacks its file or its stage, untold with a counted fault as well
abbrev pub IsLineFault : Course DiskState → List Line → DiskFault → Type 0
IsLineFault d lines disk.Absent = AsTold d.tells (OneLacksFile d.old.tree lines) (DiskFailed d)
IsLineFault d lines disk.Taken = ⊥
IsLineFault d lines disk.Failed = DiskFailed d
IsLineFault d lines disk.NoMemory = ⊥

-- one of the lines has a file in whose folder no reserved name is free
abbrev pub OneIsCrowded : Tree → List Line → Type 0
OneIsCrowded tree lines = (line : Line) × Contains lines line × IsCrowded tree line.path 0

-- why a change isn't carried out
abbrev pub HasLineCause : Course DiskState → List Line → JobFault → Type 0
HasLineCause d lines (job.File fault) = IsLineFault d lines fault
HasLineCause d lines (job.TempfilePersist fault) = IsMoveFault d fault
HasLineCause d lines job.InvalidPath = ⊥
HasLineCause d lines job.TempName = AsTold d.tells (OneIsCrowded d.old.tree lines) (HasRisenBy reserved_names d.old.faults d.new.faults)
HasLineCause d lines job.NoMemory = ⊤
