-- What came of each file, in turn.
use Rattle.std.specs.Prelude.{◌≡◌, ℕ, List, map, All, Contains, sum_by, Option, Some, None, IsSome, is_some, if◌then◌else◌}
use Rattle.sd_io.specs.Tree.{NameList, node_at}
use Rattle.sd_io.specs.Paths.{parent_of}
use Rattle.sd_io.specs.Disk.{DiskState}
use Rattle.sd_change.specs.Change.{Change}
use Rattle.sd_course.specs.Course.{HasRisenBy}
use Rattle.file_exchange.specs.Reserved.{Free}
use Rattle.file_rewrite.specs.Rewritten.{IsLeft}
use Rattle.file_rewrite.specs.declared.fault.JobFault.{JobFault}
use Rattle.file_rewrite.specs.declared.fault.JobFault.TheVariants as job
use Rattle.many_files.specs.Rewritten.{IsRewritten}
use Rattle.many_files.specs.Jobs.{Job, failed_of}

-- What came of one file: the path that it was named by, its place, how it failed, if it did, and the reserved name that it left taken, if any.
pub record Turn : Type 0 where
  pub path : List ℕ
  pub place : NameList
  pub fault : Option JobFault
  pub left : Option NameList

abbrev pub path_of : Turn → List ℕ
path_of turn = turn.path

abbrev pub place_of : Turn → NameList
place_of turn = turn.place

abbrev pub fault_of : Turn → Option JobFault
fault_of turn = turn.fault

abbrev pub left_of : Turn → Option NameList
left_of turn = turn.left

-- the files that failed, in the order of all
abbrev pub failed_turns : List Turn → List Job
failed_turns turns = failed_of (map path_of turns) (map fault_of turns)

-- a file that didn't fail is rewritten, one that did is left
abbrev pub EndsSo : Change → DiskState → DiskState → NameList → Option JobFault → Type 0
EndsSo change old new place None = IsRewritten change old new place
EndsSo change old new place (Some fault) = IsLeft change old.tree new.tree place fault

-- only a file that failed leaves a reserved name taken: of its folder, and free before
pub record IsTurn (change : Change) (old new : DiskState) (turn : Turn) : Type 0 where
  pub file : EndsSo change old new turn.place turn.fault
  pub was_free : (q : NameList) → turn.left ≡ Some q → Free old.tree (parent_of turn.place) q
  pub failed : IsSome turn.left → IsSome turn.fault

-- a fault that left a name taken needs two counted ones, but for want of memory
abbrev pub faults_of_end : Option NameList → Option JobFault → ℕ
faults_of_end left None = 0
faults_of_end left (Some (job.File fault)) = if is_some left then 2 else 1
faults_of_end left (Some (job.TempfilePersist fault)) = if is_some left then 2 else 1
faults_of_end left (Some job.InvalidPath) = if is_some left then 2 else 0
faults_of_end left (Some job.TempName) = if is_some left then 2 else 0
faults_of_end left (Some job.NoMemory) = 0

abbrev pub faults_of_turn : Turn → ℕ
faults_of_turn turn = faults_of_end turn.left turn.fault

-- Some of the files failed, and exactly these are the jobs, in order. Every other one is rewritten, and a failed one is left. Nothing else stands otherwise
-- but reserved names, at most one for each file that failed.
pub record FailsFiles (change : Change) (paths : List (List ℕ)) (places : List NameList) (jobs : List Job) (old new : DiskState) : Type 0 where
  pub turns : List Turn
  pub paths_are : map path_of turns ≡ paths
  pub places_are : map place_of turns ≡ places
  pub jobs_are : jobs ≡ failed_turns turns
  pub each : All (IsTurn change old new) turns
  pub others : (q : NameList) → (Contains (map place_of turns) q → ⊥) → (Contains (map left_of turns) (Some q) → ⊥) → node_at new.tree q ≡ node_at old.tree q
  pub counted : HasRisenBy (sum_by faults_of_turn turns) old.faults new.faults
