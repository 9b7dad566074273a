-- Failed files, in their order.
use Rattle.std.specs.Prelude.{◌≡◌, ◌&&◌, ◌⊎◌, ℕ, Bool, true, false, IsTrue, List, [], ◌∷◌, ◌++◌, Contains, All, sum_by, count_by, Option, Some, None, is_none, Result, Ok, Err, ⊤, if◌then◌else◌}
use Rattle.std.specs.Option.{option_map_or}
use Rattle.sd_io.specs.Tree.{NameList, Tree}
use Rattle.sd_io.specs.Paths.{reached, parent_of}
use Rattle.sd_io.specs.Outcomes.{same_place}
use Rattle.sd_io.specs.Files.{file_of}
use Rattle.sd_io.specs.Disk.{DiskState}
use Rattle.sd_course.specs.Course.{Course, HasRisenBy}
use Rattle.file_exchange.specs.Reserved.{reserved_names}
use Rattle.file_rewrite.specs.Paths.{IsNoPath}
use Rattle.file_rewrite.specs.OneFile.{IsFileFault, IsMoveFault, FreeAtMost}
use Rattle.file_rewrite.specs.declared.rewrite.Rewrite.{Rewrite}
use Rattle.file_rewrite.specs.declared.fault.JobFault.{JobFault}
use Rattle.file_rewrite.specs.declared.fault.JobFault.TheVariants as job

-- a failed file: its path, and how it failed
abbrev pub Job : Type 0
Job = List ℕ × JobFault

-- ---- which files failed

-- the files that failed, of files in turn and what came of each
abbrev pub failed_of : List (List ℕ) → List (Option JobFault) → List Job
failed_of [] ends = []
failed_of (path ∷ paths) [] = []
failed_of (path ∷ paths) (None ∷ ends) = failed_of paths ends
failed_of (path ∷ paths) (Some fault ∷ ends) = (path, fault) ∷ failed_of paths ends

-- how a call on one file ended
abbrev pub end_of : Result Rewrite JobFault → Option JobFault
end_of (Ok rewrite) = None
end_of (Err fault) = Some fault

-- ---- how many counted faults they need

-- A failed or moved file needs one. A file that isn't there needs none on a disk that tells so. Where all reserved names of a folder seemed to be taken on
-- a disk that doesn't tell, each of them needs one.
abbrev pub faults_needed : Bool → Tree → Job → ℕ
faults_needed tells tree (path, job.File fault) = if tells && is_none (file_of tree path) then 0 else 1
faults_needed tells tree (path, job.TempfilePersist fault) = 1
faults_needed tells tree (path, job.InvalidPath) = 0
faults_needed tells tree (path, job.TempName) = if tells then 0 else reserved_names
faults_needed tells tree (path, job.NoMemory) = 0

-- ---- why they failed

abbrev pub HasJobCause : Course DiskState → Job → Type 0
HasJobCause d (path, job.File fault) = IsFileFault d path fault
HasJobCause d (path, job.TempfilePersist fault) = IsMoveFault d fault
HasJobCause d (path, job.InvalidPath) = IsNoPath path
HasJobCause d (path, job.TempName) = ⊤
HasJobCause d (path, job.NoMemory) = ⊤

-- whether the path leads into the folder
abbrev pub is_in_folder : Tree → NameList → List ℕ → Bool
is_in_folder tree folder path = option_map_or (λ place. same_place (parent_of place) folder) (reached tree path true) false

-- how many of the jobs have their file in the folder
abbrev pub jobs_in : Tree → NameList → List Job → ℕ
jobs_in tree folder jobs = count_by (λ failed. is_in_folder tree folder failed.0) jobs

-- The path's file had no reserved name left: before the call no more of its folder were free than earlier jobs have their file in it. Where a word names a
-- file that an earlier job left behind, its folder is told by the tree after the call.
pub record IsCrowdedOut (d : Course DiskState) (earlier : List Job) (path : List ℕ) : Type 0 where
  pub place : NameList
  pub leads : reached d.new.tree path true ≡ Some place
  pub few : FreeAtMost d.old.tree (parent_of place) (jobs_in d.new.tree (parent_of place) earlier)

-- why the jobs of a call failed
pub record HaveCauses (d : Course DiskState) (jobs : List Job) : Type 0 where
  pub counted : HasRisenBy (sum_by (faults_needed d.tells d.old.tree) jobs) d.old.faults d.new.faults
  pub causes : All (HasJobCause d) jobs
  pub crowded : IsTrue d.tells → (earlier later : List Job) (path : List ℕ) → jobs ≡ earlier ++ (path, job.TempName) ∷ later → IsCrowdedOut d earlier path

-- it isn't that of a path that names no file
abbrev pub NamesFile : Job → Type 0
NamesFile (path, job.File fault) = ⊤
NamesFile (path, job.TempfilePersist fault) = ⊤
NamesFile (path, job.InvalidPath) = ⊥
NamesFile (path, job.TempName) = ⊤
NamesFile (path, job.NoMemory) = ⊤

-- ---- for want of memory alone

-- Each of the jobs has no memory; or no reserved name, where an earlier one in its folder had no memory, whose temporary file may be left.
abbrev pub WantMemory : Tree → List Job → Type 0
WantMemory tree jobs =
    (earlier later : List Job) (path : List ℕ) (fault : JobFault) → jobs ≡ earlier ++ (path, fault) ∷ later
    → (fault ≡ job.NoMemory)
    ⊎ ((fault ≡ job.TempName)
    × ((place : NameList) × (other : List ℕ) × (reached tree path true ≡ Some place) × Contains earlier (other, job.NoMemory) × IsTrue (is_in_folder tree (parent_of place) other)))
