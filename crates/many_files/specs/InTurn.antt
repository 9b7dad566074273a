-- How files are rewritten one after the other, whatever their paths.
use Rattle.std.specs.Prelude.{◌≡◌, ◌≢◌, ℕ, IsTrue, List, [], ◌∷◌, length, map, All, sum_by, Err, IsOk}
use Rattle.std.specs.List.{AllZip}
use Rattle.sd_io.specs.Disk.{DiskState}
use Rattle.sd_change.specs.Change.{Change}
use Rattle.sd_course.specs.Course.{Course}
use Rattle.file_rewrite.specs.Paths.{IsNoPath}
use Rattle.file_rewrite.specs.declared.fault.JobFault.TheVariants as job
use Rattle.many_files.specs.Counts.{changed_by, replaced_by}
use Rattle.many_files.specs.Jobs.{Job, failed_of, end_of, HaveCauses}
use Rattle.many_files.specs.OneFile.{OneEnd, ReplacesOne}
use Rattle.many_files.specs.declared.report.Report.{Report}
use Rattle.many_files.specs.declared.fault.FilesFault.{FilesFault}
use Rattle.many_files.specs.declared.fault.FilesFault.TheVariants as fault

-- The files were rewritten in turn, each as the one before left the disk.
abbrev pub ReplacesInTurn : Change → List (List ℕ) → List OneEnd → DiskState → DiskState → Type 0
ReplacesInTurn change [] [] old new = new ≡ old
ReplacesInTurn change [] (result ∷ results) old new = ⊥
ReplacesInTurn change (path ∷ paths) [] old new = ⊥
ReplacesInTurn change (path ∷ paths) (result ∷ results) old new =
    (next : DiskState) × ReplacesOne change path result old next × ReplacesInTurn change paths results next new

-- a path that names no file is told to
abbrev pub TellsNoPath : List ℕ → OneEnd → Type 0
TellsNoPath path result = IsNoPath path → result ≡ Err job.InvalidPath

-- the report counts so many files, and what came of them
pub record CountsEnds (paths : List (List ℕ)) (results : List OneEnd) (report : Report) : Type 0 where
  pub chosen : report.chosen ≡ length paths
  pub changed : report.changed ≡ sum_by changed_by results
  pub replaced : report.replaced ≡ sum_by replaced_by results

-- each file was rewritten, and the report counts what was done
pub record DoesFiles (change : Change) (paths : List (List ℕ)) (report : Report) (d : Course DiskState) : Type 0 where
  pub results : List OneEnd
  pub in_turn : IsTrue d.tells → ReplacesInTurn change paths results d.old d.new
  pub told : AllZip TellsNoPath paths results
  pub all : All IsOk results
  pub counts : CountsEnds paths results report

-- at least one failed, and the jobs are exactly those that did, in order
pub record FailsSome (change : Change) (paths : List (List ℕ)) (d : Course DiskState) (jobs : List Job) : Type 0 where
  pub results : List OneEnd
  pub in_turn : IsTrue d.tells → ReplacesInTurn change paths results d.old d.new
  pub told : AllZip TellsNoPath paths results
  pub jobs_are : jobs ≡ failed_of paths (map end_of results)
  pub some : jobs ≢ []
  pub causes : HaveCauses d jobs

-- What a refusal leaves, and why it comes.
abbrev pub FilesFail : Change → List (List ℕ) → Course DiskState → FilesFault → Type 0
FilesFail change paths d (fault.Failed jobs) = FailsSome change paths d jobs
FilesFail change paths d fault.NoMemory = d.new ≡ d.old
