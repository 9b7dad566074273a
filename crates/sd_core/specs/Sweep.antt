-- What a sweep does to a tree, and how it ends.
use Rattle.std.specs.Prelude.{◌≡◌, ◌≢◌, ◌≤◌, ◌+◌, ◌^◌, ◌==◌, ℕ, Bool, true, not, IsTrue, List, [], All, IsSome, Result, Err, ◌⊎◌, IfOk, IfErr, OnOk, ⊤}
use Rattle.std.specs.List.{list_all}
use Rattle.sd_io.specs.Tree.{NameList, Tree}
use Rattle.sd_io.specs.Paths.{reached}
use Rattle.sd_io.specs.Disk.{DiskState, SameTree}
use Rattle.sd_io.specs.Files.{LeadsNowhere}
use Rattle.sd_io.specs.Crashes.{LeavesSince, IsDurable}
use Rattle.sd_change.specs.Change.{Change}
use Rattle.sd_course.specs.Course.{Course, AsTold, DiskFailed}
use Rattle.chosen_files.specs.Globs.{IsValid, IsFirstInvalid}
use Rattle.chosen_files.specs.Chosen.{IsPathBelow}
use Rattle.chosen_files.specs.Choice.{KeepsLists, WalkFails}
use Rattle.many_files.specs.Files.{IsFreeBeside, HasRoom}
use Rattle.many_files.specs.Rewritten.{LeavesEach, IsNewOne, IsChangedOne}
use Rattle.many_files.specs.Counts.{RewritesFiles}
use Rattle.many_files.specs.Jobs.{Job, HaveCauses, NamesFile, WantMemory}
use Rattle.many_files.specs.Turns.{FailsFiles}
use Rattle.many_files.specs.declared.report.Report.{Report}
use Rattle.sd_core.specs.Selection.{Selection}
use Rattle.sd_core.specs.declared.error.Error.{Error}
use Rattle.sd_core.specs.declared.error.Error.TheVariants as error

-- fewer entries are looked at by a tree command
abbrev pub sweep_cap : ℕ
sweep_cap = 2 ^ 32

-- Each selected file keeps its mode and holds its new bytes; no other path changed; and the report counts exactly these files and spans.
pub record RewritesTree (change : Change) (selection : Selection) (report : Report) (old new : DiskState) : Type 0 where
  pub paths : List (List ℕ)
  pub places : List NameList
  pub selected : selection.Lists old.tree paths places
  pub files : RewritesFiles change places report old new

-- some selected files failed, and exactly these are the jobs, each by its path from the root as it was given
pub record FailsTree (change : Change) (selection : Selection) (jobs : List Job) (old new : DiskState) : Type 0 where
  pub paths : List (List ℕ)
  pub places : List NameList
  pub selected : selection.Lists old.tree paths places
  pub files : FailsFiles change paths places jobs old new

-- at least one file failed
pub record FailsSome (change : Change) (selection : Selection) (cap : ℕ) (d : Course DiskState) (jobs : List Job) : Type 0 where
  pub some : jobs ≢ []
  pub few : IsTrue d.tells → selection.HasFewer cap d.old.tree
  pub files : IsTrue d.tells → FailsTree change selection jobs d.old d.new
  pub causes : HaveCauses d jobs
  pub name_files : All NamesFile jobs
  pub below_root : All (λ failed. IsPathBelow selection.root failed.0) jobs

-- Why no files are selected.
abbrev pub SelectingFails : Selection → ℕ → Course DiskState → Error → Type 0
SelectingFails selection cap d (error.BadGlob place) = IsFirstInvalid selection.globs place × (d.new ≡ d.old)
SelectingFails selection cap d error.RootMissing = AsTold d.tells (LeadsNowhere d.old selection.root true) (DiskFailed d)
SelectingFails selection cap d (error.Walk failed) = WalkFails d failed
SelectingFails selection cap d error.TooMany = AsTold d.tells (selection.HasMany cap d.old.tree) (d.old.listed + cap ≤ d.new.listed)
SelectingFails selection cap d error.NoMemory = ⊤
SelectingFails selection cap d _ = ⊥

-- What a refused sweep leaves, and why it is refused: before the first write, or with the files that failed.
abbrev pub SweepFails : Change → Selection → ℕ → Course DiskState → Error → Type 0
SweepFails change selection cap d (error.FailedProcessing jobs) = FailsSome change selection cap d jobs
SweepFails change selection cap d failed = SameTree d.old d.new × SelectingFails selection cap d failed

-- nothing stands in the way of selecting
pub record IsClear (selection : Selection) (cap : ℕ) (d : Course DiskState) : Type 0 where
  pub told : IsTrue d.tells
  pub valid : All IsValid selection.globs
  pub leads : IsSome (reached d.old.tree selection.root true)
  pub few : selection.HasFewer cap d.old.tree
  pub no_fault : DiskFailed d → ⊥

-- each folder of a selected file has a reserved name that is free
abbrev pub HasRoomForAll : Selection → Tree → Type 0
HasRoomForAll selection tree = HasRoom (selection.IsOne tree) tree

-- the refusal is this one, or for want of memory
abbrev pub IsErrOrMemory : {A : Type 0} → Error → Result A Error → Type 0
IsErrOrMemory expected result = (result ≡ Err expected) ⊎ (result ≡ Err error.NoMemory)

-- want of memory is the one reason left
abbrev pub IsForMemory : Tree → Error → Type 0
IsForMemory tree (error.FailedProcessing jobs) = WantMemory tree jobs
IsForMemory tree error.NoMemory = ⊤
IsForMemory tree _ = ⊥

-- What a sweep promises at each of its ends: what is done, why it is refused, what stands however it ends, what a crash leaves, and when nothing but want of
-- memory refuses it. That the disk is the very value that was handed in is given as a fact.
pub record Sweeps (change : Change) (selection : Selection) (cap : ℕ) (same_disk : Type 0) (result : Result Report Error) (d : Course DiskState) : Type 0 where
  pub rewritten : IsTrue d.tells → IfOk result (λ report. RewritesTree change selection report d.old d.new)
  pub few : IsTrue d.tells → OnOk result (selection.HasFewer cap d.old.tree)
  pub fails : IfErr result (SweepFails change selection cap d)
  pub bad_glob : (place : ℕ) → IsFirstInvalid selection.globs place → same_disk × IsErrOrMemory (error.BadGlob place) result
  pub however : IsTrue d.tells → LeavesEach (selection.IsOne d.old.tree) change d.old.tree d.new.tree
  pub crash : IsTrue d.tells
      → LeavesSince (IsNewOne (selection.IsOne d.old.tree) change d.old.tree) (IsFreeBeside (selection.IsOne d.old.tree) d.old.tree) d.old d.new
  pub durable : IsTrue d.tells → OnOk result (IsDurable (IsChangedOne (selection.IsOne d.old.tree) change d.old.tree) d.old d.new)
  pub lists : KeepsLists 10 d.old d.new
  pub never_falls : d.old.faults ≤ d.new.faults
  pub complete : IsClear selection cap d → HasRoomForAll selection d.old.tree → IfErr result (IsForMemory d.new.tree)

-- whether a path isn't empty, nor nothing but `/`
abbrev pub may_name_file : List ℕ → Bool
may_name_file path = not (list_all (λ byte. byte == 47) path)
