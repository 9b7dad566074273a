-- What a plan of a tree says, and how it ends.
use Rattle.std.specs.Prelude.{◌≡◌, ◌≤◌, ℕ, IsTrue, List, Result, IfOk, IfErr, OnOk}
use Rattle.sd_io.specs.Tree.{NameList, Tree}
use Rattle.sd_io.specs.Disk.{DiskState, SameTree}
use Rattle.sd_change.specs.Change.{Change}
use Rattle.sd_course.specs.Course.{Course, DiskFailed}
use Rattle.chosen_files.specs.Globs.{IsFirstInvalid}
use Rattle.chosen_files.specs.Choice.{KeepsLists}
use Rattle.sd_plan.specs.declared.line.PlanLine.{PlanLine}
use Rattle.planned_files.specs.Planned.{PlansFiles}
use Rattle.sd_core.specs.Selection.{Selection}
use Rattle.sd_core.specs.Sweep.{SelectingFails, IsClear, IsErrOrMemory}
use Rattle.sd_core.specs.declared.error.Error.{Error}
use Rattle.sd_core.specs.declared.error.Error.TheVariants as error

-- A line for each selected file, in order: its path, the digests of its bytes and of its new bytes, whether these differ, and how many spans are replaced.
pub record IsPlanOf (change : Change) (selection : Selection) (tree : Tree) (lines : List PlanLine) : Type 0 where
  pub paths : List (List ℕ)
  pub places : List NameList
  pub selected : selection.Lists tree paths places
  pub files : PlansFiles change tree paths lines

-- Why no plan is made: no files are selected, or one of them isn't read, with a counted fault.
abbrev pub TreeNotPlanned : Selection → ℕ → Course DiskState → Error → Type 0
TreeNotPlanned selection cap d (error.File fault) = DiskFailed d
TreeNotPlanned selection cap d failed = SelectingFails selection cap d failed

-- What the plan of a tree promises at each of its ends. That the disk is the very value that was handed in is given as a fact.
pub record PlansTree (change : Change) (selection : Selection) (cap : ℕ) (same_disk : Type 0) (result : Result (List PlanLine) Error) (d : Course DiskState) : Type 0 where
  pub planned : IsTrue d.tells → IfOk result (IsPlanOf change selection d.old.tree)
  pub few : IsTrue d.tells → OnOk result (selection.HasFewer cap d.old.tree)
  pub fails : IfErr result (TreeNotPlanned selection cap d)
  pub bad_glob : (place : ℕ) → IsFirstInvalid selection.globs place → same_disk × IsErrOrMemory (error.BadGlob place) result
  pub same : SameTree d.old d.new
  pub lists : KeepsLists 10 d.old d.new
  pub never_falls : d.old.faults ≤ d.new.faults
  -- the count of listed entries never falls
  pub later : d.old.listed ≤ d.new.listed
  pub complete : IsClear selection cap d → IfErr result (λ failed. failed ≡ error.NoMemory)
