-- How a tree command on the tree of a demo ends.
use Rattle.std.specs.Prelude.{◌≢◌, ℕ, List, [], All, Result, IfOk, IfErr, ⊤}
use Rattle.sd_io.specs.Tree.{NameList, Tree}
use Rattle.sd_change.specs.Change.{Change}
use Rattle.chosen_files.specs.Globs.{IsValid, IsFirstInvalid}
use Rattle.chosen_files.specs.Chosen.{Chosen}
use Rattle.many_files.specs.Counts.{Counts}
use Rattle.many_files.specs.Jobs.{WantMemory}
use Rattle.many_files.specs.declared.report.Report.{Report}
use Rattle.sd_core.specs.Sweep.{IsErrOrMemory}
use Rattle.sd_core.specs.declared.error.Error.{Error}
use Rattle.sd_core.specs.declared.error.Error.TheVariants as error
use Rattle.demo_tree.specs.Demo.{IsDemo, demo_place}

-- the report counts the chosen files of the demo's tree
pub record CountsDemo (change : Change) (n : ℕ) (globs : List (List ℕ)) (report : Report) : Type 0 where
  pub tree : Tree
  pub is_demo : IsDemo n tree
  pub places : List NameList
  pub chosen : Chosen tree demo_place globs places
  pub counts : Counts change tree places report

-- Want of memory is the one reason why a demo isn't done: before anything is written, or for each of the files that failed.
abbrev pub DemoWantsMemory : ℕ → Error → Type 0
DemoWantsMemory n (error.FailedProcessing jobs) = (jobs ≢ []) × ((tree : Tree) × IsDemo n tree × WantMemory tree jobs)
DemoWantsMemory n error.NoMemory = ⊤
DemoWantsMemory n _ = ⊥

-- Why a demo is refused: for its first invalid glob, or for want of memory.
abbrev pub DemoFails : ℕ → List (List ℕ) → Error → Type 0
DemoFails n globs (error.BadGlob place) = IsFirstInvalid globs place
DemoFails n globs (error.FailedProcessing jobs) = DemoWantsMemory n (error.FailedProcessing jobs)
DemoFails n globs error.NoMemory = ⊤
DemoFails n globs _ = ⊥

-- What a sweep of a demo promises at each of its ends.
pub record SweepsDemo (change : Change) (n : ℕ) (globs : List (List ℕ)) (result : Result Report Error) : Type 0 where
  pub counted : IfOk result (CountsDemo change n globs)
  pub fails : IfErr result (DemoFails n globs)
  pub bad_glob : (place : ℕ) → IsFirstInvalid globs place → IsErrOrMemory (error.BadGlob place) result
  pub complete : All IsValid globs → IfErr result (DemoWantsMemory n)
