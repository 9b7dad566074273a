-- What a command on a tree promises.
use Rattle.std.specs.Prelude.{◌≡◌, ◌⊎◌, ℕ, true, IsTrue, List, ◌++◌, Some, Result}
use Rattle.sd_io.specs.Tree.{NameList, Content, Tree}
use Rattle.sd_io.specs.Paths.{reached}
use Rattle.sd_io.specs.Outcomes.{Leaves, content_at}
use Rattle.sd_io.specs.Disk.{DiskState, outcomes_now, MayLeaveSince}
use Rattle.sd_io.specs.Streams.{SinkState}
use Rattle.sd_change.specs.Change.{Change}
use Rattle.sd_course.specs.Course.{Course}
use Rattle.chosen_files.specs.Chosen.{Chosen}
use Rattle.many_files.specs.Counts.{RewritesFiles}
use Rattle.many_files.specs.Files.{IsFreeBeside}
use Rattle.many_files.specs.Rewritten.{IsNewOne}
use Rattle.many_files.specs.declared.report.Report.{Report}
use Rattle.sd_core.specs.Printing.{EndsBy}
use Rattle.sd_core.specs.Report.{line_of}
use Rattle.sd_core.specs.Selection.{Selection}
use Rattle.sd_core.specs.Sweep.{Sweeps, sweep_cap}
use Rattle.sd_core.specs.declared.error.Error.{Error}
use Rattle.sd_core.specs.declared.ended.Why.{Why}

-- ---- the headline

-- these are the places of the chosen files below the node that a root leads to, links followed
abbrev pub AreChosenBelow : Tree → List ℕ → List (List ℕ) → List NameList → Type 0
AreChosenBelow tree root globs places = (top : NameList) × (reached tree root true ≡ Some top) × Chosen tree top globs places

-- Each chosen file is rewritten and nothing else changed, and a sink that tells its bytes grew by the line of the report that counts exactly that.
pub record DoesTreeCommand (change : Change) (root : List ℕ) (globs : List (List ℕ)) (old new : DiskState) (out : Course SinkState) : Type 0 where
  pub report : Report
  pub places : List NameList
  pub chosen : AreChosenBelow old.tree root globs places
  pub rewrites : RewritesFiles change places report old new
  pub printed : IsTrue out.tells → out.new.held ≡ out.old.held ++ line_of report

-- ---- a crash

-- At each place the image holds what a crash at the start could have left there; or it is that of a selected file, with its mode and its new bytes; or the
-- place is a reserved name that was free, in the folder of a selected file.
abbrev pub IsOldOrNewImage : Change → Selection → DiskState → Tree → Type 0
IsOldOrNewImage change selection old image =
    (place : NameList) → Leaves (outcomes_now old place) (content_at image place)
    ⊎ ((content : Content) × (content_at image place ≡ Some content) × IsNewOne (selection.IsOne old.tree) change old.tree place content)
    ⊎ IsFreeBeside (selection.IsOne old.tree) old.tree place

-- each image that a crash might have left since the start
abbrev pub CrashesLeave : Change → Selection → DiskState → DiskState → Type 0
CrashesLeave change selection old new = (image : Tree) → MayLeaveSince new old.clock image → IsOldOrNewImage change selection old image

-- ---- the whole

-- A tree command is a sweep whose report is printed.
pub record TreeCommand (change : Change) (selection : Selection) (same_disk same_out : Type 0) (d : Course DiskState) (out : Course SinkState) (ended : Why) : Type 0 where
  pub result : Result Report Error
  pub sweeps : Sweeps change selection sweep_cap same_disk result d
  pub prints : EndsBy line_of result same_out out ended
  pub crash : IsTrue d.tells → CrashesLeave change selection d.old d.new
