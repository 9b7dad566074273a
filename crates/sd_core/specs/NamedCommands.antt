-- What a command on named files promises, and a preview of them.
use Rattle.std.specs.Prelude.{◌≡◌, ◌⊎◌, ℕ, IsTrue, List, ⊤}
use Rattle.sd_io.specs.Tree.{Tree}
use Rattle.sd_io.specs.Disk.{DiskState, SameTree, SameLists}
use Rattle.sd_io.specs.Streams.{SinkState}
use Rattle.sd_io.specs.declared.fault.DiskFault.TheVariants as disk
use Rattle.sd_change.specs.Change.{Change}
use Rattle.sd_course.specs.Course.{Course, DiskFailed, SinkFailed}
use Rattle.file_rewrite.specs.Paths.{IsNoPath}
use Rattle.many_files.specs.Clear.{AreFilesClear}
use Rattle.many_files.specs.InTurn as in_turn
use Rattle.many_files.specs.InTurn.{DoesFiles}
use Rattle.many_files.specs.declared.report.Report.{Report}
use Rattle.many_files.specs.declared.fault.FilesFault.TheVariants as files
use Rattle.named_files.specs.Clear.{IsFirstUnshown, IsPreviewClear}
use Rattle.named_files.specs.Preview.{DoesPreview, PreviewFails}
use Rattle.named_files.specs.declared.fault.PreviewFault.TheVariants as preview
use Rattle.sd_core.specs.Sweep.{IsForMemory}
use Rattle.sd_core.specs.declared.error.Error.{Error}
use Rattle.sd_core.specs.declared.error.Error.TheVariants as error
use Rattle.sd_core.specs.declared.ended.Why.{Why}
use Rattle.sd_core.specs.declared.ended.Why.TheVariants as why

-- ---- named files

-- What a refused command on named files leaves, and why it is refused.
abbrev pub FilesFail : Change → List (List ℕ) → Course DiskState → Error → Type 0
FilesFail change paths d (error.FailedProcessing jobs) = in_turn.FilesFail change paths d (files.Failed jobs)
FilesFail change paths d error.NoMemory = in_turn.FilesFail change paths d files.NoMemory
FilesFail change paths d _ = ⊥

abbrev pub FilesEnd : Change → List (List ℕ) → Course DiskState → Why → Type 0
FilesEnd change paths d why.Done = (report : Report) × DoesFiles change paths report d
FilesEnd change paths d (why.Fault failed) = FilesFail change paths d failed
FilesEnd change paths d _ = ⊥

-- it is done, or want of memory is the one reason why not
abbrev pub IsDoneOrForMemory : Tree → Why → Type 0
IsDoneOrForMemory tree why.Done = ⊤
IsDoneOrForMemory tree (why.Fault failed) = IsForMemory tree failed
IsDoneOrForMemory tree _ = ⊥

-- What a command on named files promises at each of its ends.
pub record FilesCommand (change : Change) (paths : List (List ℕ)) (d : Course DiskState) (ended : Why) : Type 0 where
  pub ends : FilesEnd change paths d ended
  pub lists : SameLists d.old d.new
  pub complete : AreFilesClear paths d → IsDoneOrForMemory d.new.tree ended

-- ---- preview

-- What a preview that ends early has written, and why it ends.
abbrev pub ShowingFails : Change → List (List ℕ) → Course DiskState → Course SinkState → Error → Type 0
ShowingFails change paths d out (error.File fault) = PreviewFails change paths d out (preview.File fault)
ShowingFails change paths d out (error.InvalidPath path) = PreviewFails change paths d out (preview.InvalidPath path)
ShowingFails change paths d out error.NoMemory = (out.new ≡ out.old) ⊎ PreviewFails change paths d out preview.NoMemory
ShowingFails change paths d out _ = ⊥

abbrev pub PreviewEnds : Change → List (List ℕ) → Course DiskState → Course SinkState → Why → Type 0
PreviewEnds change paths d out why.Done = DoesPreview change paths d out
PreviewEnds change paths d out (why.Fault failed) = ShowingFails change paths d out failed
PreviewEnds change paths d out _ = ⊥

-- the word that names no file is told, unless there was no memory, or something failed before
abbrev pub IsToldNoPath : Course DiskState → Course SinkState → List ℕ → Why → Type 0
IsToldNoPath d out path ended =
    (ended ≡ why.Fault (error.InvalidPath path)) ⊎ (ended ≡ why.Fault error.NoMemory)
    ⊎ ((ended ≡ why.Fault (error.File disk.Failed)) × (DiskFailed d ⊎ SinkFailed out))

-- What a preview promises at each of its ends.
pub record PreviewCommand (change : Change) (paths : List (List ℕ)) (d : Course DiskState) (out : Course SinkState) (ended : Why) : Type 0 where
  pub ends : PreviewEnds change paths d out ended
  pub same : SameTree d.old d.new
  pub lists : SameLists d.old d.new
  pub no_path : IsTrue d.tells → (path : List ℕ) → IsFirstUnshown paths d.old.tree path → IsNoPath path → IsToldNoPath d out path ended
  pub complete : IsPreviewClear paths d out → (ended ≡ why.Done) ⊎ (ended ≡ why.Fault error.NoMemory)
