-- A change of many files is made.
use Rattle.std.specs.Prelude.{◌≡◌, ◌≢◌, ◌⊎◌, ◌<◌, ◌+◌, ◌++◌, ◌∷◌, [], ℕ, true, List, length, Some, None, IsSome, IsTrue, Contains, map, ⊤}
use Rattle.std.specs.List.{IsDistinct}
use Rattle.sd_io.specs.Tree.{NameList, Tree, node_at, file_at}
use Rattle.sd_io.specs.Paths.{parts_of, parent_of, named}
use Rattle.sd_io.specs.Files.{path_text, LeadsNowhere}
use Rattle.sd_io.specs.Lists.{directory_of}
use Rattle.sd_io.specs.Outcomes.{same_place}
use Rattle.sd_io.specs.Disk.{DiskState, SameTree}
use Rattle.sd_change.specs.Change.{Change}
use Rattle.sd_course.specs.Course.{Course, AsTold, HasRisenBy, DiskFailed}
use Rattle.file_exchange.specs.Reserved.{Free, NoneFree, Reserved, reserved_names}
use Rattle.file_exchange.specs.Exchange.{IsFilePath, HasBytes}
use Rattle.file_exchange.specs.Crash.{Exchange}
use Rattle.file_rewrite.specs.OneFile.{FreeAtMost}
use Rattle.file_rewrite.specs.declared.fault.JobFault.{JobFault}
use Rattle.file_rewrite.specs.declared.fault.JobFault.TheVariants as job
use Rattle.journal_text.specs.declared.line.Line.{Line}
use Rattle.journal.specs.declared.fault.JournalFault.{JournalFault}
use Rattle.journal.specs.declared.fault.JournalFault.TheVariants as fault
use Rattle.change_phases.specs.Between.{Work, IsWork, journal_name, journal_of, place_of, stage_of}
use Rattle.change_phases.specs.Phases.{IsOnly}
use Rattle.change_phases.specs.Recovery.{IsOnMedium}
use Rattle.journal.specs.Placing.{AreNewForGood}
use Rattle.journal.specs.Beside.{KeepsAllButFree}
use Rattle.journal.specs.Clearing.{LeavesNoMore}
use Rattle.journal.specs.Planning.{AreChangesOf, IsPlanned, HaveChangesIn, HasTooFew, LeadToFiles, MissesFile}

-- Each crash leaves the disk as it stands. The work is below this root, where no journal stands, and the paths lead to its files, each in a place of its
-- own, of whose bytes the change makes others.
pub record IsChangeBelow (change : Change) (work : Work) (root : List ℕ) (paths : List (List ℕ)) (state : DiskState) : Type 0 where
  pub is_work : IsWork work
  pub tree : work.tree ≡ state.tree
  pub leads : directory_of work.tree root ≡ Some work.root
  pub on_medium : IsOnMedium state
  pub changes : AreChangesOf change state.tree paths work.files
  pub own_places : IsDistinct same_place (map (λ f. f.0) work.files)

-- so it is still, while nothing but the root was put on the medium
pub record MayChange (change : Change) (work : Work) (root : List ℕ) (paths : List (List ℕ)) (state : DiskState) : Type 0 where
  pub planned : IsPlanned change work paths state
  pub leads : directory_of work.tree root ≡ Some work.root

-- each crash leaves each file new, and no journal
pub record IsChanged (work : Work) (state : DiskState) : Type 0 where
  pub new : AreNewForGood work state
  pub no_journal : IsOnly state (journal_of work) (λ found. found ≡ None)

-- each of the files keeps its mode and holds its new bytes, and every other place is as before
pub record ExchangesFiles (files : List Exchange) (old new : Tree) : Type 0 where
  pub each : (f : Exchange) → Contains files f → HasBytes old f.0 f.1 new
  pub others : (q : NameList) → ((f : Exchange) → Contains files f → q ≢ f.0) → node_at new q ≡ node_at old q

-- No stage stands, and the journal neither in its place nor at the path under which it was written. Every other place than those of the files is as before.
pub record LeavesNothing (lines : List Line) (temporary : List ℕ) (journal : NameList) (old new : Tree) : Type 0 where
  pub place : NameList
  pub names : named old temporary ≡ Some place
  pub no_temporary : node_at new place ≡ None
  pub no_journal : node_at new journal ≡ None
  pub no_stage : (line : Line) → Contains lines line → node_at new (stage_of line) ≡ None
  pub others : (q : NameList) → q ≢ place → q ≢ journal → ((line : Line) → Contains lines line → (q ≢ place_of line) × (q ≢ stage_of line)) → node_at new q ≡ node_at old q

-- ---- why the journal isn't written, or isn't carried out

-- why no file is made beside the path: `TempName` tells the path of its folder, where no reserved name is free; or the disk counted a fault
abbrev pub WritingFails : Course DiskState → List ℕ → JournalFault → Type 0
WritingFails d path (fault.File refused) = DiskFailed d
WritingFails d path (fault.TempName text) =
    AsTold d.tells ((text ≡ path_text (parent_of (parts_of path))) × NoneFree d.old.tree (parent_of (parts_of path))) (HasRisenBy reserved_names d.old.faults d.new.faults)
WritingFails d path fault.NoMemory = ⊤
WritingFails d path _ = ⊥

-- All stands that a journal tells of: each line's file and its stage. The journal itself stands under a reserved name, beside the place of its own, which is free.
pub record IsWritten (lines : List Line) (temporary path root : List ℕ) (tree : Tree) : Type 0 where
  pub folder : NameList
  pub leads : directory_of tree root ≡ Some folder
  pub path_is : path ≡ path_text (folder ++ journal_name ∷ [])
  pub free : node_at tree (folder ++ journal_name ∷ []) ≡ None
  pub place : NameList
  pub names : named tree temporary ≡ Some place
  pub is_file : IsSome (file_at tree place)
  pub apart : (line : Line) → Contains lines line → (place ≢ place_of line) × (place ≢ stage_of line)
  pub paths : (line : Line) → Contains lines line → IsFilePath tree line.path
  pub stages : (line : Line) → Contains lines line → IsSome (file_at tree (stage_of line))

-- each reserved name of a line's folder is taken, and none by the journal
pub record IsLineCrowded (tree : Tree) (lines : List Line) (temporary : List ℕ) : Type 0 where
  pub line : Line
  pub has : Contains lines line
  pub taken : (q : NameList) → Reserved (parent_of (place_of line)) q → IsSome (node_at tree q)
  pub no_journal : (q : NameList) → Reserved (parent_of (place_of line)) q → named tree temporary ≢ Some q

-- why it isn't carried out: a line's folder has no free name; or the disk counted a fault
abbrev pub EndFails : Course DiskState → List Line → List ℕ → JobFault → Type 0
EndFails d lines temporary (job.File refused) = DiskFailed d
EndFails d lines temporary (job.TempfilePersist refused) = DiskFailed d
EndFails d lines temporary job.InvalidPath = ⊥
EndFails d lines temporary job.TempName = AsTold d.tells (IsLineCrowded d.old.tree lines temporary) (HasRisenBy reserved_names d.old.faults d.new.faults)
EndFails d lines temporary job.NoMemory = ⊤

-- ---- why a change isn't made

-- The text is the path of a folder of which fewer reserved names are free than it has files that change, one more counted for the root.
pub record IsTooCrowded (change : Change) (tree : Tree) (root : List ℕ) (paths : List (List ℕ)) (text : List ℕ) : Type 0 where
  pub folder : NameList
  pub text_is : text ≡ path_text folder
  pub too_few : HasTooFew change tree paths folder 0 ⊎ ((directory_of tree root ≡ Some folder) × HasTooFew change tree paths folder 1)

-- no more reserved names of a folder are free than it has files that change, and it has one
pub record IsFilledUp (change : Change) (tree : Tree) (paths : List (List ℕ)) : Type 0 where
  pub folder : NameList
  pub changed : ℕ
  pub some : 0 < changed
  pub changes : HaveChangesIn change tree folder paths changed
  pub few : FreeAtMost tree folder changed

-- why it isn't carried out, once the journal has its name
abbrev pub IsUnfinished : Change → List (List ℕ) → Course DiskState → JobFault → Type 0
IsUnfinished change paths d (job.File refused) = DiskFailed d
IsUnfinished change paths d (job.TempfilePersist refused) = DiskFailed d
IsUnfinished change paths d job.InvalidPath = ⊥
IsUnfinished change paths d job.TempName =
    AsTold d.tells (LeadToFiles d.old.tree paths → IsFilledUp change d.old.tree paths) (HasRisenBy reserved_names d.old.faults d.new.faults)
IsUnfinished change paths d job.NoMemory = ⊤

-- all but reserved names that were free is as before
abbrev pub LeavesAllButFree : Course DiskState → Type 0
LeavesAllButFree d = IsTrue d.tells → KeepsAllButFree d.old.tree d.new.tree

-- Why a change isn't made where no journal stands, and what is left: all but reserved names that were free, unless it is unfinished.
abbrev pub MakingFails : Change → List ℕ → List (List ℕ) → Course DiskState → JournalFault → Type 0
MakingFails change root paths d (fault.File refused) = LeavesAllButFree d × MissesFile d paths
MakingFails change root paths d (fault.TempName text) =
    LeavesAllButFree d
    × AsTold d.tells (LeadToFiles d.old.tree paths → IsTooCrowded change d.old.tree root paths text) (HasRisenBy reserved_names d.old.faults d.new.faults)
MakingFails change root paths d (fault.Unfinished job) = IsUnfinished change paths d job
MakingFails change root paths d fault.NoMemory = LeavesAllButFree d
MakingFails change root paths d _ = ⊥

-- something stands at `.sd-journal` in the directory that the root leads to
pub record IsPending (tree : Tree) (root : List ℕ) : Type 0 where
  pub folder : NameList
  pub leads : directory_of tree root ≡ Some folder
  pub stands : IsSome (node_at tree (folder ++ journal_name ∷ []))

-- Why a change isn't made. Where the root is missing, or a journal pending, nothing was written.
abbrev pub ChangeFails : Change → List ℕ → List (List ℕ) → Course DiskState → JournalFault → Type 0
ChangeFails change root paths d fault.RootMissing = SameTree d.old d.new × AsTold d.tells (LeadsNowhere d.old root true) (DiskFailed d)
ChangeFails change root paths d fault.Pending = (IsTrue d.tells → LeavesNoMore d.old d.new) × AsTold d.tells (IsPending d.old.tree root) (d.old.listed < d.new.listed)
ChangeFails change root paths d refused = MakingFails change root paths d refused

-- these come before a pending journal is told
abbrev pub ComesFirst : JournalFault → Type 0
ComesFirst (fault.File refused) = ⊤
ComesFirst fault.Pending = ⊤
ComesFirst fault.NoMemory = ⊤
ComesFirst _ = ⊥

-- ---- when nothing but want of memory refuses it

-- the folder has so many free reserved names
abbrev pub HasFree : Tree → NameList → ℕ → Type 0
HasFree tree folder n =
    (places : List NameList) × (length places ≡ n) × IsDistinct same_place places × ((place : NameList) → Contains places place → Free tree folder place)

-- each folder has a free reserved name for each of its files that change and one more, and the root yet one more
pub record HasRoomFor (change : Change) (tree : Tree) (root : List ℕ) (paths : List (List ℕ)) : Type 0 where
  pub each : (folder : NameList) (n : ℕ) → 0 < n → HaveChangesIn change tree folder paths n → HasFree tree folder (n + 1)
  pub in_root : (folder : NameList) (n : ℕ) → directory_of tree root ≡ Some folder → HaveChangesIn change tree folder paths n → HasFree tree folder (n + 2)
