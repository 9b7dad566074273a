-- Stages of files that are to change are made.
use Rattle.std.specs.Prelude.{◌≡◌, ◌≢◌, ◌⊎◌, ◌<◌, ◌+◌, ℕ, true, List, [], ◌∷◌, map, length, Some, None, IsSome, IsTrue, Contains, ⊤}
use Rattle.std.specs.List.{IsDistinct}
use Rattle.sd_io.specs.Tree.{NameList, Tree, SameBut, node_at, file_at}
use Rattle.sd_io.specs.Paths.{reached, parent_of, SameWays}
use Rattle.sd_io.specs.Outcomes.{same_place}
use Rattle.sd_io.specs.Disk.{DiskState, SameTree}
use Rattle.sd_io.specs.Files.{path_text, file_of}
use Rattle.sd_io.specs.Crashes.{LeavesSince, IsSettledAt, SettledBut}
use Rattle.sd_change.specs.Change.{Change, FileChange}
use Rattle.sd_course.specs.Course.{Course, AsTold, HasRisenBy, DiskFailed}
use Rattle.file_exchange.specs.Reserved.{Free, FirstFree, NoneFree, reserved_names}
use Rattle.file_exchange.specs.Exchange.{IsFilePath}
use Rattle.file_exchange.specs.Crash.{Exchange}
use Rattle.file_rewrite.specs.OneFile.{FreeAtMost}
use Rattle.journal_text.specs.declared.line.Line.{Line}
use Rattle.change_phases.specs.Between.{Work, place_of, stage_of, IsLineOf, AreLinesOf}
use Rattle.journal.specs.declared.fault.JournalFault.{JournalFault}
use Rattle.journal.specs.declared.fault.JournalFault.TheVariants as fault
use Rattle.journal.specs.Keeping.{IsPreparing}
use Rattle.journal.specs.Beside.{LeavesBeside}
use Rattle.journal.specs.Clearing.{IsStage}

-- ---- what is planned

-- the path leads to the file, of whose bytes the change makes these new ones, which are others
pub record IsChangeOf (change : Change) (tree : Tree) (path : List ℕ) (f : Exchange) : Type 0 where
  pub leads : reached tree path true ≡ Some f.0
  pub bytes : List ℕ
  pub mode : ℕ
  pub was : file_at tree f.0 ≡ Some (bytes, mode)
  pub count : ℕ
  pub new_bytes : FileChange change bytes f.1 count
  pub differ : f.1 ≢ bytes

-- so it is of each path and its file
abbrev pub AreChangesOf : Change → Tree → List (List ℕ) → List Exchange → Type 0
AreChangesOf change tree [] [] = ⊤
AreChangesOf change tree [] (f ∷ files) = ⊥
AreChangesOf change tree (path ∷ paths) [] = ⊥
AreChangesOf change tree (path ∷ paths) (f ∷ files) = IsChangeOf change tree path f × AreChangesOf change tree paths files

-- no journal is found yet, and the paths lead to the files that change, each in a place of its own
pub record IsPlanned (change : Change) (work : Work) (paths : List (List ℕ)) (state : DiskState) : Type 0 where
  pub preparing_now : IsPreparing work state
  pub changes : AreChangesOf change state.tree paths work.files
  pub own_places : IsDistinct same_place (map (λ f. f.0) work.files)

-- ---- what is made

-- what stood stands as it was, and paths lead where they led
pub record AddsFiles (old new : DiskState) : Type 0 where
  pub stood : (q : NameList) → node_at old.tree q ≢ None → node_at new.tree q ≡ node_at old.tree q
  pub ways : SameWays old.tree new.tree

-- What came are the stages of the lines, each a regular file at a reserved name that was free in its folder. Every other place is as before.
pub record AddsStages (lines : List Line) (old new : Tree) : Type 0 where
  pub was_free : (line : Line) → Contains lines line → Free old (parent_of (place_of line)) (stage_of line)
  pub is_file : (line : Line) → Contains lines line → IsSome (file_at new (stage_of line))
  pub others : (q : NameList) → (IsStage lines q → ⊥) → node_at new q ≡ node_at old q

-- The new bytes of the file that the path leads to stand, settled, at the line's stage, which was the first reserved name that was free in its folder.
-- All else is as it was, and a crash leaves anything there, and elsewhere what it could before.
pub record StagesFile (change : Change) (path : List ℕ) (line : Line) (old new : DiskState) : Type 0 where
  pub f : Exchange
  pub changes : IsChangeOf change old.tree path f
  pub of : IsLineOf f line
  pub is_path : IsFilePath new.tree line.path
  pub was_free : FirstFree old.tree (parent_of f.0) (stage_of line)
  pub mode : ℕ
  pub holds : file_at new.tree (stage_of line) ≡ Some (f.1, mode)
  pub settled : IsSettledAt new (stage_of line)
  pub others : SameBut (stage_of line) old.tree new.tree
  pub settled_others : SettledBut (stage_of line) old new
  pub leaves : LeavesSince (λ q content. ⊥) (λ q. q ≡ stage_of line) old new

-- nothing changed, and the path leads to no file whose bytes change
pub record IsUnchanged (change : Change) (path : List ℕ) (old new : DiskState) : Type 0 where
  pub same : SameTree old new
  pub no_change : (f : Exchange) → IsChangeOf change old.tree path f → ⊥

-- At most one reserved name in the folder of the file that the path leads to differs. A crash leaves anything there, and elsewhere what it could before.
abbrev pub LeavesStage : List ℕ → DiskState → DiskState → Type 0
LeavesStage path old new =
    SameTree old new ⊎ ((place : NameList) × (reached old.tree path true ≡ Some place) × IsSome (file_at old.tree place) × LeavesBeside old (parent_of place) new)

-- ---- all of them

-- the file's new bytes stand, settled, at the line's stage
pub record StandsSettled (f : Exchange) (line : Line) (state : DiskState) : Type 0 where
  pub mode : ℕ
  pub holds : file_at state.tree (stage_of line) ≡ Some (f.1, mode)
  pub settled : IsSettledAt state (stage_of line)

-- There is a line for each file in turn, whose stage was free and is its own; the new bytes of each stand, settled, at its stage.
pub record AreStagesMade (work : Work) (lines : List Line) (state : DiskState) : Type 0 where
  pub in_turn : AreLinesOf work.tree work.files lines
  pub own_stages : IsDistinct same_place (map stage_of lines)
  pub staged : (line : Line) (f : Exchange) → Contains lines line → Contains work.files f → IsLineOf f line → StandsSettled f line state

-- ---- why they aren't all made

-- the path leads to a file of this folder whose bytes change
abbrev pub ChangesIn : Change → Tree → NameList → List ℕ → Type 0
ChangesIn change tree folder path = (f : Exchange) × IsChangeOf change tree path f × (parent_of f.0 ≡ folder)

-- at least so many of the paths do
abbrev pub HaveChangesIn : Change → Tree → NameList → List (List ℕ) → ℕ → Type 0
HaveChangesIn change tree folder [] n = n ≡ 0
HaveChangesIn change tree folder (path ∷ paths) n =
    HaveChangesIn change tree folder paths n ⊎ ((m : ℕ) × (n ≡ m + 1) × ChangesIn change tree folder path × HaveChangesIn change tree folder paths m)

-- the stages of the lines in each folder are among so many places as there are files in it that the paths lead to and that change
abbrev pub CountStages : Change → Tree → List (List ℕ) → List Line → Type 0
CountStages change tree paths lines =
    (folder : NameList) → (places : List NameList) × HaveChangesIn change tree folder paths (length places)
    × ((line : Line) → Contains lines line → parent_of (place_of line) ≡ folder → Contains places (stage_of line))

-- fewer reserved names of the folder are free than it has files that change, and so many more
pub record HasTooFew (change : Change) (tree : Tree) (paths : List (List ℕ)) (folder : NameList) (more : ℕ) : Type 0 where
  pub changed : ℕ
  pub changes : HaveChangesIn change tree folder paths changed
  pub free : ℕ
  pub few : FreeAtMost tree folder free
  pub fewer : free < changed + more

-- each path leads to a regular file
abbrev pub LeadToFiles : Tree → List (List ℕ) → Type 0
LeadToFiles tree paths = (path : List ℕ) → Contains paths path → IsSome (file_of tree path)

-- the disk counted a fault, or tells that one of the paths leads to no regular file
abbrev pub MissesFile : Course DiskState → List (List ℕ) → Type 0
MissesFile d paths = DiskFailed d ⊎ (IsTrue d.tells × ((path : List ℕ) × Contains paths path × (file_of d.old.tree path ≡ None)))

-- the path leads to a file whose bytes change, in this folder, where no reserved name is free
pub record IsCrowdedAt (change : Change) (tree : Tree) (path folder : List ℕ) : Type 0 where
  pub f : Exchange
  pub changes : IsChangeOf change tree path f
  pub folder_is : folder ≡ path_text (parent_of f.0)
  pub none_free : NoneFree tree (parent_of f.0)

-- why the file that a path leads to isn't found
abbrev pub IsNotFound : Course DiskState → List ℕ → JournalFault → Type 0
IsNotFound d path fault.RootMissing = ⊥
IsNotFound d path (fault.File refused) = MissesFile d (path ∷ [])
IsNotFound d path fault.Pending = ⊥
IsNotFound d path (fault.TempName folder) = ⊥
IsNotFound d path (fault.Unfinished job) = ⊥
IsNotFound d path fault.BadJournal = ⊥
IsNotFound d path (fault.StageMissing stage) = ⊥
IsNotFound d path (fault.StageDiffers stage planned found) = ⊥
IsNotFound d path fault.NoMemory = ⊤

-- why one isn't staged
abbrev pub IsNotStaged : Change → Course DiskState → List ℕ → JournalFault → Type 0
IsNotStaged change d path fault.RootMissing = ⊥
IsNotStaged change d path (fault.File refused) = MissesFile d (path ∷ [])
IsNotStaged change d path fault.Pending = ⊥
IsNotStaged change d path (fault.TempName folder) = AsTold d.tells (IsCrowdedAt change d.old.tree path folder) (HasRisenBy reserved_names d.old.faults d.new.faults)
IsNotStaged change d path (fault.Unfinished job) = ⊥
IsNotStaged change d path fault.BadJournal = ⊥
IsNotStaged change d path (fault.StageMissing stage) = ⊥
IsNotStaged change d path (fault.StageDiffers stage planned found) = ⊥
IsNotStaged change d path fault.NoMemory = ⊤

-- why they aren't all: `TempName` tells the path of a folder with too few free names
abbrev pub AreNotStaged : Change → Course DiskState → List (List ℕ) → JournalFault → Type 0
AreNotStaged change d paths fault.RootMissing = ⊥
AreNotStaged change d paths (fault.File refused) = MissesFile d paths
AreNotStaged change d paths fault.Pending = ⊥
AreNotStaged change d paths (fault.TempName text) =
    AsTold d.tells (LeadToFiles d.old.tree paths → (folder : NameList) × (text ≡ path_text folder) × HasTooFew change d.old.tree paths folder 0)
    (HasRisenBy reserved_names d.old.faults d.new.faults)
AreNotStaged change d paths (fault.Unfinished job) = ⊥
AreNotStaged change d paths fault.BadJournal = ⊥
AreNotStaged change d paths (fault.StageMissing stage) = ⊥
AreNotStaged change d paths (fault.StageDiffers stage planned found) = ⊥
AreNotStaged change d paths fault.NoMemory = ⊤
