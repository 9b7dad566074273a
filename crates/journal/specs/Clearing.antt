-- The stages are removed, and folders are put on the medium.
use Rattle.std.specs.Prelude.{◌≡◌, ◌⊎◌, ◌++◌, ◌∷◌, [], ℕ, List, Some, None, IsSome, IsTrue, Contains, ⊤}
use Rattle.sd_io.specs.declared.fault.DiskFault.{DiskFault}
use Rattle.sd_io.specs.declared.fault.DiskFault.TheVariants as disk
use Rattle.sd_io.specs.Tree.{Name, NameList, Tree, SameBut, node_at, file_at, is_directory_at}
use Rattle.sd_io.specs.Paths.{parent_of, named, SameWays}
use Rattle.sd_io.specs.Outcomes.{content_at}
use Rattle.sd_io.specs.Disk.{DiskState}
use Rattle.sd_io.specs.Files.{path_text, CannotRemove}
use Rattle.sd_io.specs.Lists.{directory_of, IsNoDirectory}
use Rattle.sd_io.specs.Crashes.{LeavesSince, IsSettledAt}
use Rattle.sd_course.specs.Course.{Course, AsTold, DiskFailed}
use Rattle.journal_text.specs.declared.line.Line.{Line}
use Rattle.journal_text.specs.Journal.{IsLine}
use Rattle.change_phases.specs.Between.{place_of, stage_of}
use Rattle.change_phases.specs.Phases.{IsOnly}

-- the folder of each line's file is one
abbrev pub HaveFolders : Tree → List Line → Type 0
HaveFolders tree lines = (line : Line) → Contains lines line → IsTrue (is_directory_at tree (parent_of (place_of line)))

-- ---- the journal is removed

-- The place that the path names is free, and every other is as it was; other paths lead where they led.
pub record RemovesAt (path : List ℕ) (old new : DiskState) : Type 0 where
  pub place : NameList
  pub names : named old.tree path ≡ Some place
  pub gone : node_at new.tree place ≡ None
  pub others : SameBut place old.tree new.tree
  pub ways : SameWays old.tree new.tree

-- why it isn't: no regular file stands at its path, or the root's path leads to no directory; or the disk counted a fault
abbrev pub RemovalFails : Course DiskState → List ℕ → List ℕ → DiskFault → Type 0
RemovalFails d root path disk.Absent = AsTold d.tells (CannotRemove d.old path ⊎ IsNoDirectory d.old root) (DiskFailed d)
RemovalFails d root path disk.Taken = ⊥
RemovalFails d root path disk.Failed = DiskFailed d
RemovalFails d root path disk.NoMemory = ⊤

-- ---- the stages are removed

-- at each place stands what stood there, or nothing; and directories and links stand where they stood
pub record KeepsOrRemoves (old new : Tree) : Type 0 where
  pub each : (q : NameList) → (node_at new q ≡ node_at old q) ⊎ (node_at new q ≡ None)
  pub ways : SameWays old new

-- why they aren't all: the disk counted a fault
abbrev pub ClearingFails : Course DiskState → DiskFault → Type 0
ClearingFails d disk.Absent = ⊥
ClearingFails d disk.Taken = ⊥
ClearingFails d disk.Failed = DiskFailed d
ClearingFails d disk.NoMemory = ⊤

-- one of the lines has its stage there
abbrev pub IsStage : List Line → NameList → Type 0
IsStage lines q = (line : Line) × Contains lines line × (q ≡ stage_of line)

-- Nothing but stages of the lines was removed, and nothing came. A crash leaves anything at their places, and elsewhere what it could before.
pub record RemovesStages (lines : List Line) (old new : DiskState) : Type 0 where
  pub kept_or_gone : (q : NameList) → (node_at new.tree q ≡ node_at old.tree q) ⊎ (node_at new.tree q ≡ None)
  pub others : (q : NameList) → (IsStage lines q → ⊥) → node_at new.tree q ≡ node_at old.tree q
  pub ways : SameWays old.tree new.tree
  pub leaves : LeavesSince (λ q content. ⊥) (IsStage lines) old new
  pub settled : (q : NameList) → (IsStage lines q → ⊥) → IsSettledAt old q → IsSettledAt new q

-- no stage stands where a file did
abbrev pub AreGone : List Line → DiskState → DiskState → Type 0
AreGone lines old new = (line : Line) → Contains lines line → IsSome (file_at old.tree (stage_of line)) → node_at new.tree (stage_of line) ≡ None

-- ---- put on the medium

-- The tree stays. A crash leaves no more than before, and what was settled is so.
pub record LeavesNoMore (old new : DiskState) : Type 0 where
  pub tree : new.tree ≡ old.tree
  pub leaves : LeavesSince (λ q content. ⊥) (λ q. ⊥) old new
  pub settled : (q : NameList) → IsSettledAt old q → IsSettledAt new q

-- in the folder a crash leaves nothing where nothing stands, and each settled file as it stands
pub record IsPutOnMedium (old : DiskState) (folder : NameList) (new : DiskState) : Type 0 where
  pub gone : (name : Name) → node_at old.tree (folder ++ name ∷ []) ≡ None → IsOnly new (folder ++ name ∷ []) (λ found. found ≡ None)
  pub there : (name : Name) → IsSome (file_at old.tree (folder ++ name ∷ [])) → IsSettledAt old (folder ++ name ∷ [])
      → IsOnly new (folder ++ name ∷ []) (λ found. found ≡ content_at old.tree (folder ++ name ∷ []))

-- the folder of each line's file is
abbrev pub ArePutOnMedium : List Line → DiskState → DiskState → Type 0
ArePutOnMedium lines old new = (line : Line) → Contains lines line → IsPutOnMedium old (parent_of (place_of line)) new

-- why they aren't: one of these folders is none; or the disk counted a fault
abbrev pub SyncingFails : Course DiskState → List Line → DiskFault → Type 0
SyncingFails d lines disk.Absent =
    AsTold d.tells ((line : Line) × Contains lines line × IsLine line × (directory_of d.old.tree (path_text (parent_of (place_of line))) ≡ None)) (DiskFailed d)
SyncingFails d lines disk.Taken = ⊥
SyncingFails d lines disk.Failed = DiskFailed d
SyncingFails d lines disk.NoMemory = ⊤
