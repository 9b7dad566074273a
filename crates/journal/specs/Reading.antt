-- The journal that stands in a root, and its stages, are read.
use Rattle.std.specs.Prelude.{◌≡◌, ◌≢◌, ◌⊎◌, ◌++◌, ◌∷◌, [], ℕ, true, List, Option, Some, None, IsTrue, IsSome, Contains, ⊤}
use Rattle.sha2.specs.Sha256.{sha256}
use Rattle.sd_io.specs.declared.meta.Kind.{Kind}
use Rattle.sd_io.specs.declared.meta.Kind.TheVariants as kinds
use Rattle.sd_io.specs.Tree.{NameList, Tree, node_at, file_at}
use Rattle.sd_io.specs.Paths.{reached}
use Rattle.sd_io.specs.Files.{path_text, file_of, file_named}
use Rattle.sd_io.specs.Disk.{DiskState}
use Rattle.sd_course.specs.Course.{Course, AsTold, DiskFailed}
use Rattle.journal_text.specs.declared.line.Line.{Line}
use Rattle.journal_text.specs.Journal.{IsTextOf}
use Rattle.change_phases.specs.Between.{journal_name, stage_of}
use Rattle.journal.specs.declared.reading.Standing.{Standing}
use Rattle.journal.specs.declared.fault.JournalFault.{JournalFault}
use Rattle.journal.specs.declared.fault.JournalFault.TheVariants as fault

-- ---- the journal

-- the path leads to a regular file with the text of these lines
pub record ReadsJournal (tree : Tree) (path : List ℕ) (lines : List Line) : Type 0 where
  pub bytes : List ℕ
  pub mode : ℕ
  pub holds : file_of tree path ≡ Some (bytes, mode)
  pub is_text : IsTextOf bytes lines

-- the path leads to a regular file with the text of no journal
pub record HoldsNoJournal (tree : Tree) (path : List ℕ) : Type 0 where
  pub bytes : List ℕ
  pub mode : ℕ
  pub holds : file_of tree path ≡ Some (bytes, mode)
  pub no_text : (lines : List Line) → IsTextOf bytes lines → ⊥

-- Why the journal isn't read, where something of this kind stands: it is no regular file, or its text is no journal's; or the disk counted a fault, or it is
-- a regular file and the path leads to none.
abbrev pub JournalFails : Course DiskState → List ℕ → Kind → JournalFault → Type 0
JournalFails d path kind fault.RootMissing = ⊥
JournalFails d path kind (fault.File refused) = DiskFailed d ⊎ (IsTrue d.tells × (kind ≡ kinds.File) × (file_of d.old.tree path ≡ None))
JournalFails d path kind fault.Pending = ⊥
JournalFails d path kind (fault.TempName folder) = ⊥
JournalFails d path kind (fault.Unfinished job) = ⊥
JournalFails d path kind fault.BadJournal = (kind ≢ kinds.File) ⊎ (IsTrue d.tells → HoldsNoJournal d.old.tree path)
JournalFails d path kind (fault.StageMissing stage) = ⊥
JournalFails d path kind (fault.StageDiffers stage planned found) = ⊥
JournalFails d path kind fault.NoMemory = ⊤

-- ---- the stages

-- a regular file with the line's digest stands at its stage
pub record IsStageThere (tree : Tree) (line : Line) : Type 0 where
  pub bytes : List ℕ
  pub mode : ℕ
  pub holds : file_named tree (path_text (stage_of line)) ≡ Some (bytes, mode)
  pub digest : sha256 bytes ≡ line.digest

abbrev pub AreStagesThere : Tree → List Line → Type 0
AreStagesThere tree lines = (line : Line) → Contains lines line → IsStageThere tree line

-- a regular file with another digest stands there
pub record HasOtherDigest (tree : Tree) (line : Line) (found : List ℕ) : Type 0 where
  pub bytes : List ℕ
  pub mode : ℕ
  pub holds : file_named tree (path_text (stage_of line)) ≡ Some (bytes, mode)
  pub found_is : found ≡ sha256 bytes

-- Why a line's stage is refused: none stands there, or one with another digest, and the line's path is told; or the disk counted a fault, or there is no
-- memory left.
abbrev pub StageFails : Course DiskState → Line → JournalFault → Type 0
StageFails d line fault.RootMissing = ⊥
StageFails d line (fault.File refused) = DiskFailed d
StageFails d line fault.Pending = ⊥
StageFails d line (fault.TempName folder) = ⊥
StageFails d line (fault.Unfinished job) = ⊥
StageFails d line fault.BadJournal = ⊥
StageFails d line (fault.StageMissing path) = (path ≡ line.path) × AsTold d.tells (file_named d.old.tree (path_text (stage_of line)) ≡ None) (DiskFailed d)
StageFails d line (fault.StageDiffers path planned found) =
    (path ≡ line.path) × (planned ≡ line.digest) × (planned ≢ found) × AsTold d.tells (HasOtherDigest d.old.tree line found) ⊤
StageFails d line fault.NoMemory = ⊤

-- the stages of the lines before it are there, and that of this line is refused
pub record FailsAtFirst (d : Course DiskState) (lines : List Line) (refused : JournalFault) : Type 0 where
  pub before : List Line
  pub line : Line
  pub after : List Line
  pub lines_are : lines ≡ before ++ line ∷ after
  pub there : AsTold d.tells (AreStagesThere d.old.tree before) ⊤
  pub fails : StageFails d line refused

-- ---- what stands in a root

-- the root leads to a node in which nothing stands at `.sd-journal`
pub record NoneStands (tree : Tree) (root : List ℕ) : Type 0 where
  pub folder : NameList
  pub leads : reached tree root true ≡ Some folder
  pub none : node_at tree (folder ++ journal_name ∷ []) ≡ None

-- a regular file with the text of these lines stands there
pub record JournalStands (tree : Tree) (root : List ℕ) (lines : List Line) : Type 0 where
  pub folder : NameList
  pub leads : reached tree root true ≡ Some folder
  pub bytes : List ℕ
  pub mode : ℕ
  pub holds : file_at tree (folder ++ journal_name ∷ []) ≡ Some (bytes, mode)
  pub is_text : IsTextOf bytes lines

-- something else stands there: no regular file, or one with the text of no journal
pub record OtherStands (tree : Tree) (root : List ℕ) : Type 0 where
  pub folder : NameList
  pub leads : reached tree root true ≡ Some folder
  pub some : IsSome (node_at tree (folder ++ journal_name ∷ []))
  pub no_journal : (bytes : List ℕ) (mode : ℕ) → file_at tree (folder ++ journal_name ∷ []) ≡ Some (bytes, mode) → (lines : List Line) → IsTextOf bytes lines → ⊥

-- the journal of these lines stands there, and each of its stages
pub record AllStand (tree : Tree) (root : List ℕ) (lines : List Line) : Type 0 where
  pub journal : JournalStands tree root lines
  pub stages : AreStagesThere tree lines

-- what is read: nothing where none stands, or the journal and its path
abbrev pub ReadsRoot : Tree → List ℕ → Option Standing → Type 0
ReadsRoot tree root None = NoneStands tree root
ReadsRoot tree root (Some standing) = (all : AllStand tree root standing.journal) × (standing.path ≡ path_text (all.journal.folder ++ journal_name ∷ []))

-- the journal of these lines stands in the root, and the stage of one of them is the first that is refused
pub record StagesFail (d : Course DiskState) (root : List ℕ) (refused : JournalFault) : Type 0 where
  pub lines : List Line
  pub journal : IsTrue d.tells → JournalStands d.old.tree root lines
  pub first : FailsAtFirst d lines refused
