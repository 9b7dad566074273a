-- The exchange of one file's bytes.
use Rattle.std.specs.Prelude.{◌≡◌, ◌≢◌, ◌⊎◌, ℕ, List, [], Some, IsSome, IsTrue}
use Rattle.std.specs.List.{AllByRecursion}
use Rattle.sd_io.specs.Tree.{NameList, IsName, Tree, SameBut, node_at, file_at, is_directory_at}
use Rattle.sd_io.specs.Paths.{parts_of, parent_of}
use Rattle.sd_io.specs.Files.{path_text}
use Rattle.sd_io.specs.Disk.{DiskState}
use Rattle.sd_io.specs.declared.fault.DiskFault.{DiskFault}
use Rattle.sd_io.specs.declared.fault.DiskFault.TheVariants as disk
use Rattle.file_exchange.specs.declared.fault.ExchangeFault.{ExchangeFault}
use Rattle.file_exchange.specs.declared.fault.ExchangeFault.TheVariants as exchange
use Rattle.file_exchange.specs.Causes.{HasRisenBy}
use Rattle.file_exchange.specs.Reserved.{FirstFree}

-- the path is that of a regular file of the tree, without links, `.` and `..`
pub record IsFilePath (tree : Tree) (path : List ℕ) : Type 0 where
  pub path_is : path ≡ path_text (parts_of path)
  pub is_file : IsSome (file_at tree (parts_of path))

-- the path is that of a name in a directory of the tree, without links, `.` and `..`; something may stand there or not
pub record IsPathIn (tree : Tree) (path : List ℕ) : Type 0 where
  pub path_is : path ≡ path_text (parts_of path)
  pub below_top : parts_of path ≢ []
  pub are_names : AllByRecursion IsName (parts_of path)
  pub folder : IsTrue (is_directory_at tree (parent_of (parts_of path)))

-- the file that the path is of holds these bytes
abbrev pub FileHolds : Tree → List ℕ → List ℕ → Type 0
FileHolds tree path bytes = (mode : ℕ) × (file_at tree (parts_of path) ≡ Some (bytes, mode))

-- ---- the file has its new bytes

-- the regular file at the place has these bytes and its mode
pub record HasBytes (old : Tree) (place : NameList) (bytes : List ℕ) (new : Tree) : Type 0 where
  pub before : List ℕ
  pub mode : ℕ
  pub was : file_at old place ≡ Some (before, mode)
  pub holds : file_at new place ≡ Some (bytes, mode)

-- and every other place is as before
pub record Exchanges (old : Tree) (place : NameList) (bytes : List ℕ) (new : Tree) : Type 0 where
  pub has : HasBytes old place bytes new
  pub others : SameBut place old new

-- After a refusal the file is its old node or has the new bytes, and at most one reserved name differs: the first that was free in its
-- folder. Where the file isn't its old node, none does.
pub record LeavesBytes (old : Tree) (place : NameList) (bytes : List ℕ) (new : Tree) : Type 0 where
  pub old_or_new : (node_at new place ≡ node_at old place) ⊎ HasBytes old place bytes new
  pub temporary : NameList
  pub was_free : FirstFree old (parent_of place) temporary ⊎ (temporary ≡ place)
  pub others : (q : NameList) → q ≢ place → q ≢ temporary → node_at new q ≡ node_at old q
  pub old_or_alone : (node_at new place ≡ node_at old place) ⊎ SameBut place old new

-- One counted fault leaves no temporary file: every other place is as before, or a second one was counted.
abbrev pub IsCleared : DiskState → NameList → DiskState → Type 0
IsCleared old place new = SameBut place old.tree new.tree ⊎ HasRisenBy 2 old.faults new.faults

-- ---- faults

-- the fault of a refused move, or of putting it on the medium; want of memory is told as in every other step
abbrev pub as_move : DiskFault → ExchangeFault
as_move disk.Absent = exchange.Move disk.Absent
as_move disk.Taken = exchange.Move disk.Taken
as_move disk.Failed = exchange.Move disk.Failed
as_move disk.NoMemory = exchange.Disk disk.NoMemory

-- the disk failed before the move, or in it
abbrev pub HasFailed : ExchangeFault → Type 0
HasFailed fault = (fault ≡ exchange.Disk disk.Failed) ⊎ (fault ≡ exchange.Move disk.Failed)
