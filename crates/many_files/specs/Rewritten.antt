-- Files that are rewritten, and what a crash may leave of them.
use Rattle.std.specs.Prelude.{◌≡◌, ◌⊎◌, ℕ, List, Option, Some}
use Rattle.sd_io.specs.Tree.{NameList, Content, Tree, node_at, file_at}
use Rattle.sd_io.specs.Outcomes.{Leaves}
use Rattle.sd_io.specs.Disk.{DiskState, outcomes_now}
use Rattle.sd_change.specs.Change.{Change}
use Rattle.file_rewrite.specs.Rewritten.{IsOld, IsNew, IsNewFile, IsChangedFile}
use Rattle.many_files.specs.Files.{IsFreeBeside}

-- the same node stands there, and its outcomes are among those that it had
pub record KeepsNode (old new : DiskState) (place : NameList) : Type 0 where
  pub node : node_at new.tree place ≡ node_at old.tree place
  pub outcomes : (found : Option Content) → Leaves (outcomes_now new place) found → Leaves (outcomes_now old place) found

-- The regular file at the place keeps its mode and holds its new bytes; where these are its bytes, its node is kept.
pub record IsRewritten (change : Change) (old new : DiskState) (place : NameList) : Type 0 where
  pub bytes : List ℕ
  pub mode : ℕ
  pub was : file_at old.tree place ≡ Some (bytes, mode)
  pub new_bytes : List ℕ
  pub count : ℕ
  pub new_bytes_are : change bytes new_bytes count
  pub holds : file_at new.tree place ≡ Some (new_bytes, mode)
  pub kept : new_bytes ≡ bytes → KeepsNode old new place

-- ---- some files: those at the places of which a fact holds

-- At each place stands what stood there; or one of the files, wholly new; or the place is a reserved name that was free, in the folder of one of them.
abbrev pub LeavesEach : (NameList → Type 0) → Change → Tree → Tree → Type 0
LeavesEach IsOne change old new = (q : NameList) → IsOld old new q ⊎ (IsOne q × IsNew change old new q) ⊎ IsFreeBeside IsOne old q

-- one of the files with its mode and its new bytes
abbrev pub IsNewOne : (NameList → Type 0) → Change → Tree → NameList → Content → Type 0
IsNewOne IsOne change tree q content = IsOne q × IsNewFile change tree q content

-- the same, where its bytes change
abbrev pub IsChangedOne : (NameList → Type 0) → Change → Tree → NameList → Content → Type 0
IsChangedOne IsOne change tree q content = IsOne q × IsChangedFile change tree q content
