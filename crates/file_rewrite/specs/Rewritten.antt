-- A file that is old, or new.
use Rattle.std.specs.Prelude.{◌≡◌, ◌≢◌, ◌⊎◌, ℕ, List, Some}
use Rattle.sd_io.specs.Tree.{NameList, Content, file, Tree, node_at, file_at}
use Rattle.sd_change.specs.Change.{Change}
use Rattle.file_rewrite.specs.declared.fault.JobFault.{JobFault}
use Rattle.file_rewrite.specs.declared.fault.JobFault.TheVariants as job

-- ---- old and new

-- the file at the place has its mode and its new bytes
pub record IsNew (change : Change) (old new : Tree) (place : NameList) : Type 0 where
  pub bytes : List ℕ
  pub mode : ℕ
  pub was : file_at old place ≡ Some (bytes, mode)
  pub new_bytes : List ℕ
  pub count : ℕ
  pub new_bytes_are : change bytes new_bytes count
  pub holds : file_at new place ≡ Some (new_bytes, mode)

-- what stands at the place is what stood there
abbrev pub IsOld : Tree → Tree → NameList → Type 0
IsOld old new place = node_at new place ≡ node_at old place

abbrev pub IsOldOrNew : Change → Tree → Tree → NameList → Type 0
IsOldOrNew change old new place = IsOld old new place ⊎ IsNew change old new place

-- After a refused move and for want of memory the file is old or new, after every other fault it is old.
abbrev pub IsLeft : Change → Tree → Tree → NameList → JobFault → Type 0
IsLeft change old new place (job.File fault) = IsOld old new place
IsLeft change old new place (job.TempfilePersist fault) = IsOldOrNew change old new place
IsLeft change old new place job.InvalidPath = IsOld old new place
IsLeft change old new place job.TempName = IsOld old new place
IsLeft change old new place job.NoMemory = IsOldOrNew change old new place

-- ---- what a crash may leave of a file

-- the file of the tree at the place, with its mode and its new bytes
pub record IsNewFile (change : Change) (tree : Tree) (place : NameList) (content : Content) : Type 0 where
  pub bytes : List ℕ
  pub mode : ℕ
  pub was : file_at tree place ≡ Some (bytes, mode)
  pub new_bytes : List ℕ
  pub count : ℕ
  pub new_bytes_are : change bytes new_bytes count
  pub content_is : content ≡ file new_bytes mode

-- the same, where the new bytes aren't its bytes
pub record IsChangedFile (change : Change) (tree : Tree) (place : NameList) (content : Content) : Type 0 where
  pub bytes : List ℕ
  pub mode : ℕ
  pub was : file_at tree place ≡ Some (bytes, mode)
  pub new_bytes : List ℕ
  pub count : ℕ
  pub new_bytes_are : change bytes new_bytes count
  pub differ : new_bytes ≢ bytes
  pub content_is : content ≡ file new_bytes mode
