-- One file gets given bytes, for good.
use Rattle.std.specs.Prelude.{◌≡◌, ◌⊎◌, ℕ, true, List, Some, ⊤}
use Rattle.sd_io.specs.Tree.{NameList, Content, Tree, SameBut, node_at}
use Rattle.sd_io.specs.Paths.{reached}
use Rattle.sd_io.specs.Disk.{DiskState, SameTree}
use Rattle.sd_course.specs.Course.{HasRisenBy}
use Rattle.file_exchange.specs.Exchange.{Exchanges, LeavesBytes}
use Rattle.file_exchange.specs.Crash as exchange_crash
use Rattle.file_exchange.specs.Crash.{IsPutForGood}
use Rattle.file_rewrite.specs.declared.fault.JobFault.{JobFault}
use Rattle.file_rewrite.specs.declared.fault.JobFault.TheVariants as job

-- The path led to a regular file, which has its mode and these bytes; every other place is as before. A crash leaves the file by its own outcomes
-- alone, and all else as one before could have left it.
pub record PutsFile (path bytes : List ℕ) (old new : DiskState) : Type 0 where
  pub place : NameList
  pub leads : reached old.tree path true ≡ Some place
  pub exchanged : Exchanges old.tree place bytes new.tree
  pub for_good : IsPutForGood place old new

-- after this fault the file is old
abbrev pub IsBeforeMove : JobFault → Type 0
IsBeforeMove (job.File fault) = ⊤
IsBeforeMove (job.TempfilePersist fault) = ⊥
IsBeforeMove job.InvalidPath = ⊤
IsBeforeMove job.TempName = ⊤
IsBeforeMove job.NoMemory = ⊥

-- The file that the path leads to is old, or new after a refused move or for want of memory. At most one reserved name of its folder, the first that was
-- free, may still be taken: only where the file is old, and its removal was refused as well.
pub record LeavesPut (path bytes : List ℕ) (fault : JobFault) (old new : DiskState) : Type 0 where
  pub place : NameList
  pub leads : reached old.tree path true ≡ Some place
  pub left : LeavesBytes old.tree place bytes new.tree
  pub is_old : IsBeforeMove fault → node_at new.tree place ≡ node_at old.tree place
  pub two_refusals : (fault ≡ job.NoMemory) ⊎ SameBut place old.tree new.tree ⊎ HasRisenBy 2 old.faults new.faults

-- nothing changed, or a file is left so
abbrev pub LeavesPutFile : List ℕ → List ℕ → JobFault → DiskState → DiskState → Type 0
LeavesPutFile path bytes fault old new = SameTree old new ⊎ LeavesPut path bytes fault old new

-- the file that the path leads to, with its mode and these bytes
abbrev pub IsPutAt : List ℕ → Tree → List ℕ → NameList → Content → Type 0
IsPutAt bytes tree path q content = (reached tree path true ≡ Some q) × exchange_crash.IsNewFile tree q bytes q content
