-- All that the rewriting of one file promises of a disk that tells its tree.
use Rattle.std.specs.Prelude.{◌≤◌, ℕ, true, List, Result, IfOk, IfErr, OnOk}
use Rattle.sd_io.specs.Disk.{DiskState}
use Rattle.sd_io.specs.Crashes.{LeavesSince, IsDurable}
use Rattle.sd_change.specs.Change.{Change}
use Rattle.sd_course.specs.Course.{course}
use Rattle.file_rewrite.specs.OneFile.{RewritesFile, LeavesFile, HasFileCause, IsNewAt, IsChangedAt, IsFirstFreeBy}
use Rattle.file_rewrite.specs.declared.rewrite.Rewrite.{Rewrite}
use Rattle.file_rewrite.specs.declared.fault.JobFault.{JobFault}

-- how a call on one file ended
abbrev pub OneEnd : Type 0
OneEnd = Result Rewrite JobFault

-- What the rewriting of one file does to a disk that tells its tree.
pub record ReplacesOne (change : Change) (path : List ℕ) (result : OneEnd) (old new : DiskState) : Type 0 where
  pub rewritten : IfOk result (λ rewrite. RewritesFile change path rewrite old new)
  pub left : IfErr result (λ fault. LeavesFile change path fault old new)
  pub cause : IfErr result (λ fault. HasFileCause (course true old new) path fault)
  pub crash : LeavesSince (IsNewAt change old.tree path) (IsFirstFreeBy old.tree path) old new
  pub durable : OnOk result (IsDurable (IsChangedAt change old.tree path) old new)
  pub never_falls : old.faults ≤ new.faults
