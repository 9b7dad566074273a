-- What the rewriting of listed files does, however it ends.
use Rattle.std.specs.Prelude.{ℕ, List, Contains, Result, IfOk, IfErr, OnOk, ⊤}
use Rattle.sd_io.specs.Tree.{NameList, Tree}
use Rattle.sd_io.specs.Disk.{DiskState}
use Rattle.sd_io.specs.Crashes.{LeavesSince, IsDurable}
use Rattle.sd_change.specs.Change.{Change}
use Rattle.many_files.specs.Files.{IsFreeBeside}
use Rattle.many_files.specs.Rewritten.{LeavesEach, IsNewOne, IsChangedOne}
use Rattle.many_files.specs.Counts.{RewritesFiles}
use Rattle.many_files.specs.Jobs.{WantMemory}
use Rattle.many_files.specs.Turns.{FailsFiles}
use Rattle.many_files.specs.declared.report.Report.{Report}
use Rattle.many_files.specs.declared.fault.FilesFault.{FilesFault}
use Rattle.many_files.specs.declared.fault.FilesFault.TheVariants as fault

-- what a refusal leaves of them
abbrev pub FailsListed : Change → List (List ℕ) → List NameList → DiskState → DiskState → FilesFault → Type 0
FailsListed change paths places old new (fault.Failed jobs) = FailsFiles change paths places jobs old new
FailsListed change paths places old new fault.NoMemory = ⊤

-- The files at these places are rewritten and counted, or some failed. However it ends each is old or new, and nothing else stands otherwise but reserved
-- names; a crash leaves each of them so at any moment; and after `Ok` their new bytes alone.
pub record RewritesListed (change : Change) (paths : List (List ℕ)) (places : List NameList) (result : Result Report FilesFault) (old new : DiskState) : Type 0 where
  pub rewritten : IfOk result (λ report. RewritesFiles change places report old new)
  pub failed : IfErr result (FailsListed change paths places old new)
  pub however : LeavesEach (Contains places) change old.tree new.tree
  pub crash : LeavesSince (IsNewOne (Contains places) change old.tree) (IsFreeBeside (Contains places) old.tree) old new
  pub durable : OnOk result (IsDurable (IsChangedOne (Contains places) change old.tree) old new)

-- want of memory is the one reason left
abbrev pub IsForMemory : Tree → FilesFault → Type 0
IsForMemory tree (fault.Failed jobs) = WantMemory tree jobs
IsForMemory tree fault.NoMemory = ⊤
