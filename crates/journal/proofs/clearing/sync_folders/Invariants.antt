use Rattle.std.proofs.Common.{◌≤◌}
use Rattle.std.specs.Prelude.{IsTrue}
use Rattle.sd_io.specs.Disk.{SameLists}
use Rattle.journal.proofs.ClearingLemmas.{IsSyncedTo}
use Rattle.journal.proofs.clearing.sync_folders.Given as goal

abbrev pub invariant-loop-line : goal.invariant-loop-line
invariant-loop-line g l = record {
  never_falls : (g.D.Disk.state l.fn.disk).faults ≤ (g.D.Disk.state l.disk).faults;
  lists : SameLists (g.D.Disk.state l.fn.disk) (g.D.Disk.state l.disk);
  synced : IsTrue g.D.Disk.tells → IsSyncedTo l.fn.journal (g.D.Disk.state l.fn.disk) l.line-index (g.D.Disk.state l.disk);
}
