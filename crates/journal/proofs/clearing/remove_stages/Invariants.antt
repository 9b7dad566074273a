use Rattle.std.proofs.Common.{◌≤◌}
use Rattle.std.specs.Prelude.{IsTrue}
use Rattle.sd_io.specs.Disk.{SameLists}
use Rattle.journal.specs.Clearing.{HaveFolders, KeepsOrRemoves}
use Rattle.journal.proofs.ClearingLemmas.{IsClearedTo}
use Rattle.journal.proofs.clearing.remove_stages.Given as goal

abbrev pub invariant-loop-line : goal.invariant-loop-line
invariant-loop-line g l = record {
  never_falls : (g.D.Disk.state l.fn.disk).faults ≤ (g.D.Disk.state l.disk).faults;
  lists : SameLists (g.D.Disk.state l.fn.disk) (g.D.Disk.state l.disk);
  tree : IsTrue g.D.Disk.tells → KeepsOrRemoves (g.D.Disk.state l.fn.disk).tree (g.D.Disk.state l.disk).tree;
  cleared : IsTrue g.D.Disk.tells → HaveFolders (g.D.Disk.state l.fn.disk).tree l.fn.journal
      → IsClearedTo l.fn.journal (g.D.Disk.state l.fn.disk) l.line-index (g.D.Disk.state l.disk);
}
