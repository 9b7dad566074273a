use Rattle.std.proofs.Common.{◌≤◌, ◌-◌, ◌^◌}
use Rattle.std.specs.Prelude.{IsTrue}
use Rattle.sd_io.specs.Tree.{NameList}
use Rattle.sd_io.specs.Disk.{SameTree}
use Rattle.sd_io.specs.Lists.{IsOpen, SameOtherLists, SameOpen}
use Rattle.journal.specs.Finding.{ListsFolder}
use Rattle.journal.proofs.FindingLemmas.{IsReadTo}
use Rattle.journal.proofs.finding.find_in.Given as goal

abbrev pub invariant-loop-entry : goal.invariant-loop-entry
invariant-loop-entry g l = record {
  is_open : IsOpen (g.D.Disk.state l.disk) l.list.number;
  others : SameOtherLists (g.D.Disk.state l.fn.disk) l.list.number (g.D.Disk.state l.disk);
  same_open : SameOpen (g.D.Disk.state l.fn.disk) (g.D.Disk.state l.disk);
  tree : SameTree (g.D.Disk.state l.fn.disk) (g.D.Disk.state l.disk);
  faults : (g.D.Disk.state l.fn.disk).faults ≤ (g.D.Disk.state l.disk).faults;
  later : (g.D.Disk.state l.fn.disk).listed ≤ (g.D.Disk.state l.disk).listed;
  read : IsTrue g.D.Disk.tells → (folder : NameList) → ListsFolder (g.D.Disk.state l.fn.disk) l.list.number folder
      → IsReadTo (g.D.Disk.state l.fn.disk).tree folder l.name l.list.number (g.D.Disk.state l.disk);
}

abbrev pub decreases-loop-entry : goal.decreases-loop-entry
decreases-loop-entry g l = 2 ^ 64 - (g.D.Disk.state l.disk).listed
