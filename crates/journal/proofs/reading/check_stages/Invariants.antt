use Rattle.std.proofs.Common.{◌≤◌, take}
use Rattle.std.specs.Prelude.{IsTrue}
use Rattle.sd_io.specs.Disk.{SameTree, SameLists}
use Rattle.journal.specs.Reading.{AreStagesThere}
use Rattle.journal.proofs.reading.check_stages.Given as goal

abbrev pub invariant-loop-line : goal.invariant-loop-line
invariant-loop-line g l = record {
  never_falls : (g.D.Disk.state l.fn.disk).faults ≤ (g.D.Disk.state l.disk).faults;
  lists : SameLists (g.D.Disk.state l.fn.disk) (g.D.Disk.state l.disk);
  tree : IsTrue g.D.Disk.tells → SameTree (g.D.Disk.state l.fn.disk) (g.D.Disk.state l.disk);
  there : IsTrue g.D.Disk.tells → AreStagesThere (g.D.Disk.state l.fn.disk).tree (take l.line-index l.fn.journal);
}
