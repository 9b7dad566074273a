use Rattle.std.proofs.Common.{◌≤◌}
use Rattle.std.specs.Prelude.{IsTrue}
use Rattle.sd_io.specs.Disk.{SameLists}
use Rattle.change_phases.specs.Between.{Work}
use Rattle.change_phases.specs.Phases.{placing}
use Rattle.journal.specs.Keeping.{IsSettledIn}
use Rattle.journal.specs.Placing.{ChangesFiles}
use Rattle.journal.proofs.PlacingLemmas.{IsPlacedTo}
use Rattle.journal.proofs.placing.place_files.Given as goal

abbrev pub invariant-loop-line : goal.invariant-loop-line
invariant-loop-line g l = record {
  never_falls : (g.D.Disk.state l.fn.disk).faults ≤ (g.D.Disk.state l.disk).faults;
  lists : SameLists (g.D.Disk.state l.fn.disk) (g.D.Disk.state l.disk);
  tree : IsTrue g.D.Disk.tells → ChangesFiles l.fn.journal (g.D.Disk.state l.fn.disk).tree (g.D.Disk.state l.disk).tree;
  placed : IsTrue g.D.Disk.tells → (work : Work) → IsSettledIn placing work l.fn.journal (g.D.Disk.state l.fn.disk)
      → IsPlacedTo work l.fn.journal (g.D.Disk.state l.fn.disk) l.line-index (g.D.Disk.state l.disk);
}
