use Rattle.std.proofs.Common.{◌≡◌, ◌≤◌, map, take}
use Rattle.std.specs.Prelude.{IsTrue, All}
use Rattle.sd_io.specs.Disk.{SameTree, SameLists}
use Rattle.planned_files.specs.Planned.{path_of}
use Rattle.planned_files.specs.Checked.{IsRight}
use Rattle.planned_files.proofs.applying.check_lines.Given as goal

-- the lines so far are right, and nothing changed
abbrev pub invariant-loop-line : goal.invariant-loop-line
invariant-loop-line g l = record {
  tree : SameTree (g.D.Disk.state l.fn.disk) (g.D.Disk.state l.disk);
  lists : SameLists (g.D.Disk.state l.fn.disk) (g.D.Disk.state l.disk);
  never_falls : (g.D.Disk.state l.fn.disk).faults ≤ (g.D.Disk.state l.disk).faults;
  paths : l.paths.items ≡ map path_of (take l.line-index l.lines);
  right : IsTrue g.D.Disk.tells → All (IsRight (g.R.Replaces.change l.replacer) (g.D.Disk.state l.fn.disk).tree) (take l.line-index l.lines);
}
