use Rattle.std.proofs.Common.{◌≡◌, ◌≤◌, ◌*◌, ◌^◌, length, map}
use Rattle.std.specs.Prelude.{IsTrue}
use Rattle.sd_io.specs.Disk.{SameTree, SameLists}
use Rattle.sd_plan.specs.Plan.{replaced_in}
use Rattle.planned_files.specs.Planned.{PlansFiles, path_of}
use Rattle.planned_files.proofs.planning.plan_files.Given as goal

-- the files so far have their lines, and nothing changed
abbrev pub invariant-loop-path : goal.invariant-loop-path
invariant-loop-path g l = record {
  tree : SameTree (g.D.Disk.state l.fn.disk) (g.D.Disk.state l.disk);
  lists : SameLists (g.D.Disk.state l.fn.disk) (g.D.Disk.state l.disk);
  never_falls : (g.D.Disk.state l.fn.disk).faults ≤ (g.D.Disk.state l.disk).faults;
  paths : map path_of l.plan ≡ l.yielded;
  few : replaced_in l.plan ≤ length l.yielded * 2 ^ 64;
  planned : IsTrue g.D.Disk.tells → PlansFiles (g.R.Replaces.change l.replacer) (g.D.Disk.state l.fn.disk).tree l.yielded l.plan;
}
