use Rattle.std.proofs.Common.{◌≡◌, None, length}
use Rattle.sd_io.specs.Disk.{SameTree}
use Rattle.walk_steps.specs.Inside.{SameWalk, levels_of}
use Rattle.walk_steps.specs.Sound.{AreSound, SameOthers, StaysWithin}
use Rattle.walk_steps.proofs.leave.give_up.Given as goal

abbrev pub invariant-loop-level : goal.invariant-loop-level
invariant-loop-level g l = record {
  top : l.inside.top ≡ None;
  sound : AreSound (g.D.Disk.state l.disk) l.inside.stack.items;
  same : SameWalk l.fn.inside l.inside;
  within : StaysWithin 0 (g.D.Disk.state l.fn.disk) (levels_of l.fn.inside) (g.D.Disk.state l.disk) l.inside.stack.items;
  others : SameOthers (g.D.Disk.state l.fn.disk) (levels_of l.fn.inside) (g.D.Disk.state l.disk) l.inside.stack.items;
  listed : (g.D.Disk.state l.disk).listed ≡ (g.D.Disk.state l.fn.disk).listed;
  tree : SameTree (g.D.Disk.state l.fn.disk) (g.D.Disk.state l.disk);
  faults : (g.D.Disk.state l.disk).faults ≡ (g.D.Disk.state l.fn.disk).faults;
}

abbrev pub decreases-loop-level : goal.decreases-loop-level
decreases-loop-level g l = length l.inside.stack.items
