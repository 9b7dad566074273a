use Rattle.std.specs.Prelude.{IsTrue}
use Rattle.std.proofs.Common.{◌≡◌, ◌<◌, ◌≤◌}
use Rattle.sd_io.specs.Disk.{SameTree}
use Rattle.walk_rest.specs.declared.error.Error.{Error}
use Rattle.walk_rest.specs.Plan.{Comparison}
use Rattle.walk_rest.specs.Rest.{Rest}
use Rattle.walk_steps.specs.Causes.{CountsFaults, FitsTree}
use Rattle.walk_steps.specs.Inside.{HasRest, SameWalk, levels_of}
use Rattle.walk_steps.specs.Listed.{GivesListed}
use Rattle.walk_steps.specs.Sound.{IsSound, SameOthers, StaysWithin, open_limit}
use Rattle.walk_steps.specs.Work.{left_to_do}
use Rattle.walkdir.specs.Collect.{IsFirstError, below_root}
use Rattle.walkdir.proofs.collect.CollectLemmas.{IsOn}
use Rattle.walkdir.proofs.collect.collect_from.Given as goal

abbrev pub invariant-loop-item : goal.invariant-loop-item
invariant-loop-item g l = record {
  sound : IsSound (g.D.Disk.state l.disk) (g.S.Order.sorts l.inside.order) l.inside;
  order : g.S.Order.can_compare l.inside.order;
  same : SameWalk l.fn.inside l.inside;
  count : below_root l.entries.items ≡ l.below;
  few : l.below < l.cap;
  each : GivesListed l.below (g.D.Disk.state l.fn.disk) (levels_of l.fn.inside) (g.D.Disk.state l.disk) (levels_of l.inside);
  gives : IsTrue g.D.Disk.tells → (by : Comparison) (start : Rest) → g.S.Order.compares_by l.fn.inside.order by
      → HasRest (g.D.Disk.state l.fn.disk) (g.S.Order.sorts l.fn.inside.order) by l.fn.inside start
      → IsOn (g.S.Order.sorts l.fn.inside.order) by start (g.D.Disk.state l.disk) l.inside l.entries.items;
  counts : FitsTree g.D.Disk.tells g.S.Order.compares_by (g.D.Disk.state l.fn.disk) (g.S.Order.sorts l.fn.inside.order) l.fn.inside
      → CountsFaults 0 (g.D.Disk.state l.fn.disk) (levels_of l.fn.inside) (g.D.Disk.state l.disk) (levels_of l.inside);
  first : (failed : Error) → IsFirstError g.D.Disk.tells g.S.Order.sorts g.S.Order.compares_by (g.D.Disk.state l.disk) l.inside failed
      → IsFirstError g.D.Disk.tells g.S.Order.sorts g.S.Order.compares_by (g.D.Disk.state l.fn.disk) l.fn.inside failed;
  others : SameOthers (g.D.Disk.state l.fn.disk) (levels_of l.fn.inside) (g.D.Disk.state l.disk) (levels_of l.inside);
  within : StaysWithin (open_limit l.fn.inside.options) (g.D.Disk.state l.fn.disk) (levels_of l.fn.inside) (g.D.Disk.state l.disk) (levels_of l.inside);
  tree : SameTree (g.D.Disk.state l.fn.disk) (g.D.Disk.state l.disk);
  faults : (g.D.Disk.state l.fn.disk).faults ≤ (g.D.Disk.state l.disk).faults;
}

abbrev pub decreases-loop-item : goal.decreases-loop-item
decreases-loop-item g l = left_to_do (g.D.Disk.state l.disk) l.inside
