use Rattle.std.specs.Prelude.{IsTrue}
use Rattle.std.proofs.Common.{◌+◌, ◌<◌, ◌≤◌, List, map}
use Rattle.walk_rest.specs.declared.entry.DirEntry.{DirEntry}
use Rattle.walk_rest.specs.Plan.{Comparison}
use Rattle.walk_rest.specs.Rest.{Rest}
use Rattle.walk_steps.specs.Causes.{CountsFaults}
use Rattle.walk_steps.specs.Listed.{waits_in}
use Rattle.walk_steps.specs.Inside.{HasRest, levels_of}
use Rattle.walk_steps.specs.Sound.{IsSound, KeepsWalk}
use Rattle.walk_steps.specs.Work.{left_to_do}
use Rattle.walkdir.specs.Collect.{entry_item}
use Rattle.walkdir.specs.Gather.{FitsPlain, Gathered, IsPlainRest, ListsWhole}
use Rattle.walkdir.proofs.gather.GatherLemmas.{IsOn}
use Rattle.walkdir.proofs.gather.gather_from.Given as goal

abbrev pub invariant-loop-entry : goal.invariant-loop-entry
invariant-loop-entry g l = record {
  sound : IsSound (g.D.Disk.state l.disk) (g.S.Order.sorts l.inside.order) l.inside;
  order : g.S.Order.can_compare l.inside.order;
  keeps : KeepsWalk (g.D.Disk.state l.fn.disk) l.fn.inside (g.D.Disk.state l.disk) l.inside;
  few : l.below < l.cap;
  gives : IsTrue g.D.Disk.tells → (by : Comparison) (start : Rest) → g.S.Order.compares_by l.fn.inside.order by
      → HasRest (g.D.Disk.state l.fn.disk) (g.S.Order.sorts l.fn.inside.order) by l.fn.inside start → IsPlainRest start
      → IsOn (g.P.Prunes.leaves_out l.prune) (g.G.Gathers.gathers g.D.Disk.tells (g.D.Disk.state l.fn.disk).tree) (g.S.Order.sorts l.fn.inside.order) by start (g.D.Disk.state l.fn.disk) l.fn.gatherer
      (ListsWhole g.D.Disk.tells g.S.Order.compares_by (g.D.Disk.state l.fn.disk) (g.S.Order.sorts l.fn.inside.order) l.fn.inside) (g.D.Disk.state l.disk) l.inside l.gatherer l.below;
  some : (entries : List DirEntry) × Gathered (g.G.Gathers.gathers g.D.Disk.tells (g.D.Disk.state l.fn.disk).tree) l.fn.gatherer (map entry_item entries) l.gatherer;
  each : l.below + waits_in (levels_of l.inside) + (g.D.Disk.state l.fn.disk).listed ≤ waits_in (levels_of l.fn.inside) + (g.D.Disk.state l.disk).listed;
  counts : FitsPlain g.D.Disk.tells g.S.Order.compares_by (g.D.Disk.state l.fn.disk) (g.S.Order.sorts l.fn.inside.order) l.fn.inside
      → CountsFaults 0 (g.D.Disk.state l.fn.disk) (levels_of l.fn.inside) (g.D.Disk.state l.disk) (levels_of l.inside);
}

abbrev pub decreases-loop-entry : goal.decreases-loop-entry
decreases-loop-entry g l = left_to_do (g.D.Disk.state l.disk) l.inside
