use Rattle.std.proofs.Common.{◌≡◌, ◌+◌, ◌≤◌, ℕ, true, false, []}
use Rattle.sd_io.specs.Count.{HasRisen}
use Rattle.std.specs.Prelude.{IsTrue}
use Rattle.std.specs.declared.cmp.Ordering.{Ordering}
use Rattle.walk_rest.specs.declared.entry.DirEntry.{DirEntry}
use Rattle.walk_rest.specs.Rest.{Rest}
use Rattle.walk_steps.specs.Causes.{CountsFaults, FitsTree}
use Rattle.walk_steps.specs.Inside.{HasRest, levels_of}
use Rattle.walk_steps.specs.Listed.{GivesAtOnce, GivesListed, HasRoom, IsToListOnTop, entered_in}
use Rattle.walk_steps.specs.Sound.{IsSound, KeepsWalk, open_limit}
use Rattle.walk_steps.specs.Steps.{MovesTo}
use Rattle.walk_steps.specs.Work.{left_to_do}
use Rattle.walk_steps.proofs.next.next_item.Given as goal

abbrev pub invariant-loop-level : goal.invariant-loop-level
invariant-loop-level g l = record {
  sound : IsSound (g.D.Disk.state l.disk) (g.S.Order.sorts l.fn.inside.order) l.inside;
  keeps : KeepsWalk (g.D.Disk.state l.fn.disk) l.fn.inside (g.D.Disk.state l.disk) l.inside;
  less : left_to_do (g.D.Disk.state l.disk) l.inside ≤ left_to_do (g.D.Disk.state l.fn.disk) l.fn.inside;
  moved : IsTrue g.D.Disk.tells → (by : DirEntry → DirEntry → Ordering) → (rest : Rest) → g.S.Order.compares_by l.fn.inside.order by
      → HasRest (g.D.Disk.state l.fn.disk) (g.S.Order.sorts l.fn.inside.order) by l.fn.inside rest
      → MovesTo (g.D.Disk.state l.fn.disk) (g.S.Order.sorts l.fn.inside.order) by rest (g.D.Disk.state l.disk) l.inside;
  over : levels_of l.fn.inside ≡ [] → levels_of l.inside ≡ [];
  counted : FitsTree g.D.Disk.tells g.S.Order.compares_by (g.D.Disk.state l.fn.disk) (g.S.Order.sorts l.fn.inside.order) l.fn.inside
      → CountsFaults 0 (g.D.Disk.state l.fn.disk) (levels_of l.fn.inside) (g.D.Disk.state l.disk) (levels_of l.inside);
  each : GivesListed 0 (g.D.Disk.state l.fn.disk) (levels_of l.fn.inside) (g.D.Disk.state l.disk) (levels_of l.inside);
  once : g.S.Order.sorts l.fn.inside.order ≡ false → GivesAtOnce l.fn.inside.options → entered_in (levels_of l.fn.inside) ≤ open_limit l.fn.inside.options
      → ((g.D.Disk.state l.disk).listed ≡ (g.D.Disk.state l.fn.disk).listed) × HasRoom (open_limit l.fn.inside.options) l.fn.inside.options.max_depth l.inside.stack.items l.inside.top;
  whole : IsTrue g.D.Disk.tells → (by : DirEntry → DirEntry → Ordering) → (count : ℕ) → g.S.Order.compares_by l.fn.inside.order by → g.S.Order.sorts l.fn.inside.order ≡ true → GivesAtOnce l.fn.inside.options
      → IsToListOnTop (g.D.Disk.state l.fn.disk).tree l.fn.inside.options.max_depth l.fn.inside.top count → ¬ HasRisen (g.D.Disk.state l.fn.disk).faults (g.D.Disk.state l.disk).faults
      → (left : ℕ) × IsToListOnTop (g.D.Disk.state l.disk).tree l.fn.inside.options.max_depth l.inside.top left × ((g.D.Disk.state l.disk).listed + left ≡ (g.D.Disk.state l.fn.disk).listed + count);
}

abbrev pub decreases-loop-level : goal.decreases-loop-level
decreases-loop-level g l = left_to_do (g.D.Disk.state l.disk) l.inside
