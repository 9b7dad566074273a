use Rattle.std.proofs.Common.{◌≡◌, ◌≤◌, Option}
use Rattle.std.specs.Fn.{FnReturnsAt}
use Rattle.std.specs.Iterator.{IsFinite, size}
use Rattle.walk_rest.specs.Plan.{Item}
use Rattle.walkdir.specs.Filter.{Filters}
use Rattle.walkdir.proofs.filter.FilterEntryIterator.next.Given as goal

abbrev pub invariant-loop-item : goal.invariant-loop-item
invariant-loop-item g l = record {
  can : g.W.Iterator.can_next l.self.walk;
  ends : IsFinite (g.W.Iterator.remaining l.self.walk);
  less : size (g.W.Iterator.remaining l.self.walk) ≤ size (g.W.Iterator.remaining l.fn.self.walk);
  same : l.self.predicate ≡ l.fn.self.predicate;
  on : (answer : Option Item) (new : _)
      → Filters g.W.Iterator.next_gives g.W.Walk.has_entered g.W.Walk.skips (FnReturnsAt g.P.Fn l.fn.self.predicate) l.self.walk answer new
      → Filters g.W.Iterator.next_gives g.W.Walk.has_entered g.W.Walk.skips (FnReturnsAt g.P.Fn l.fn.self.predicate) l.fn.self.walk answer new;
}

abbrev pub decreases-loop-item : goal.decreases-loop-item
decreases-loop-item g l = size (g.W.Iterator.remaining l.self.walk)
