use Rattle.std.specs.Iterator.{IsFinite, size}
use Rattle.walk_tests.proofs.filters.text_leaving.Given as goal

abbrev pub invariant-loop-item : goal.invariant-loop-item
invariant-loop-item g l = record {
  can : g.W.Iterator.can_next l.walk;
  ends : IsFinite (g.W.Iterator.remaining l.walk);
}

abbrev pub decreases-loop-item : goal.decreases-loop-item
decreases-loop-item g l = size (g.W.Iterator.remaining l.walk)
