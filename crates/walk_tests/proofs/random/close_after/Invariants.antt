use Rattle.std.specs.Iterator.{IsFinite}
use Rattle.walk_tests.proofs.random.close_after.Given as goal

abbrev pub invariant-loop-taken : goal.invariant-loop-taken
invariant-loop-taken g l = record {
  can : g.W.Iterator.can_next l.walk;
  ends : IsFinite (g.W.Iterator.remaining l.walk);
}
