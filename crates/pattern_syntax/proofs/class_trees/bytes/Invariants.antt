use Rattle.std.specs.Prelude.{◌<◌}
use Rattle.pattern_syntax.proofs.RangesLemmas.{AreShared}
use Rattle.pattern_syntax.proofs.class_trees.bytes.Given as goal

abbrev pub invariant-loop-i : goal.invariant-loop-i
invariant-loop-i l = AreShared (λ b. b < 256) l.bytes l.ranges l.i
