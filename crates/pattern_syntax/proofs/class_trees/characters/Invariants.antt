use Rattle.std.specs.Char.{IsScalar}
use Rattle.pattern_syntax.proofs.RangesLemmas.{AreShared}
use Rattle.pattern_syntax.proofs.class_trees.characters.Given as goal

abbrev pub invariant-loop-i : goal.invariant-loop-i
invariant-loop-i l = AreShared IsScalar l.chars l.ranges l.i
