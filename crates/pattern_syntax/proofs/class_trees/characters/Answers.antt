use Rattle.std.specs.Char.{IsScalar}
use Rattle.std.proofs.Common.{refl}
use Rattle.pattern_syntax.proofs.RangesLemmas.{shared_next, shared_end}
use Rattle.pattern_syntax.proofs.class_trees.characters.Goals as goal

pub loop-i-preserved : goal.loop-i-preserved
loop-i-preserved c =
    shared_next IsScalar c.loop-i.chars c.add_characters.new.chars c.deref-ranges.result.now c.loop-i.i _ _ c.loop-i-test.true refl c.in_ok-add_characters.ensures c.loop-i.invariant

pub returns : goal.returns
returns c = shared_end IsScalar c.loop-i.chars c.deref-ranges.result.now c.args.class.now.ranges.items c.loop-i.i c.loop-i-test.false c.deref-ranges.ensures.value c.loop-i.invariant
