use Rattle.pattern_syntax.proofs.RangesLemmas.{chars_are}
use Rattle.pattern_syntax.proofs.class_trees.class_of_characters.Goals as goal

pub returns : goal.returns
returns c = chars_are _ c.args.class.now.ranges.items c.in_ok-characters.ensures
