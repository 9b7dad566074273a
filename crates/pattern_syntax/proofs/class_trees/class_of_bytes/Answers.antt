use Rattle.pattern_syntax.proofs.RangesLemmas.{bytes_are}
use Rattle.pattern_syntax.proofs.class_trees.class_of_bytes.Goals as goal

pub returns : goal.returns
returns c = bytes_are _ c.args.class.now.ranges.items c.in_ok-bytes.ensures
