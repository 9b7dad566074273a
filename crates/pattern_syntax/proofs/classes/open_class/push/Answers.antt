use Rattle.pattern_syntax.proofs.classes.UnionLemmas.{push_held}
use Rattle.pattern_syntax.proofs.classes.open_class.push.Goals as goal

pub returns : goal.returns
returns c d =
    push_held c.args.ranges.now.items c.push.new.self.items c.args.c c.from.result c.from-2.result d c.in_ok-push.ensures.items c.from.ensures c.from-2.ensures c.ranges.c.0
