use Rattle.pattern_syntax.proofs.classes.KeepLemmas.{nest_keeps}
use Rattle.pattern_syntax.proofs.classes.steps.nest.Goals as goal

pub returns : goal.returns
returns c =
    let read = c.read_head-behind.ensures in
    nest_keeps c.args.flags c.args.text.now c.args.reading _ read.head c.in_ok-push.ensures.items (c.in_ok-new.ensures read.head read.is)
    c.requires.within c.requires.opens c.requires.nameless read.fine read.written read.goes_on
