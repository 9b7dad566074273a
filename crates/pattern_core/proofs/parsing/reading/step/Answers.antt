use Rattle.std.proofs.Common.{◌∙◌}
use Rattle.pattern_core.proofs.parsing.ReachLemmas.{bar_reaches}
use Rattle.pattern_core.proofs.parsing.TextLemmas.{read_at}
use Rattle.pattern_core.proofs.parsing.reading.step.Goals as goal

pub returns-in_ok-bar-in-124 : goal.returns-in_ok-bar-in-124
returns-in_ok-bar-in-124 c =
    bar_reaches c.args.limit c.args.text.now c.args.state c.in_ok-bar-in-124.field-0 c.requires.within
    (read_at c.args.text.now c.args.state.at c.index-text-state.result c.requires.within c.index-text-state.is ∙ c.in-124.is)
    c.in_ok-bar-in-124.ensures.is c.in_ok-bar-in-124.ensures.place
