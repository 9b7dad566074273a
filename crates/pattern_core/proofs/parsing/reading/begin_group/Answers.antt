use Rattle.pattern_core.proofs.parsing.ReachLemmas.{opening_reaches, opening_stuck}
use Rattle.pattern_core.proofs.parsing.reading.begin_group.Goals as goal

pub returns-in_default : goal.returns-in_default
returns-in_default c =
    opening_stuck c.args.limit c.args.text.now c.args.state c.requires.within c.requires.is c.requires.clear (rw c.in_default.is at c.in_ok-opening.ensures)

pub returns : goal.returns
returns c =
    opening_reaches c.args.limit c.args.text.now c.args.state c.in_ok-opened.field-0 c.in-Some.opening c.in-Some.next (rw c.in-Some.is at c.in_ok-opening.ensures)
    c.in_ok-opened.ensures.is c.in_ok-opened.ensures.place
