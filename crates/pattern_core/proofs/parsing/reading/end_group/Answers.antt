use Rattle.pattern_core.proofs.parsing.ReachLemmas.{left_reaches, left_stuck}
use Rattle.pattern_core.proofs.parsing.reading.end_group.Goals as goal

pub returns-in_default : goal.returns-in_default
returns-in_default c = left_stuck c.args.limit c.args.text.now c.args.state c.requires.within c.requires.is (λ before is. rw c.in_default.is at (c.in_ok-state.ensures.is before is))

pub returns : goal.returns
returns c =
    left_reaches c.args.limit c.args.text.now c.args.state c.in-Some.state c.in_ok-read_repeated.field-0 c.in-Some.piece c.requires.within c.requires.is
    (λ before is. rw c.in-Some.is at (c.in_ok-state.ensures.is before is)) (rw c.in-Some.is at c.in_ok-state.ensures.place) c.in_ok-read_repeated.ensures
