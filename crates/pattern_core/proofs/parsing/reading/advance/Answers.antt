use Rattle.std.proofs.Common.{arith}
use Rattle.pattern_core.proofs.parsing.ReachLemmas.{end_reached, passed_steps, at_token}
use Rattle.pattern_core.proofs.parsing.reading.advance.Goals as goal

pub returns-then-state-text : goal.returns-then-state-text
returns-then-state-text c =
    end_reached c.args.limit c.args.text.now c.args.state c.behind_blanks.result c.requires.within (omega arith) c.behind_blanks.ensures.seen

pub step-requires-clause-clear : goal.step-requires-clause-clear
step-requires-clause-clear c = at_token c.args.state.flags c.args.text.now c.args.state.at c.behind_blanks.result c.behind_blanks.ensures.seen

pub returns : goal.returns
returns c =
    passed_steps c.args.limit c.args.text.now c.args.state c.behind_blanks.result c.step.result c.requires.within c.behind_blanks.ensures.within
    c.behind_blanks.ensures.seen c.step.ensures
