use Rattle.std.proofs.Common.{sym, ◌∙◌}
use Rattle.pattern_syntax.proofs.looks.LookLemmas.{stands_on, stands_of}
use Rattle.pattern_syntax.proofs.looks.stands_at.Goals as goal

pub returns-clause-stands : goal.returns-clause-stands
returns-clause-stands c = λ stands. stands_on c.args.text.now c.args.name.now c.args.at (sym c.starts_with.ensures.value ∙ stands)

pub returns-clause-others : goal.returns-clause-others
returns-clause-others c = λ t here. c.starts_with.ensures.value ∙ stands_of c.args.text.now c.args.name.now t c.args.at here
