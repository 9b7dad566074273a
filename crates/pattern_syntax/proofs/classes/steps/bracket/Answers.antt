use Rattle.std.proofs.Common.{refl}
use Rattle.pattern_syntax.proofs.classes.StepLemmas.{named_keeps}
use Rattle.pattern_syntax.proofs.classes.steps.bracket.Goals as goal

pub returns : goal.returns
returns c =
    named_keeps c.args.flags c.args.text.now c.args.reading _ c.in-Some.set (rw c.in-Some.is at c.in_ok-set.ensures) c.requires.within c.requires.opens
    refl c.in_ok-add_set.ensures
