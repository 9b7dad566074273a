use Rattle.std.proofs.Common.{refl, sym, ◌∙◌}
use Rattle.pattern_syntax.proofs.classes.StepLemmas.{single_keeps}
use Rattle.pattern_syntax.proofs.classes.steps.single.Goals as goal

pub returns : goal.returns
returns c =
    single_keeps c.args.flags c.args.text.now c.args.reading _ c.args.c c.requires.is c.requires.begins (sym c.makes_range.ensures ∙ c.if-makes_range.false)
    refl c.in_ok-add_character.ensures
