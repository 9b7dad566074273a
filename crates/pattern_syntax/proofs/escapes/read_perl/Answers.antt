use Rattle.std.proofs.Common.{sym, ◌∙◌}
use Rattle.pattern_syntax.proofs.escapes.EscapeLemmas.{perl_at}
use Rattle.pattern_syntax.proofs.escapes.read_perl.Goals as goal

pub returns : goal.returns
returns c =
    perl_at c.args.flags c.args.text.now c.args.at c.args.letter c.in_ok-set.set c.requires (sym c.is_perl_letter.ensures ∙ c.if-not-is_perl_letter.false) c.in_ok-set.ensures
