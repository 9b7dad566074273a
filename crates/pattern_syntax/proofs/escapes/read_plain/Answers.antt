use Rattle.std.proofs.Common.{sym, ◌∙◌}
use Rattle.pattern_syntax.proofs.escapes.EscapeLemmas.{escaped_at, control_at}
use Rattle.pattern_syntax.proofs.escapes.read_plain.Goals as goal

pub returns-then-is_escapable : goal.returns-then-is_escapable
returns-then-is_escapable c = λ k. escaped_at k c.args.text.now c.args.at c.args.letter c.requires (sym c.is_escapable.ensures ∙ c.if-is_escapable.true)

pub returns : goal.returns
returns c = λ k. control_at k c.args.text.now c.args.at c.args.letter c.in_ok-c.c c.requires (sym c.in_ok-c.ensures)
