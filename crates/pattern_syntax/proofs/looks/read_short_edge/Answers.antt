use Rattle.std.proofs.Common.{sym}
use Rattle.pattern_syntax.proofs.looks.LookLemmas.{short_at}
use Rattle.pattern_syntax.proofs.looks.read_short_edge.Goals as goal

pub returns : goal.returns
returns c = short_at c.args.flags c.args.text.now c.args.at c.args.letter c.in-Some.look c.requires (sym c.in-Some.ensures)
