use Rattle.std.proofs.Common.{sym, ◌∙◌}
use Rattle.pattern_syntax.proofs.looks.LookLemmas.{plain_at}
use Rattle.pattern_syntax.proofs.looks.read_plain_edge.Goals as goal

pub returns : goal.returns
returns c =
    plain_at c.args.flags c.args.text.now c.args.at c.args.letter c.by_words.result c.requires c.if-letter-ne98.false (sym c.ends_edge.ensures ∙ c.if-not-ends_edge.false)
    c.by_words.ensures
