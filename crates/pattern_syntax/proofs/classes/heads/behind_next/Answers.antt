use Rattle.pattern_syntax.proofs.classes.KeepLemmas.{read_at}
use Rattle.std.proofs.Common.{◌∙◌}
use Rattle.pattern_syntax.proofs.classes.ReadLemmas.{next_at}
use Rattle.pattern_syntax.proofs.classes.heads.behind_next.Goals as goal

pub returns-then-text-place : goal.returns-then-text-place
returns-then-text-place c =
    next_at c.args.flags c.args.text.now c.args.at c.behind_blanks-place.result c.args.c c.requires c.if-place-text.true c.behind_blanks-place.ensures.seen
    (read_at c.args.text.now c.behind_blanks-place.result c.index-text-place.result c.if-place-text.true c.index-text-place.is ∙ c.if-text-place.true)
