use Rattle.std.proofs.Common.{◌≡◌, ◌+◌, ap, ◌∙◌, rules}
use Rattle.pattern_syntax.proofs.classes.StartLemmas.{started, byte_if}
use Rattle.pattern_syntax.proofs.classes.open_class.OpenClass.new.Goals as goal

pub returns : goal.returns
returns c h is =
    let many : c.in_ok-count.count ≡ c.args.head.dashes + c.from-bracket.result = search rules in
    started c.args.head h c.in_ok-ranges.ranges.items c.in_ok-count.count is c.in_ok-ranges.ensures
    (many ∙ ap (λ n. c.args.head.dashes + n) (c.from-bracket.ensures ∙ byte_if c.args.head.bracket))
