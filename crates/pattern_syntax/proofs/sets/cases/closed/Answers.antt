use Rattle.std.proofs.Common.{◌∙◌}
use Rattle.std.proofs.lemmas.Result.{IfOk-weaker}
use Rattle.regex_class.specs.Ranges.{HasExactly, in_ranges}
use Rattle.pattern_syntax.specs.Sets.{closed, with_alike}
use Rattle.pattern_syntax.specs.Readers.{IsSet}
use Rattle.pattern_syntax.proofs.sets.CaseLemmas.{alike_ends, closed_alike}
use Rattle.pattern_syntax.proofs.sets.MemberLemmas.{class_ends, same_members}
use Rattle.pattern_syntax.proofs.sets.cases.closed.Goals as goal

pub returns-then-flags : goal.returns-then-flags
returns-then-flags c =
    let own = in_ranges c.args.set.ranges.items in
    IfOk-weaker _ (λ set. HasExactly set.ranges.items (with_alike own)) (λ set. IsSet set (closed c.args.flags own))
    (λ set has x.
    same_members set (with_alike own) has (alike_ends own (class_ends c.args.set)) x
    ∙ closed_alike c.args.flags own c.if-not-flags.false c.if-flags.true x)
    c.folded.ensures
