use Rattle.std.proofs.Common.{sym, ◌∙◌, arith}
use Rattle.pattern_syntax.proofs.literals.LiteralLemmas.{no_set, one_set, two_set}
use Rattle.pattern_syntax.proofs.singles.SingleLemmas.{no_ends, one_end, both_ends}
use Rattle.pattern_syntax.proofs.singles.line_ends.Goals as goal

pub returns-then-flags : goal.returns-then-flags
returns-then-flags c = λ x. no_set c.empty.result.ranges.items c.empty.ensures x ∙ sym (no_ends c.args.flags x c.if-flags.true)

pub returns-then-flags-2 : goal.returns-then-flags-2
returns-then-flags-2 c = λ x.
    two_set c.in_ok-from_ranges.field-0 10 13 (omega arith) (omega arith) c.in_ok-from_ranges.ensures x ∙ sym (both_ends c.args.flags x c.if-flags.false c.if-flags-2.true)

pub returns : goal.returns
returns c = λ x.
    one_set c.in_ok-from_ranges-2.field-0 10 (omega arith) c.in_ok-from_ranges-2.ensures x ∙ sym (one_end c.args.flags x c.if-flags.false c.if-flags-2.false)
