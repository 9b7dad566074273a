use Rattle.std.proofs.Common.{◌+◌, ◌*◌, drop, ap, ◌∙◌}
use Rattle.std.specs.Char.{digit_value}
use Rattle.pattern_syntax.proofs.codes.CodeLemmas.{number_on, too_great}
use Rattle.pattern_syntax.proofs.codes.character_of.Goals as goal

pub returns-then-number-gt-LAST-clause-none : goal.returns-then-number-gt-LAST-clause-none
returns-then-number-gt-LAST-clause-none c =
    let digits = c.args.digits.now in
    let i = c.loop-digit.digit-index in
    let before = c.loop-digit.number in
    let value = c.in_ok-number.ensures.value.1 ∙ ap digit_value c.digit-item.is in
    too_great digits (drop (i + 1) digits) (before * 16 + c.in_ok-number.field-0)
    (number_on digits i c.digit-item.result before (before * 16 + c.in_ok-number.field-0) c.loop-digit-test.true (ap (λ z. before * 16 + z) value) c.loop-digit.invariant.0)
    c.if-number-gt-LAST.true
