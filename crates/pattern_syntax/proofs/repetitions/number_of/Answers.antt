use Rattle.std.proofs.Common.{◌≡◌, ◌<◌, ◌≤◌, length, drop, get_or, ◌*◌, ◌^◌, sym, ap, ◌∙◌, arith}
use Rattle.std.proofs.lemmas.List.{drop_all}
use Rattle.std.specs.Char.{digit_value}
use Rattle.pattern_syntax.proofs.repetitions.NumberLemmas.{too_large}
use Rattle.std.specs.Str.Parse.{digits_value_after}
use Rattle.pattern_syntax.proofs.repetitions.number_of.Goals as goal

pub returns-in_err-checked_mul : goal.returns-in_err-checked_mul
returns-in_err-checked_mul c =
    rw c.from_residual.ensures
    (too_large c.loop-digit.number _ c.args.digits.now c.loop-digit.digit-index 0 (omega arith) c.loop-digit.invariant.0
    (λ small. c.in_err-checked_mul.ensures (omega arith)))

pub returns-in_err-number : goal.returns-in_err-number
returns-in_err-number c =
    let high : c.in_ok-checked_mul.field-0 ≡ c.loop-digit.number * 10 = c.in_ok-checked_mul.ensures.1 in
    let spelt : c.in_ok-to_digit.field-0 ≡ digit_value c.digit-item.result = c.in_ok-to_digit.ensures.value.1 in
    let same : digit_value c.digit-item.result ≡ digit_value (get_or c.args.digits.now c.loop-digit.digit-index c.digit-item.result) =
    ap digit_value c.digit-item.is in
    rw c.from_residual-in_err-number.ensures
    (too_large c.loop-digit.number _ c.args.digits.now c.loop-digit.digit-index c.digit-item.result (omega arith) c.loop-digit.invariant.0
    (λ small. c.in_err-number.ensures (omega arith)))

pub returns : goal.returns
returns c =
    let end : length c.args.digits.now ≤ c.loop-digit.digit-index = omega arith in
    let all : digits_value_after 10 c.loop-digit.number (drop c.loop-digit.digit-index c.args.digits.now) ≡ c.loop-digit.number =
    ap (digits_value_after 10 c.loop-digit.number) (drop_all c.loop-digit.digit-index c.args.digits.now end) in
    let same : c.loop-digit.number ≡ digits_value_after 10 0 c.args.digits.now = sym all ∙ c.loop-digit.invariant.0 in
    let small : c.loop-digit.number < 2 ^ 32 = c.loop-digit.invariant.1 in
    ((omega arith), same)
