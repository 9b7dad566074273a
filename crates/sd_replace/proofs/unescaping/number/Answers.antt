use Rattle.std.proofs.Common.{◌<◌, ◌*◌, arith}
use Rattle.sd_replace.proofs.unescaping.EscapeLemmas.{product_small}
use Rattle.sd_replace.proofs.unescaping.number.Goals as goal

pub overflow_mul-number : goal.overflow_mul-number
overflow_mul-number c =
    let small : c.loop-digit.number * c.args.radix < 65536 = product_small c.loop-digit.number c.args.radix c.loop-digit.digit-index c.requires.upper_bound (omega arith) c.loop-digit.invariant.small in
    omega arith

pub overflow_add-number : goal.overflow_add-number
overflow_add-number c =
    let small : c.loop-digit.number * c.args.radix < 65536 = product_small c.loop-digit.number c.args.radix c.loop-digit.digit-index c.requires.upper_bound (omega arith) c.loop-digit.invariant.small in
    omega (arith, c.in_ok-number.ensures.value)
