use Rattle.std.proofs.Common.{ℕ, bit_and, arith}
use Rattle.hir_program.proofs.scan.bits.MaskLemmas.{HasBit-or_left, HasBit-or_right}
use Rattle.hir_program.proofs.scan.shifts.ShiftLemmas.{IsShift-made}
use Rattle.hir_program.proofs.scan.shifts.Shift.new.Goals as goal

pub returns-then-byte-lt128 : goal.returns-then-byte-lt128
returns-then-byte-lt128 c =
    IsShift-made c.args.byte c.args.takes c.args.moves c.args.start c.args.wide c.shifted-begun.result (bit_and c.args.moves.odd c.args.takes) c.requires.few_on
    c.requires.few_stay (c.shifted-begun.ensures.few c.requires.few_on c.requires.few_stay) c.shifted-begun.ensures.moved (λ i has. has) (λ high. absurd (omega arith))

pub returns-else-byte-lt128 : goal.returns-else-byte-lt128
returns-else-byte-lt128 c =
    let odd : ℕ = bit_and c.args.moves.odd c.args.takes in
    IsShift-made c.args.byte c.args.takes c.args.moves c.args.start c.args.wide c.shifted-begun.result _ c.requires.few_on
    c.requires.few_stay (c.shifted-begun.ensures.few c.requires.few_on c.requires.few_stay) c.shifted-begun.ensures.moved
    (λ i has. HasBit-or_left odd c.args.wide i has) (λ high i has. HasBit-or_right odd c.args.wide i has)
