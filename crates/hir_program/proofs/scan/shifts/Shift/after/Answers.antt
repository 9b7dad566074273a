use Rattle.std.proofs.Common.{ℕ, ◌+◌, ◌*◌, ◌%◌, ◌^◌, bit_and, bit_or}
use Rattle.hir_program.proofs.scan.bits.MaskLemmas.{HasBit-and, HasBit-or_left, HasBit-or_right}
use Rattle.hir_program.proofs.scan.bits.MoveLemmas.{HasBit-shifted, few_shifted}
use Rattle.hir_program.proofs.scan.shifts.Shift.after.Goals as goal

pub returns-clause-on : goal.returns-clause-on
returns-clause-on c i low has goes =
    let moved : ℕ = c.args.state * 2 ^ 1 % 2 ^ 64 in
    let kept : ℕ = bit_and (bit_or c.args.state c.args.self.begun) c.args.self.stay in
    HasBit-or_left (bit_and moved c.args.self.on) kept (i + 1) (HasBit-and moved c.args.self.on (i + 1) (HasBit-shifted c.args.state i low has) goes)

pub returns-clause-stay : goal.returns-clause-stay
returns-clause-stay c i has stays =
    let moved : ℕ = c.args.state * 2 ^ 1 % 2 ^ 64 in
    let more : ℕ = bit_or c.args.state c.args.self.begun in
    HasBit-or_right (bit_and moved c.args.self.on) (bit_and more c.args.self.stay) i
    (HasBit-and more c.args.self.stay i (HasBit-or_left c.args.state c.args.self.begun i has) stays)

pub returns-clause-begun : goal.returns-clause-begun
returns-clause-begun c i has stays =
    let moved : ℕ = c.args.state * 2 ^ 1 % 2 ^ 64 in
    let more : ℕ = bit_or c.args.state c.args.self.begun in
    HasBit-or_right (bit_and moved c.args.self.on) (bit_and more c.args.self.stay) i
    (HasBit-and more c.args.self.stay i (HasBit-or_right c.args.state c.args.self.begun i has) stays)

pub returns-clause-few : goal.returns-clause-few
returns-clause-few c low small =
    few_shifted (c.args.state * 2 ^ 1 % 2 ^ 64) c.args.self.on (bit_or c.args.state c.args.self.begun) c.args.self.stay low small
