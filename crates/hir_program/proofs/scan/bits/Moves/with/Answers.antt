use Rattle.std.proofs.Common.{◌+◌, ◌*◌, ◌%◌, ◌^◌}
use Rattle.hir_program.proofs.scan.bits.MaskLemmas.{HasBit-or_left}
use Rattle.hir_program.proofs.scan.bits.MoveLemmas.{IsMoved-next, few_or}
use Rattle.hir_program.proofs.scan.bits.Moves.with.Goals as goal

pub returns-clause-on : goal.returns-clause-on
returns-clause-on c i has = HasBit-or_left c.args.self.on _ i has

pub returns-clause-stay : goal.returns-clause-stay
returns-clause-stay c i has = HasBit-or_left c.args.self.stay _ i has

pub returns-clause-moved : goal.returns-clause-moved
returns-clause-moved c even = IsMoved-next c.args.mask c.args.self.on c.args.self.stay c.args.bit c.requires c.if-stays-goes.false

pub returns-clause-few_on : goal.returns-clause-few_on
returns-clause-few_on c low = few_or c.args.self.on c.args.mask (1 * 2 ^ (c.args.bit + 1) % 2 ^ 64) low c.if-mask-ge-SURE.false

pub returns-clause-few_stay : goal.returns-clause-few_stay
returns-clause-few_stay c low = few_or c.args.self.stay c.args.mask (1 * 2 ^ c.args.bit % 2 ^ 64) low c.if-mask-ge-SURE.false
