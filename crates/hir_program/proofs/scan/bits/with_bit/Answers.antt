use Rattle.hir_program.proofs.scan.bits.MaskLemmas.{HasBit-or_left, HasBit-set, HasBit-set_only}
use Rattle.hir_program.proofs.scan.bits.with_bit.Goals as goal

pub returns-clause-kept : goal.returns-clause-kept
returns-clause-kept c i has = HasBit-or_left c.args.mask _ i has

pub returns-clause-set : goal.returns-clause-set
returns-clause-set c = HasBit-set c.args.mask c.args.bit c.requires

pub returns-clause-only : goal.returns-clause-only
returns-clause-only c i has = HasBit-set_only c.args.mask c.args.bit i c.requires has
