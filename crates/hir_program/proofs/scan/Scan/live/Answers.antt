use Rattle.std.proofs.Common.{inl}
use Rattle.hir_program.proofs.scan.bits.MaskLemmas.{HasBit-or_left, HasBit-or_right}
use Rattle.hir_program.proofs.scan.Scan.live.Goals as goal

pub returns-clause-kept : goal.returns-clause-kept
returns-clause-kept c i has = HasBit-or_left c.args.state c.args.self.now.start i has

pub returns-clause-begun : goal.returns-clause-begun
returns-clause-begun c = inl (λ i has. HasBit-or_right c.args.state c.args.self.now.start i has)
