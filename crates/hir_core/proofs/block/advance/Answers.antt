use Rattle.std.proofs.Common.{length, arith}
use Rattle.hir_core.proofs.block.SizeLemmas.{size-fits}
use Rattle.hir_core.proofs.block.advance.Goals as goal

pub move_on-requires : goal.move_on-requires
move_on-requires c = size-fits c.args.trail.now.at (length c.args.text.now) (omega arith) _ c.taken_size-size.ensures.within
