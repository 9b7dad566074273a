use Rattle.std.proofs.Common.{◌*◌, ◌%◌, ◌^◌}
use Rattle.hir_program.proofs.scan.bits.MoveLemmas.{IsPart-shifted, few_shifted}
use Rattle.hir_program.proofs.scan.bits.Moves.shifted.Goals as goal

pub returns-clause-moved : goal.returns-clause-moved
returns-clause-moved c i mask low has moved = IsPart-shifted c.args.live c.args.self.on c.args.self.stay i mask low has moved

pub returns-clause-few : goal.returns-clause-few
returns-clause-few c low small = few_shifted (c.args.live * 2 % 2 ^ 64) c.args.self.on c.args.live c.args.self.stay low small
