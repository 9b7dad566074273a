use Rattle.std.proofs.Common.{arith}
use Rattle.hir_program.proofs.size.SizeLemmas.{literal_numbers}
use Rattle.hir_program.proofs.size.literal_size.Goals as goal

pub returns : goal.returns
returns c = omega (arith, literal_numbers c.args.bytes.now)
