use Rattle.std.proofs.Common.{arith}
use Rattle.hir_program.proofs.scan.bits.MaskLemmas.{HasBit-ends}
use Rattle.hir_program.proofs.scan.Scan.open_at.Goals as goal

pub returns-then-place-text : goal.returns-then-place-text
returns-then-place-text c = record {
  taken = λ within. absurd (omega arith);
  beyond = λ within. absurd (omega arith);
  sure = HasBit-ends.0;
  ends = λ unset. absurd (unset HasBit-ends.1);
}
