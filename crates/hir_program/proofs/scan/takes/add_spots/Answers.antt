use Rattle.std.proofs.Common.{ℕ, List, get_or, subst, arith}
use Rattle.hir_program.specs.Masks.{HasBit}
use Rattle.hir_program.proofs.scan.takes.SetLemmas.{HasBit-zeros}
use Rattle.hir_program.proofs.scan.takes.add_spots.Goals as goal

pub loop-i-init : goal.loop-i-init
loop-i-init c = record {
  has = λ i b low. absurd (omega arith);
  only = λ i b has. absurd (HasBit-zeros 256 b i (subst (λ (masks : List ℕ). HasBit (get_or masks b 0) i) c.requires.none has));
}
