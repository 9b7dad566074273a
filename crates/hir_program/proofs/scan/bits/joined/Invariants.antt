use Rattle.hir_program.proofs.scan.bits.MaskLemmas.{Joins}
use Rattle.hir_program.proofs.scan.bits.joined.Given as goal

-- the rows so far were joined
abbrev pub invariant-loop-row : goal.invariant-loop-row
invariant-loop-row l = Joins l.rows l.live l.row l.rest l.joined
