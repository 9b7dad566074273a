use Rattle.hir_program.proofs.byte_run.ByteRunLemmas.{TellsFirst}
use Rattle.hir_program.proofs.byte_run.held_of_eight.Given as goal

abbrev pub invariant-loop-i : goal.invariant-loop-i
invariant-loop-i l = TellsFirst l.i l.table l.eight l.held
