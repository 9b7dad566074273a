use Rattle.hir_program.specs.Loops.{SaysWhatIsRunOver}
use Rattle.hir_program.proofs.loops.row_of.Given as goal

abbrev pub invariant-loop-byte : goal.invariant-loop-byte
invariant-loop-byte l = SaysWhatIsRunOver l.spots l.ways l.row
