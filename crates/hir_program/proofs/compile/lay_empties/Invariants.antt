use Rattle.hir_program.specs.Laid.{LaysEmpties}
use Rattle.hir_program.proofs.compile.lay_empties.Given as goal

abbrev pub invariant-loop-i : goal.invariant-loop-i
invariant-loop-i l = LaysEmpties l._i l.fn.out.items l.out.items l.next
