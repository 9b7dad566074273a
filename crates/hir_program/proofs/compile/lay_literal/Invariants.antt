use Rattle.std.proofs.Common.{drop}
use Rattle.hir_tree.specs.Core.{literal}
use Rattle.hir_program.specs.Laid.{Waits}
use Rattle.hir_program.proofs.compile.lay_literal.Given as goal

abbrev pub invariant-loop-i : goal.invariant-loop-i
invariant-loop-i l = Waits l.fn.out.items l.out.items l.next (literal l.bytes) (literal (drop l.i l.bytes))
