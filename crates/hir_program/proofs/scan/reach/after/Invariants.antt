use Rattle.std.proofs.Common.{◌≡◌, length}
use Rattle.hir_program.proofs.scan.reach.DeadLemmas.{AfterHas}
use Rattle.hir_program.proofs.scan.reach.after.Given as goal

-- the rows cover what comes after the spots so far
abbrev pub invariant-loop-i : goal.invariant-loop-i
invariant-loop-i l = record { room : length l.after.items ≡ 2048; covers : AfterHas l.spots l.of l.look l.after.items l.i }
