use Rattle.std.proofs.Common.{◌-◌, length}
use Rattle.hir_program.specs.Scan.{Looked}
use Rattle.hir_program.proofs.scan.Scan.next_by_shifts.Given as goal

-- no run begins before `from`, nor from there on, unless a spot of the state gives something at the place
abbrev pub invariant-loop-so_far : goal.invariant-loop-so_far
invariant-loop-so_far l = Looked l.text l.self l.at l.so_far

abbrev pub decreases-loop-so_far : goal.decreases-loop-so_far
decreases-loop-so_far l = length l.text - l.so_far.place
