use Rattle.std.proofs.Common.{◌<◌, ◌^◌}
use Rattle.hir_program.specs.Masks.{AreMoved}
use Rattle.hir_program.proofs.scan.bits.moves_in.Given as goal

-- the spots so far
abbrev pub invariant-loop-bit : goal.invariant-loop-bit
invariant-loop-bit l = record { moved : AreMoved l.after l.bit l.moves; few_on : l.moves.on < 2 ^ 62; few_stay : l.moves.stay < 2 ^ 62 }
