use Rattle.std.proofs.Common.{◌≡◌, vec_len}
use Rattle.hir_program.specs.Masks.{AreShifts}
use Rattle.hir_program.proofs.scan.shifts.shifts.Given as goal

-- the bytes so far
abbrev pub invariant-loop-byte : goal.invariant-loop-byte
invariant-loop-byte l = record { count : vec_len l.shifts ≡ l.byte; says : AreShifts l.takes l.fn.moves l.start l.wide l.shifts.items }
