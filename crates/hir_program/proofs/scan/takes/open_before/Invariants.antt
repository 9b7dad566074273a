use Rattle.std.proofs.Common.{◌≡◌, vec_len}
use Rattle.hir_program.specs.Masks.{AreOpen}
use Rattle.hir_program.proofs.scan.takes.open_before.Given as goal

-- the bytes so far
abbrev pub invariant-loop-byte : goal.invariant-loop-byte
invariant-loop-byte l = record { count : vec_len l.masks ≡ l.byte; says : AreOpen l.takes l.wide l.look l.masks.items }
