use Rattle.std.proofs.Common.{◌≡◌, drop}
use Rattle.hir_program.specs.Masks.{has_wide}
use Rattle.hir_program.proofs.scan.takes.has_wide.Given as goal

-- no range so far has one
abbrev pub invariant-loop-i : goal.invariant-loop-i
invariant-loop-i l = has_wide (drop l.i l.set) ≡ has_wide l.set
