use Rattle.hir_program.specs.Scan.{IsRequiredOf}
use Rattle.hir_program.proofs.scan.required.Required.rarest_spots.Given as goal

-- it is a cut
abbrev pub invariant-loop-bit : goal.invariant-loop-bit
invariant-loop-bit l = IsRequiredOf l.after l.start l.rarest
