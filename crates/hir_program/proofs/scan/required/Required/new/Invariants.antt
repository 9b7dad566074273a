use Rattle.hir_program.specs.Masks.{IsPart}
use Rattle.hir_program.proofs.scan.required.Required.new.Given as goal

-- those of the start are among them
abbrev pub invariant-loop : goal.invariant-loop
invariant-loop l = IsPart l.start l.before
