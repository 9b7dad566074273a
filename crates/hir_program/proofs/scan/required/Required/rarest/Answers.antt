use Rattle.std.proofs.Common.{inl, inr, sym, subst}
use Rattle.hir_program.specs.Scan.{IsRequiredOf}
use Rattle.hir_program.specs.declared.scan.required.Required.{Required}
use Rattle.hir_program.proofs.scan.required.Required.rarest.Goals as goal

pub returns : goal.returns
returns c = elim c.rarer.ensures [
  | inl first ↦ subst (λ (required : Required). IsRequiredOf c.args.after.now c.args.start required) (sym first) c.in_ok-rarest.ensures
  | inr second ↦ subst (λ (required : Required). IsRequiredOf c.args.after.now c.args.start required) (sym second) c.in-Some.ensures
]
