use Rattle.std.proofs.Common.{inl, inr, sym, subst}
use Rattle.hir_program.specs.Scan.{IsRequiredOf}
use Rattle.hir_program.specs.declared.scan.required.Required.{Required}
use Rattle.hir_program.proofs.scan.required.Required.rarest_spots.Goals as goal
use Rattle.hir_program.proofs.scan.required.Required.rarest_spots.Goals.{in-Some, in_default}

pub loop-bit-preserved : goal.loop-bit-preserved
loop-bit-preserved c = elim c.match-new.branch [
  | in-Some w ↦
      let other : IsRequiredOf c.args.after.now c.args.start w.in-Some.required = w.in-Some.ensures in
      subst (λ (required : Required). IsRequiredOf c.args.after.now c.args.start required) (sym w.rarest-is)
      (elim w.rarer-rarest.ensures [
        | inl first ↦ subst (λ (required : Required). IsRequiredOf c.args.after.now c.args.start required) (sym first) c.loop-bit.invariant
        | inr second ↦ subst (λ (required : Required). IsRequiredOf c.args.after.now c.args.start required) (sym second) other
      ])
  | in_default w ↦ subst (λ (required : Required). IsRequiredOf c.args.after.now c.args.start required) (sym w.rarest-is) c.loop-bit.invariant
]
