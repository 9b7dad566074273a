use Rattle.std.proofs.Common.{◌≡◌, ℕ, subst, arith}
use Rattle.hir_program.specs.Masks.{IsDead}
use Rattle.hir_program.proofs.scan.Scan.may_start.Goals as goal

pub returns : goal.returns
returns c fails spots filter q low high =
    subst (λ (p : ℕ). IsDead c.args.text.now spots p 0) (let here : c.args.place ≡ q = omega arith in here)
    (filter.start c.args.text.now c.args.place (c.is_open.ensures fails spots filter))
