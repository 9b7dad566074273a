use Rattle.std.proofs.Common.{ℕ, Some, subst}
use Rattle.hir_program.specs.Masks.{CoversBeside}
use Rattle.hir_program.proofs.scan.reach.DeadLemmas.{IsDead-beside}
use Rattle.hir_program.proofs.scan.asked.first_look.Goals as goal

pub returns-then-mask-eq0 : goal.returns-then-mask-eq0
returns-then-mask-eq0 c =
    IsDead-beside c.args.spots.now c.args.of.now c.in-Some.look 0
    (subst (λ (mask : ℕ). CoversBeside c.args.spots.now c.args.of.now (Some c.in-Some.look) mask 0) c.if-mask-eq0.true c.in_ok-mask.ensures)
