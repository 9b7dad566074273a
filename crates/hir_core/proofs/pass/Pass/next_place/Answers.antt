use Rattle.std.proofs.Common.{◌+◌, length, IfSome, refl, subst, arith}
use Rattle.hir_program.specs.Scan.{IsFilterOf}
use Rattle.hir_core.specs.Pass.{best_in}
use Rattle.hir_core.proofs.pass.SkipLemmas.{answer-skip}
use Rattle.hir_core.proofs.pass.Pass.next_place.Goals as goal

-- src/pass.rt:154:5
pub returns-in-None-clause-answer : goal.returns-in-None-clause-answer
returns-in-None-clause-answer c = λ spots groups filters.
    let is_filter = subst (λ o. IfSome o (λ f. IsFilterOf spots f.now)) c.in-Some.is filters in
    let idle = c.if-not-is_idle.ensures refl in
    answer-skip c.args.text.now spots groups c.args.place (length c.args.text.now + 1) c.args.self.now.threads (best_in c.args.self.now.best) idle.0 idle.1
    (omega (arith, c.requires.within)) (omega arith) (c.in-None.ensures.none spots is_filter)

-- src/pass.rt:154:5
pub returns-in-Some-next-clause-answer : goal.returns-in-Some-next-clause-answer
returns-in-Some-next-clause-answer c = λ spots groups filters.
    let is_filter = subst (λ o. IfSome o (λ f. IsFilterOf spots f.now)) c.in-Some.is filters in
    let idle = c.if-not-is_idle.ensures refl in
    let order = c.in-Some-next.ensures.order in
    answer-skip c.args.text.now spots groups c.args.place c.in-Some-next.candidate.from c.args.self.now.threads (best_in c.args.self.now.best) idle.0 idle.1
    order.0 (omega (arith, order.1, order.2)) (c.in-Some-next.ensures.some spots is_filter)
