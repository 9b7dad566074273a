use Rattle.std.proofs.Common.{rules, ◌≡◌, subst, true, false, Some, Ok, Err, ◌∙◌, arith}
use Rattle.std.specs.Fn.{FnReturnsAt}
use Rattle.walkdir.specs.Filter.{ended, fails, meets, passes}
use Rattle.walkdir.proofs.filter.FilterEntryIterator.next.Goals as goal

pub returns-in-Err-clause-steps : goal.returns-in-Err-clause-steps
returns-in-Err-clause-steps g c =
    let is : c.next.result ≡ Some (Err c.in-Err.error) = c.in-Some.is ∙ (λ i. Some (c.in-Err.is i)) in
    (c.loop-item.invariant.same, c.loop-item.invariant.on _ _ (fails (subst (λ r. g.W.Iterator.next_gives c.loop-item.self.walk r c.next.new.self) is c.next.ensures.steps)))

pub returns-then-meets-clause-steps : goal.returns-then-meets-clause-steps
returns-then-meets-clause-steps g c =
    let is : c.next.result ≡ Some (Ok c.in-Ok.entry) = c.in-Some.is ∙ (λ i. Some (c.in-Ok.is i)) in (
      c.loop-item.invariant.same,
      c.loop-item.invariant.on _ _ (meets (subst (λ r. g.W.Iterator.next_gives c.loop-item.self.walk r c.next.new.self) is c.next.ensures.steps)
          (subst (λ p. FnReturnsAt g.P.Fn p c.in-Ok.entry true) c.loop-item.invariant.same
          (subst (λ b. FnReturnsAt g.P.Fn c.loop-item.self.predicate c.in-Ok.entry b) c.if-meets.true c.meets.ensures))),
    )

pub loop-item-preserved : goal.loop-item-preserved
loop-item-preserved g c =
    let is : c.next.result ≡ Some (Ok c.in-Ok.entry) = c.in-Some.is ∙ (λ i. Some (c.in-Ok.is i)) in
    let gives = subst (λ r. g.W.Iterator.next_gives c.loop-item.self.walk r c.next.new.self) is c.next.ensures.steps in
    record {
      can = search rules;
      ends = search rules;
      less =
          (let a = c.pass_over.ensures.not_more in
          let b = (c.in-Some.ensures.goes.on c.loop-item.invariant.ends).2 in
          let d = c.loop-item.invariant.less in
          omega (arith, a, b, d));
      same = search rules;
      on = λ answer new filters. c.loop-item.invariant.on answer new (passes gives
          (subst (λ p. FnReturnsAt g.P.Fn p c.in-Ok.entry false) c.loop-item.invariant.same
          (subst (λ b. FnReturnsAt g.P.Fn c.loop-item.self.predicate c.in-Ok.entry b) c.if-meets.false c.meets.ensures)) c.pass_over.ensures.over filters);
    }

pub returns-clause-steps : goal.returns-clause-steps
returns-clause-steps g c =
    (c.loop-item.invariant.same, c.loop-item.invariant.on _ _ (ended (subst (λ r. g.W.Iterator.next_gives c.loop-item.self.walk r c.next.new.self) c.in_default.is c.next.ensures.steps)))
