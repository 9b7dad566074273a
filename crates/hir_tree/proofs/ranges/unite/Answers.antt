use Rattle.std.proofs.Common.{◌≡◌, OnOk, ◌<◌, ◌∷◌, ◌++◌, ℕ, length, take, drop, refl, ap, ◌∙◌, arith}
use Rattle.std.proofs.lemmas.List.Sums.{prefix_len-le-length}
use Rattle.std.proofs.lemmas.Result.{on_ok_weaker}
use Rattle.hir_tree.proofs.ranges.RangesLemmas.{absorbed, absorbed_next, absorbed_end, absorbed_stop, ends_before, put_united, united, united_apart, united_below, united_holds}
use Rattle.hir_tree.proofs.ranges.unite.Goals as goal
use Rattle.hir_tree.proofs.ranges.unite.Goals.{else-loop-last-test, then-loop-last-test+then-leaves_gap}

pub loop-last-init : goal.loop-last-init
loop-last-init c = (refl, omega arith, omega (arith, c.ranges_before-first.ensures, c.deref.ensures.len, prefix_len-le-length (ends_before c.args.start) c.deref.result.now))

pub loop-last-preserved : goal.loop-last-preserved
loop-last-preserved c =
    let within : c.loop-last.last < length c.args.ranges.now.items = omega (arith, c.loop-last-test.true, c.len.ensures) in (
      rw (c.min-low.ensures, c.max-high.ensures) (absorbed_next c.args.ranges.now.items _ c.loop-last.low c.loop-last.high _ _ c.index.result.now within (ap (λ (r : ℕ × ℕ). r.0) c.index.ensures) (ap (λ (r : ℕ × ℕ). r.1) c.index.ensures) _ c.leaves_gap.ensures c.if-leaves_gap.false
          ∙ c.loop-last.invariant.0),
      omega (arith, c.loop-last.invariant.1),
      omega (arith, within),
    )

-- what is put in place is what is united
whole : (c : goal.After-put_in_place)
    → take c.ranges_before-first.result c.args.ranges.now.items ++ (c.loop-last.low, c.loop-last.high) ∷ drop c.loop-last.last c.args.ranges.now.items
    ≡ united c.args.start c.args.end c.args.ranges.now.items
whole c =
    let xs = c.args.ranges.now.items in
    let stop : absorbed c.loop-last.low c.loop-last.high (drop c.loop-last.last xs) ≡ (c.loop-last.low, c.loop-last.high) ∷ drop c.loop-last.last xs =
    elim c.loop-last-test.branch [
      | else-loop-last-test w ↦ absorbed_end xs c.loop-last.last c.loop-last.low c.loop-last.high (omega (arith, w.loop-last-test.false, c.len.ensures))
      | then-loop-last-test+then-leaves_gap w ↦ absorbed_stop xs c.loop-last.last c.loop-last.low c.loop-last.high _ w.index.result.now (omega (arith, w.loop-last-test.true, c.len.ensures)) (ap (λ (r : ℕ × ℕ). r.0) w.index.ensures) _ w.leaves_gap.ensures w.if-leaves_gap.true
    ] in
    let count = rw c.deref.ensures.value at c.ranges_before-first.ensures in
    put_united xs c.args.start c.args.end c.ranges_before-first.result c.loop-last.last c.loop-last.low c.loop-last.high count c.loop-last.invariant.0 stop

made : (c : goal.After-put_in_place) → OnOk c.put_in_place.result (c.put_in_place.new.ranges.items ≡ united c.args.start c.args.end c.args.ranges.now.items)
made c = on_ok_weaker c.put_in_place.result (λ put. put ∙ whole c) c.put_in_place.ensures.put

pub returns-clause-apart : goal.returns-clause-apart
returns-clause-apart c = united_apart _ _ _ _ _ (made c) c.put_in_place.ensures.refused c.requires.order c.requires.sorted

pub returns-clause-below : goal.returns-clause-below
returns-clause-below c = united_below _ _ _ _ _ (made c) c.put_in_place.ensures.refused c.requires.order c.requires.sorted

pub returns-clause-united : goal.returns-clause-united
returns-clause-united c = on_ok_weaker c.put_in_place.result (λ is. united_holds _ _ _ _ is c.requires.order c.requires.sorted) (made c)
