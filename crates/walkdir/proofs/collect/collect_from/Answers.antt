use Rattle.std.proofs.Common.{◌≡◌, Option, Some, Ok, Err, inr, subst, ◌∙◌, ap, arith, true, false}
use Rattle.std.proofs.lemmas.Bool.{lt-ltb}
use Rattle.walk_rest.specs.declared.error.Error.TheVariants as error
use Rattle.walk_rest.specs.declared.options.Options.{Options}
use Rattle.walk_rest.specs.Plan.{Item}
use Rattle.walk_steps.specs.Inside.{chain_of, levels_of}
use Rattle.walk_steps.specs.Listed.{GivesListed, gives_below}
use Rattle.walkdir.specs.Collect.{WhyNotCollected, at_once, below_root, later}
use Rattle.walk_steps.specs.Promises.{GivesNext}
use Rattle.walkdir.specs.Steps.{still_compares, still_sound}
use Rattle.walkdir.proofs.WalkLemmas.{others_next, within_next}
use Rattle.walkdir.proofs.collect.CollectLemmas.{StepsBy, StepsOrEnds, not_less, below_snoc, counts_below, collect_more, collect_caps, collect_all, counts_step, fails_as, memory_no_loop, no_loop}
use Rattle.walkdir.proofs.collect.collect_from.Goals as goal
use Rattle.walkdir.proofs.collect.collect_from.Goals.{then-entry-gt0+else-below-cap, else-entry-gt0}

pub returns-in_err-entry-clause-within : goal.returns-in_err-entry-clause-within
returns-in_err-entry-clause-within g c =
    within_next (g.D.Disk.state c.args.disk.now) (g.D.Disk.state c.loop-item.disk) (g.D.Disk.state c.next_item.new.disk) c.args.inside.now c.loop-item.inside c.next_item.new.inside
    c.loop-item.invariant.same c.loop-item.invariant.within c.next_item.ensures.gives.within

pub returns-then-below-cap-clause-within : goal.returns-then-below-cap-clause-within
returns-then-below-cap-clause-within g c =
    within_next (g.D.Disk.state c.args.disk.now) (g.D.Disk.state c.loop-item.disk) (g.D.Disk.state c.next_item.new.disk) c.args.inside.now c.loop-item.inside c.next_item.new.inside
    c.loop-item.invariant.same c.loop-item.invariant.within c.next_item.ensures.gives.within

pub returns-in_err-push-clause-within : goal.returns-in_err-push-clause-within
returns-in_err-push-clause-within g c =
    within_next (g.D.Disk.state c.args.disk.now) (g.D.Disk.state c.loop-item.disk) (g.D.Disk.state c.next_item.new.disk) c.args.inside.now c.loop-item.inside c.next_item.new.inside
    c.loop-item.invariant.same c.loop-item.invariant.within c.next_item.ensures.gives.within

pub returns-clause-within : goal.returns-clause-within
returns-clause-within g c =
    within_next (g.D.Disk.state c.args.disk.now) (g.D.Disk.state c.loop-item.disk) (g.D.Disk.state c.next_item.new.disk) c.args.inside.now c.loop-item.inside c.next_item.new.inside
    c.loop-item.invariant.same c.loop-item.invariant.within c.next_item.ensures.gives.within

pub returns-then-below-cap-clause-failed : goal.returns-then-below-cap-clause-failed
returns-then-below-cap-clause-failed g c = λ tells by rest compares has.
    let s = g.D.Disk.state c.loop-item.disk in
    let new = g.D.Disk.state c.next_item.new.disk in
    let sorts = g.S.Order.sorts c.args.inside.now.order in
    let o = c.loop-item.invariant.gives tells by rest compares has in
    let step = subst (StepsBy g.S.Order.sorts g.S.Order.compares_by s c.loop-item.inside c.next_item.result new c.next_item.new.inside) c.loop-item.invariant.same.order (c.next_item.ensures.gives.step tells) in
    let is : c.next_item.result ≡ Some (Ok c.in_ok-entry.entry) = c.in-Some.is ∙ ap (λ (item : Item). Some item) c.in_ok-entry.was in
    let snoc = below_snoc c.loop-item.entries.items c.in_ok-entry.entry true (lt-ltb _ _ c.if-entry-gt0.true) in
    let count = c.loop-item.invariant.count in
    let last = c.if-below-cap.true in
    collect_caps sorts by rest s new c.loop-item.inside c.next_item.new.inside c.loop-item.entries.items c.in_ok-entry.entry c.args.cap (omega (arith, snoc, count, last)) o
    (subst (λ (answer : Option Item). StepsOrEnds sorts by s o.rest answer new c.next_item.new.inside) is (step by o.rest compares o.has_rest))

pub returns-then-below-cap-clause-capped : goal.returns-then-below-cap-clause-capped
returns-then-below-cap-clause-capped g c = λ failed.
    let s = g.D.Disk.state c.loop-item.disk in
    let new = g.D.Disk.state c.next_item.new.disk in
    let is : c.next_item.result ≡ Some (Ok c.in_ok-entry.entry) = c.in-Some.is ∙ ap (λ (item : Item). Some item) c.in_ok-entry.was in
    let G : Option Item → Type 0 = λ a. GivesListed (gives_below a) s (levels_of c.loop-item.inside) new (levels_of c.next_item.new.inside) in
    let more = subst G is c.next_item.ensures.gives.listed_each in
    let so_far = c.loop-item.invariant.each in
    let one = counts_below c.in_ok-entry.entry c.if-entry-gt0.true in
    let last = c.if-below-cap.true in
    omega (arith, more, so_far, one, last)

pub returns-clause-all : goal.returns-clause-all
returns-clause-all g c = λ tells by rest compares has.
    let s = g.D.Disk.state c.loop-item.disk in
    let new = g.D.Disk.state c.next_item.new.disk in
    let sorts = g.S.Order.sorts c.args.inside.now.order in
    let o = c.loop-item.invariant.gives tells by rest compares has in
    let step = subst (StepsBy g.S.Order.sorts g.S.Order.compares_by s c.loop-item.inside c.next_item.result new c.next_item.new.inside) c.loop-item.invariant.same.order (c.next_item.ensures.gives.step tells) in
    collect_all sorts by rest s new c.loop-item.inside c.next_item.new.inside c.loop-item.entries.items o
    (subst (λ (answer : Option Item). StepsOrEnds sorts by s o.rest answer new c.next_item.new.inside) c.in_default.is (step by o.rest compares o.has_rest))

pub loop-item-preserved : goal.loop-item-preserved
loop-item-preserved g c =
    let s = g.D.Disk.state c.loop-item.disk in
    let new = g.D.Disk.state c.next_item.new.disk in
    let inv = c.loop-item.invariant in
    let did = c.next_item.ensures.gives in
    record {
      sound = still_sound g.S.Order.sorts new c.loop-item.inside c.next_item.new.inside did.same did.sound;
      order = still_compares g.S.Order.can_compare c.loop-item.inside c.next_item.new.inside did.same inv.order;
      same = record { options = did.same.options ∙ inv.same.options; order = did.same.order ∙ inv.same.order; root = did.same.root ∙ inv.same.root };
      count =
          (let n = inv.count in
          let items = ap below_root c.in_ok-push.ensures.items in
          elim c.if-entry-gt0.branch [
            | then-entry-gt0+else-below-cap w ↦ (let s = below_snoc c.loop-item.entries.items c.in_ok-entry.entry true (lt-ltb _ _ w.if-entry-gt0.true) in let b = w.below-is in omega (arith, n, items, s, b))
            | else-entry-gt0 w ↦ (let s = below_snoc c.loop-item.entries.items c.in_ok-entry.entry false (not_less _ _ w.if-entry-gt0.false) in let b = w.below-is in omega (arith, n, items, s, b))
          ]);
      few =
          (let n = inv.few in
          elim c.if-entry-gt0.branch [
            | then-entry-gt0+else-below-cap w ↦ (let d = w.if-below-cap.false in let b = w.below-is in omega (arith, n, d, b))
            | else-entry-gt0 w ↦ (let b = w.below-is in omega (arith, n, b))
          ]);
      each =
          (let is : c.next_item.result ≡ Some (Ok c.in_ok-entry.entry) = c.in-Some.is ∙ ap (λ (item : Item). Some item) c.in_ok-entry.was in
          let G : Option Item → Type 0 = λ a. GivesListed (gives_below a) s (levels_of c.loop-item.inside) new (levels_of c.next_item.new.inside) in
          let more = subst G is did.listed_each in
          let so_far = inv.each in
          elim c.if-entry-gt0.branch [
            | then-entry-gt0+else-below-cap w ↦ (let one = counts_below c.in_ok-entry.entry w.if-entry-gt0.true in let b = w.below-is in omega (arith, more, so_far, one, b))
            | else-entry-gt0 w ↦ (let b = w.below-is in omega (arith, more, so_far, b))
          ]);
      gives = λ tells by start compares has.
          (let sorts = g.S.Order.sorts c.args.inside.now.order in
          let o = inv.gives tells by start compares has in
          let step = subst (StepsBy g.S.Order.sorts g.S.Order.compares_by s c.loop-item.inside c.next_item.result new c.next_item.new.inside) inv.same.order (did.step tells) in
          let is : c.next_item.result ≡ Some (Ok c.in_ok-entry.entry) = c.in-Some.is ∙ ap (λ (item : Item). Some item) c.in_ok-entry.was in
          collect_more sorts by start s new c.loop-item.inside c.next_item.new.inside c.loop-item.entries.items _ c.in_ok-entry.entry c.in_ok-push.ensures.items o
          (subst (λ (answer : Option Item). StepsOrEnds sorts by s o.rest answer new c.next_item.new.inside) is (step by o.rest compares o.has_rest)));
      counts = λ fits.
          (let is : c.next_item.result ≡ Some (Ok c.in_ok-entry.entry) = c.in-Some.is ∙ ap (λ (item : Item). Some item) c.in_ok-entry.was in
          counts_step g.D.Disk.tells g.S.Order.sorts g.S.Order.compares_by (g.D.Disk.state c.args.disk.now) s new c.args.inside.now c.loop-item.inside c.next_item.new.inside
          c.loop-item.entries.items c.next_item.result _ inv.same inv.gives inv.counts did.counted did.faults is fits);
      first = λ failed rest.
          (let is : c.next_item.result ≡ Some (Ok c.in_ok-entry.entry) = c.in-Some.is ∙ ap (λ (item : Item). Some item) c.in_ok-entry.was in
          let N : Option Item → Type 0 = λ a. GivesNext g.D.Disk.tells (g.S.Order.sorts c.loop-item.inside.order) (g.S.Order.compares_by c.loop-item.inside.order) s c.loop-item.inside a new c.next_item.new.inside in
          inv.first failed (later (subst N is did) rest));
      others = others_next (g.D.Disk.state c.args.disk.now) s new (levels_of c.args.inside.now) (levels_of c.loop-item.inside) (levels_of c.next_item.new.inside) inv.others did.others;
      within =
          within_next (g.D.Disk.state c.args.disk.now) s new c.args.inside.now c.loop-item.inside c.next_item.new.inside inv.same inv.within did.within;
      tree = record { tree = did.tree.tree ∙ inv.tree.tree; clock = did.tree.clock ∙ inv.tree.clock; outcomes = did.tree.outcomes ∙ inv.tree.outcomes };
      faults = (let a = inv.faults in let b = did.faults in omega (arith, a, b));
    }

pub returns-in_err-entry-clause-others : goal.returns-in_err-entry-clause-others
returns-in_err-entry-clause-others g c =
    others_next (g.D.Disk.state c.args.disk.now) (g.D.Disk.state c.loop-item.disk) (g.D.Disk.state c.next_item.new.disk) (levels_of c.args.inside.now)
    (levels_of c.loop-item.inside) (levels_of c.next_item.new.inside) c.loop-item.invariant.others c.next_item.ensures.gives.others

pub returns-then-below-cap-clause-others : goal.returns-then-below-cap-clause-others
returns-then-below-cap-clause-others g c =
    others_next (g.D.Disk.state c.args.disk.now) (g.D.Disk.state c.loop-item.disk) (g.D.Disk.state c.next_item.new.disk) (levels_of c.args.inside.now)
    (levels_of c.loop-item.inside) (levels_of c.next_item.new.inside) c.loop-item.invariant.others c.next_item.ensures.gives.others

pub returns-in_err-push-clause-others : goal.returns-in_err-push-clause-others
returns-in_err-push-clause-others g c =
    others_next (g.D.Disk.state c.args.disk.now) (g.D.Disk.state c.loop-item.disk) (g.D.Disk.state c.next_item.new.disk) (levels_of c.args.inside.now)
    (levels_of c.loop-item.inside) (levels_of c.next_item.new.inside) c.loop-item.invariant.others c.next_item.ensures.gives.others

pub returns-clause-others : goal.returns-clause-others
returns-clause-others g c =
    others_next (g.D.Disk.state c.args.disk.now) (g.D.Disk.state c.loop-item.disk) (g.D.Disk.state c.next_item.new.disk) (levels_of c.args.inside.now)
    (levels_of c.loop-item.inside) (levels_of c.next_item.new.inside) c.loop-item.invariant.others c.next_item.ensures.gives.others

pub returns-then-below-cap-clause-counted : goal.returns-then-below-cap-clause-counted
returns-then-below-cap-clause-counted g c = λ fits.
    let is : c.next_item.result ≡ Some (Ok c.in_ok-entry.entry) = c.in-Some.is ∙ ap (λ (item : Item). Some item) c.in_ok-entry.was in
    counts_step g.D.Disk.tells g.S.Order.sorts g.S.Order.compares_by (g.D.Disk.state c.args.disk.now) (g.D.Disk.state c.loop-item.disk) (g.D.Disk.state c.next_item.new.disk)
    c.args.inside.now c.loop-item.inside c.next_item.new.inside c.loop-item.entries.items c.next_item.result _
    c.loop-item.invariant.same c.loop-item.invariant.gives c.loop-item.invariant.counts c.next_item.ensures.gives.counted c.next_item.ensures.gives.faults is fits

pub returns-in_err-entry-clause-counted : goal.returns-in_err-entry-clause-counted
returns-in_err-entry-clause-counted g c = λ fits.
    let is : c.next_item.result ≡ Some (Err c.in_err-entry.field-0.0) = c.in-Some.is ∙ ap (λ (item : Item). Some item) c.in_err-entry.was in
    fails_as _ c.from_residual.result c.in_err-entry.field-0.0 c.from_residual.ensures.1
    (counts_step g.D.Disk.tells g.S.Order.sorts g.S.Order.compares_by (g.D.Disk.state c.args.disk.now) (g.D.Disk.state c.loop-item.disk) (g.D.Disk.state c.next_item.new.disk)
    c.args.inside.now c.loop-item.inside c.next_item.new.inside c.loop-item.entries.items c.next_item.result _
    c.loop-item.invariant.same c.loop-item.invariant.gives c.loop-item.invariant.counts c.next_item.ensures.gives.counted c.next_item.ensures.gives.faults is fits)

pub returns-in_err-push-clause-counted : goal.returns-in_err-push-clause-counted
returns-in_err-push-clause-counted g c = λ fits.
    let is : c.next_item.result ≡ Some (Ok c.in_ok-entry.entry) = c.in-Some.is ∙ ap (λ (item : Item). Some item) c.in_ok-entry.was in
    fails_as _ c.from_residual-in_err-push.result error.NoMemory c.from_residual-in_err-push.ensures.1
    (counts_step g.D.Disk.tells g.S.Order.sorts g.S.Order.compares_by (g.D.Disk.state c.args.disk.now) (g.D.Disk.state c.loop-item.disk) (g.D.Disk.state c.next_item.new.disk)
    c.args.inside.now c.loop-item.inside c.next_item.new.inside c.loop-item.entries.items c.next_item.result _
    c.loop-item.invariant.same c.loop-item.invariant.gives c.loop-item.invariant.counts c.next_item.ensures.gives.counted c.next_item.ensures.gives.faults is fits)

pub returns-in_err-entry-clause-unlooped : goal.returns-in_err-entry-clause-unlooped
returns-in_err-entry-clause-unlooped g c = λ off.
    let is : c.next_item.result ≡ Some (Err c.in_err-entry.field-0.0) = c.in-Some.is ∙ ap (λ (item : Item). Some item) c.in_err-entry.was in
    let same = ap (λ (o : Options). o.follow_links) (c.next_item.ensures.gives.same.options ∙ c.loop-item.invariant.same.options) in
    fails_as _ c.from_residual.result c.in_err-entry.field-0.0 c.from_residual.ensures.1
    (no_loop c.next_item.new.inside.options.follow_links (chain_of c.next_item.new.inside) c.next_item.result c.in_err-entry.field-0.0 (same ∙ off) c.next_item.ensures.gives.looped is)

pub returns-in_err-push-clause-unlooped : goal.returns-in_err-push-clause-unlooped
returns-in_err-push-clause-unlooped g c = λ off.
    fails_as _ c.from_residual-in_err-push.result error.NoMemory c.from_residual-in_err-push.ensures.1 memory_no_loop

pub returns-in_err-entry-clause-first_error : goal.returns-in_err-entry-clause-first_error
returns-in_err-entry-clause-first_error g c =
    let s = g.D.Disk.state c.loop-item.disk in
    let new = g.D.Disk.state c.next_item.new.disk in
    let is : c.next_item.result ≡ Some (Err c.in_err-entry.field-0.0) = c.in-Some.is ∙ ap (λ (item : Item). Some item) c.in_err-entry.was in
    let N : Option Item → Type 0 = λ a. GivesNext g.D.Disk.tells (g.S.Order.sorts c.loop-item.inside.order) (g.S.Order.compares_by c.loop-item.inside.order) s c.loop-item.inside a new c.next_item.new.inside in
    fails_as (WhyNotCollected g.D.Disk.tells g.S.Order.sorts g.S.Order.compares_by (g.D.Disk.state c.args.disk.now) c.args.inside.now)
    c.from_residual.result c.in_err-entry.field-0.0 c.from_residual.ensures.1
    (inr (inr (c.loop-item.invariant.first c.in_err-entry.field-0.0 (at_once (subst N is c.next_item.ensures.gives)))))
