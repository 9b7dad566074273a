use Rattle.std.proofs.Common.{◌≡◌, ℕ, ◌<◌, length, rules, ap, subst, ◌∙◌, sym, arith}
use Rattle.std.proofs.Math.ListN.{length-set}
use Rattle.std.specs.Prelude.{true, slice_set}
use Rattle.hir_core.specs.Blocks.{mark_of}
use Rattle.hir_core.specs.RunsOver.{StepsOver}
use Rattle.hir_core.specs.Pass.{was_visited}
use Rattle.sd_base.specs.Steps.{IsTicked}
use Rattle.hir_core.proofs.block.TryLemmas.{CountsTries-one, visits_none, visits_then}
use Rattle.hir_core.proofs.run_over.OverLemmas.{loop-counted, loop-within, RunsOver-next}
use Rattle.hir_core.proofs.run_over.run_end.Goals as goal

pub mark_of-requires-clause-spot : goal.mark_of-requires-clause-spot
mark_of-requires-clause-spot g c = loop-within c.args.spots.now c.args.spot c.requires.row.0 c.requires.row.1

pub loop-at-init : goal.loop-at-init
loop-at-init g c = record {
  over = search rules;
  room = search rules;
  forward = search rules;
  within = search rules;
  ticks = visits_none;
}

pub loop-at-preserved : goal.loop-at-preserved
loop-at-preserved g c =
    let row = c.requires.row in
    let at : ℕ = c.loop-at.at in
    let new = c.visit.ensures.first c.if-not-visit.false in
    let mark : c.mark_of.result ≡ mark_of (length c.args.spots.now) c.args.places.begin at c.args.spot = c.mark_of.ensures.mark in
    let within : at < length c.args.text.now = omega (arith, c.loop-at-test.true, c.min-end.ensures) in
    let inside : at < c.args.places.end = omega (arith, c.loop-at-test.true, c.min-end.ensures) in
    let few = loop-within c.args.spots.now c.args.spot row.0 row.1 in
    let step : StepsOver c.args.text.now c.args.spots.now c.args.places.begin c.args.places.end c.args.spot at c.loop-at.marks c.visit.new.self = record {
      ways = row.0;
      are_ways = row.1;
      byte = row.2 _ c.if-row-text.true;
      within = within;
      inside = inside;
      new_here = ap (was_visited c.loop-at.marks) (sym mark) ∙ new.0;
      marks = new.1 ∙ ap (λ (m : ℕ). slice_set c.loop-at.marks m true) mark;
    } in
    record {
      over =
          RunsOver-next c.args.text.now c.args.spots.now c.args.places.begin c.args.places.end c.args.spot c.args.from at _ c.args.marks.now
          c.loop-at.marks c.visit.new.self c.loop-at.invariant.forward (search rules) c.loop-at.invariant.over step;
      room = rw (new.1, length-set) c.loop-at.invariant.room;
      forward = omega (arith, c.loop-at.invariant.forward);
      within = omega (arith, within);
      ticks =
          visits_then c.loop-at.invariant.ticks
          (CountsTries-one g.L.Ledger.noted c.args.spots.now c.args.places.begin c.args.places.end at c.args.spot c.mark_of.result c.loop-at.marks c.visit.new.self c.loop-at.steps
          c.tick.new.self (omega (arith, c.requires.room, c.loop-at.invariant.room)) (omega (arith, c.requires.begin, c.loop-at.invariant.forward))
          inside few mark new.0 new.1
          (subst (λ (n : ℕ). IsTicked g.L.Ledger.noted n c.loop-at.steps c.tick.new.self) (sym (loop-counted c.args.spots.now c.args.spot row.0 row.1)) c.tick.ensures));
    }
