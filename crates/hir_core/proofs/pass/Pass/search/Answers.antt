use Rattle.std.proofs.Common.{◌≡◌, ◌+◌, [], length, sym, ◌∙◌, arith}
use Rattle.std.proofs.lemmas.List.{nil_from_length}
use Rattle.std.proofs.lemmas.Bool.{eqb-true}
use Rattle.sd_base.proofs.StepsLemmas.{at_most_more, at_most_add}
use Rattle.hir_core.specs.Pass.{best_in, counted}
use Rattle.hir_core.proofs.pass.RoundLemmas.{answer-over, answer-end}
use Rattle.hir_core.proofs.closure.VisitLemmas.{places_to, places_more, all_places}
use Rattle.hir_core.proofs.pass.Pass.search.Goals as goal

pub returns-in_err-round-clause-ticks : goal.returns-in_err-round-clause-ticks
returns-in_err-round-clause-ticks g c =
    at_most_more
    (places_more c.args.at c.loop-place.place (length c.args.text.now) (counted c.args.spots.now) c.loop-place.invariant.after c.loop-place-test.true)
    (at_most_add c.loop-place.invariant.ticks c.round.ensures.ticks)

pub returns-then-is_some : goal.returns-then-is_some
returns-then-is_some g c =
    let none_left = eqb-true _ _ (sym c.if-is_empty.ensures) in
    let empty : c.round.new.self.threads ≡ [] = nil_from_length _ (omega (arith, none_left)) in
    record {
      found = c.if-is_some.ensures;
      first =
          sym (answer-over c.args.text.now c.args.spots.now (c.loop-place.place + 1) c.args.groups c.round.new.self.threads (best_in c.round.new.self.best) empty (sym c.if-is_some.ensures))
          ∙ c.in_ok-round.ensures.answer ∙ c.loop-place.invariant.answer;
      ticks =
          at_most_more
          (places_more c.args.at c.loop-place.place (length c.args.text.now) (counted c.args.spots.now) c.loop-place.invariant.after c.loop-place-test.true)
          (at_most_add c.loop-place.invariant.ticks c.round.ensures.ticks);
    }

pub loop-place-preserved : goal.loop-place-preserved
loop-place-preserved g c =
    let next = c.next_place-place-in-loop-place in
    record {
      from = next.ensures.from;
      answer = next.ensures.answer c.args.spots.now c.args.groups c.requires.filters ∙ c.in_ok-round.ensures.answer ∙ c.loop-place.invariant.answer;
      after = omega (arith, c.loop-place.invariant.after, next.ensures.after);
      within = next.ensures.within;
      ticks =
          at_most_more
          (places_to c.args.at c.loop-place.place next.result (counted c.args.spots.now) c.loop-place.invariant.after next.ensures.after)
          (at_most_add c.loop-place.invariant.ticks c.round.ensures.ticks);
    }

pub returns : goal.returns
returns g c =
    record {
      found = c.is_some-2.ensures;
      first =
          sym (answer-end c.args.text.now c.args.spots.now c.loop-place.place c.args.groups c.loop-place.self.threads (best_in c.loop-place.self.best) c.loop-place-test.false
          c.loop-place.invariant.from)
          ∙ c.loop-place.invariant.answer;
      ticks =
          at_most_more (all_places c.args.at c.loop-place.place (length c.args.text.now) (counted c.args.spots.now) c.loop-place.invariant.within) c.loop-place.invariant.ticks;
    }
