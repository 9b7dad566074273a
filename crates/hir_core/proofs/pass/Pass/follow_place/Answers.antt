use Rattle.hir_core.proofs.closure.VisitLemmas.{CountsVisits-add, CountsVisits-place}
use Rattle.hir_core.proofs.pass.Pass.follow_place.Goals as goal

pub returns-in_err-found-clause-ticks : goal.returns-in_err-found-clause-ticks
returns-in_err-found-clause-ticks g c =
    CountsVisits-place g.L.Ledger.noted c.args.spots.now _ c.next_place.new.self c.follow_all.new.self.visited c.args.steps.now c.follow_all.new.steps
    c.in_ok-next_place.ensures c.follow_all.ensures.ticks

pub returns-then-found-clause-ticks : goal.returns-then-found-clause-ticks
returns-then-found-clause-ticks g c =
    CountsVisits-place g.L.Ledger.noted c.args.spots.now _ c.next_place.new.self c.follow_all.new.self.visited c.args.steps.now c.follow_all.new.steps
    c.in_ok-next_place.ensures c.follow_all.ensures.ticks

pub returns-in_err-begin-clause-ticks : goal.returns-in_err-begin-clause-ticks
returns-in_err-begin-clause-ticks g c =
    CountsVisits-place g.L.Ledger.noted c.args.spots.now _ c.next_place.new.self c.follow_all.new.self.visited c.args.steps.now c.follow_all.new.steps
    c.in_ok-next_place.ensures c.follow_all.ensures.ticks

pub returns-clause-ticks : goal.returns-clause-ticks
returns-clause-ticks g c =
    CountsVisits-place g.L.Ledger.noted c.args.spots.now _ c.next_place.new.self c.follow.new.self.visited c.args.steps.now c.follow.new.steps c.in_ok-next_place.ensures
    (CountsVisits-add g.L.Ledger.noted c.args.spots.now c.next_place.new.self c.follow_all.new.self.visited c.follow.new.self.visited c.args.steps.now c.follow_all.new.steps
    c.follow.new.steps c.follow_all.ensures.ticks c.follow.ensures.ticks)
