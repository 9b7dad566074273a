use Rattle.std.proofs.Common.{◌≡◌, List, ◌∷◌, length, Some, None, refl, ap, ap₂, ◌∙◌, arith}
use Rattle.std.specs.Option.{option_or}
use Rattle.hir_program.specs.Program.{Way}
use Rattle.hir_core.specs.Trails.{Stop, way_of, stops_of, stops_on}
use Rattle.hir_core.specs.Pass.{first_of, stops_give}
use Rattle.hir_core.proofs.closure.TurnLemmas.{Follows-begin, Follows-at, Follows-match, Follows-turn, Follows-falls, Follows-end, length-visiting}
use Rattle.hir_core.proofs.closure.VisitLemmas.{CountsVisits-none, CountsVisits-add, CountsVisits-turn}
use Rattle.hir_core.proofs.closure.Closure.follow.Goals as goal

pub loop-here-init : goal.loop-here-init
loop-here-init g c = record {
  follows =
      Follows-begin c.args.text.now c.args.spots.now (c.args.spot, way_of c.args.self.now.trail) c.args.self.now.visited c.args.self.now.later _ c.requires.falls
      (ap₂ (λ (w : Way) (ps : List Stop). (c.args.spot, w) ∷ ps) c.clear.ensures.way c.clear.ensures.stops) refl c.requires.later c.requires.spent;
  room = refl;
  ticks = CountsVisits-none g.L.Ledger.noted c.args.spots.now c.args.self.now.visited c.args.steps.now;
}

pub turn-requires-clause-at : goal.turn-requires-clause-at
turn-requires-clause-at g c =
    let back = rw c.in-Some.is at c.in_ok-here.ensures in
    let here = Follows-at _ _ _ _ _ _ (stops_of c.next.new.self) _ (c.in-Some.here, way_of c.next.new.self) back c.loop-here.invariant.follows in
    rw here c.requires.at

pub returns-in_err-turn-clause-ticks : goal.returns-in_err-turn-clause-ticks
returns-in_err-turn-clause-ticks g c =
    CountsVisits-add g.L.Ledger.noted c.args.spots.now c.args.self.now.visited c.loop-here.self.visited c.turn.new.self.visited c.args.steps.now c.loop-here.steps c.turn.new.steps
    c.loop-here.invariant.ticks
    (CountsVisits-turn g.L.Ledger.noted c.args.spots.now c.loop-here.self.visited c.turn.new.self.visited c.in-Some.here c.loop-here.steps c.turn.new.steps
    (omega (arith, c.loop-here.invariant.room, c.requires.room)) c.turn.ensures.visited c.turn.ensures.ticks)

pub returns-in-Match : goal.returns-in-Match
returns-in-Match g c =
    let back = rw c.in-Some.is at c.in_ok-here.ensures in
    let step = rw c.in-Match.is at c.in_ok-turn.ensures.turned in
    record {
      followed =
          ap₂ (λ (ks : List Stop) (w : Way). option_or (first_of (stops_give c.args.text.now c.args.spots.now ks)) (Some w.run)) step.2 step.0
          ∙ Follows-match _ _ _ _ _ _ (stops_of c.next.new.self) _ (c.in-Some.here, way_of c.next.new.self) back c.loop-here.invariant.follows step.1;
      later = rw step.2 c.loop-here.invariant.follows.2;
      room = ap length c.turn.ensures.visited ∙ length-visiting _ c.in-Some.here c.loop-here.self.visited ∙ c.loop-here.invariant.room;
      ticks =
          CountsVisits-add g.L.Ledger.noted c.args.spots.now c.args.self.now.visited c.loop-here.self.visited c.turn.new.self.visited c.args.steps.now c.loop-here.steps
          c.turn.new.steps c.loop-here.invariant.ticks
          (CountsVisits-turn g.L.Ledger.noted c.args.spots.now c.loop-here.self.visited c.turn.new.self.visited c.in-Some.here c.loop-here.steps c.turn.new.steps
          (omega (arith, c.loop-here.invariant.room, c.requires.room)) c.turn.ensures.visited c.turn.ensures.ticks);
    }

pub loop-here-smaller : goal.loop-here-smaller
loop-here-smaller g c =
    let back = rw c.in-Some.is at c.in_ok-here.ensures in
    let step = rw c.in-On.is at c.in_ok-turn.ensures.turned in
    Follows-falls c.args.text.now c.args.spots.now c.args.self.now.trail.at None c.loop-here.self.visited c.loop-here.self.later (stops_of c.next.new.self) _
    (c.in-Some.here, way_of c.next.new.self) back c.turn.new.self.visited c.turn.new.self.later (stops_on c.in-On.next c.turn.new.self.trail)
    (omega (arith, c.loop-here.invariant.room, c.requires.room)) step

pub loop-here-preserved : goal.loop-here-preserved
loop-here-preserved g c =
    let back = rw c.in-Some.is at c.in_ok-here.ensures in
    let step = rw c.in-On.is at c.in_ok-turn.ensures.turned in
    let room : length c.loop-here.self.visited ≡ length c.args.spots.now = omega (arith, c.loop-here.invariant.room, c.requires.room) in
    record {
      follows =
          Follows-turn c.args.text.now c.args.spots.now c.args.self.now.trail.at _ c.loop-here.self.visited c.loop-here.self.later (stops_of c.next.new.self) _
          (c.in-Some.here, way_of c.next.new.self) back c.turn.new.self.visited c.turn.new.self.later (stops_on c.in-On.next c.turn.new.self.trail) room c.loop-here.invariant.follows step;
      room = ap length c.turn.ensures.visited ∙ length-visiting _ c.in-Some.here c.loop-here.self.visited ∙ c.loop-here.invariant.room;
      ticks =
          CountsVisits-add g.L.Ledger.noted c.args.spots.now c.args.self.now.visited c.loop-here.self.visited c.turn.new.self.visited c.args.steps.now c.loop-here.steps
          c.turn.new.steps c.loop-here.invariant.ticks
          (CountsVisits-turn g.L.Ledger.noted c.args.spots.now c.loop-here.self.visited c.turn.new.self.visited c.in-Some.here c.loop-here.steps c.turn.new.steps room
          c.turn.ensures.visited c.turn.ensures.ticks);
    }

pub returns-clause-followed : goal.returns-clause-followed
returns-clause-followed g c =
    let over = rw c.in_default.is at c.in_ok-here.ensures in
    Follows-end _ _ _ _ _ _ _ over c.loop-here.invariant.follows
