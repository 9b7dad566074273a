use Rattle.std.proofs.Common.{List, ◌∷◌, ◌++◌, Some, refl, sym, ap, ap₂, ◌∙◌, subst, arith}
use Rattle.std.specs.Option.{option_or}
use Rattle.hir_core.specs.Blocks.{KeepsMarks}
use Rattle.hir_program.specs.Program.{Way}
use Rattle.hir_core.specs.Trails.{Stop, way_of, stops_of, stops_on}
use Rattle.hir_core.specs.Pass.{first_of, stop_gives, stops_give}
use Rattle.hir_core.proofs.block.FollowLemmas.{HasRoom, FollowsIn, FollowsIn-begin, FollowsIn-kept, FollowsIn-kept_falls, FollowsIn-match, FollowsIn-turn, FollowsIn-falls, FollowsIn-end, keeps-trying}
use Rattle.hir_core.proofs.block.LoopLemmas.{FollowsIn-run}
use Rattle.hir_core.proofs.block.MarkLemmas.{KeepsMarks-none, KeepsMarks-then}
use Rattle.hir_core.proofs.block.TryLemmas.{visits_none, visits_then}
use Rattle.hir_core.proofs.block.Block.follow.Goals as goal

pub loop-here-init : goal.loop-here-init
loop-here-init g c = record {
  follows =
      FollowsIn-begin c.args.text.now c.args.spots.now c.args.places.begin c.args.places.end (c.args.spot, way_of c.args.self.now.trail) c.args.self.now.marks
      c.args.self.now.later _ c.requires.falls (ap₂ (λ (w : Way) (ps : List Stop). (c.args.spot, w) ∷ ps) c.clear.ensures.way c.clear.ensures.stops) refl
      c.requires.begin c.requires.at c.requires.later c.requires.spent;
  marks = KeepsMarks-none _;
  ticks = visits_none;
}

pub loop-here-preserved-then-self-places : goal.loop-here-preserved-then-self-places
loop-here-preserved-then-self-places g c =
    let back = rw c.in-Some.is at c.in_ok-here.ensures in
    let room : HasRoom c.args.spots.now c.args.places.begin c.args.places.end c.loop-here.self.marks = omega (arith, c.loop-here.invariant.marks.room, c.requires.room) in
    let run =
    FollowsIn-run c.args.text.now c.args.spots.now c.args.places.begin c.args.places.end c.in-Some.here c.run_over.new.trail.at _ c.loop-here.self.later
    (stops_on c.loop-here.on c.loop-here.self.trail) (stops_of c.next.new.self) (stops_of c.run_over.new.trail) (way_of c.next.new.self) (way_of c.run_over.new.trail)
    c.loop-here.self.marks c.run_over.new.marks room refl back c.run_over.ensures.way c.run_over.ensures.stops c.run_over.ensures.forward c.run_over.ensures.over
    c.loop-here.invariant.follows in
    record {
      follows =
          FollowsIn-kept c.args.text.now c.args.spots.now c.args.places.begin c.args.places.end _ c.run_over.new.marks c.loop-here.self.later (stops_of c.run_over.new.trail) _
          (c.in-Some.here, way_of c.run_over.new.trail) refl run.0 _ (stops_of c.run_over.new.trail) c.in_ok-push.ensures refl (omega arith);
      marks = KeepsMarks-then c.loop-here.invariant.marks run.1;
      ticks = visits_then c.loop-here.invariant.ticks c.run_over.ensures.ticks;
    }

pub returns-in_err-push-clause-ticks : goal.returns-in_err-push-clause-ticks
returns-in_err-push-clause-ticks g c = visits_then c.loop-here.invariant.ticks c.run_over.ensures.ticks

pub returns-in_err-turn-clause-ticks : goal.returns-in_err-turn-clause-ticks
returns-in_err-turn-clause-ticks g c = visits_then (visits_then c.loop-here.invariant.ticks c.run_over.ensures.ticks) c.turn.ensures.ticks

pub returns-in-Match-clause-ticks : goal.returns-in-Match-clause-ticks
returns-in-Match-clause-ticks g c = visits_then (visits_then c.loop-here.invariant.ticks c.run_over.ensures.ticks) c.turn.ensures.ticks

pub loop-here-smaller-then-self-places : goal.loop-here-smaller-then-self-places
loop-here-smaller-then-self-places g c =
    let back = rw c.in-Some.is at c.in_ok-here.ensures in
    let room : HasRoom c.args.spots.now c.args.places.begin c.args.places.end c.loop-here.self.marks = omega (arith, c.loop-here.invariant.marks.room, c.requires.room) in
    let run =
    FollowsIn-run c.args.text.now c.args.spots.now c.args.places.begin c.args.places.end c.in-Some.here c.run_over.new.trail.at _ c.loop-here.self.later
    (stops_on c.loop-here.on c.loop-here.self.trail) (stops_of c.next.new.self) (stops_of c.run_over.new.trail) (way_of c.next.new.self) (way_of c.run_over.new.trail)
    c.loop-here.self.marks c.run_over.new.marks room refl back c.run_over.ensures.way c.run_over.ensures.stops c.run_over.ensures.forward c.run_over.ensures.over
    c.loop-here.invariant.follows in
    let falls =
    FollowsIn-kept_falls c.args.text.now c.args.spots.now c.args.places.begin c.args.places.end _ c.run_over.new.marks c.loop-here.self.later (stops_of c.run_over.new.trail) _
    (c.in-Some.here, way_of c.run_over.new.trail) refl run.0 (stops_of c.run_over.new.trail) refl in
    omega (arith, falls, run.2)

pub returns-in-Match-clause-followed : goal.returns-in-Match-clause-followed
returns-in-Match-clause-followed g c =
    let back = rw c.in-Some.is at c.in_ok-here.ensures in
    let room : HasRoom c.args.spots.now c.args.places.begin c.args.places.end c.loop-here.self.marks = omega (arith, c.loop-here.invariant.marks.room, c.requires.room) in
    let run =
    FollowsIn-run c.args.text.now c.args.spots.now c.args.places.begin c.args.places.end c.in-Some.here c.run_over.new.trail.at _ c.loop-here.self.later
    (stops_on c.loop-here.on c.loop-here.self.trail) (stops_of c.next.new.self) (stops_of c.run_over.new.trail) (way_of c.next.new.self) (way_of c.run_over.new.trail)
    c.loop-here.self.marks c.run_over.new.marks room refl back c.run_over.ensures.way c.run_over.ensures.stops c.run_over.ensures.forward c.run_over.ensures.over
    c.loop-here.invariant.follows in
    let step = rw c.in-Match.is at c.in_ok-turn.ensures.turned in
    ap (λ (ks : List Stop). option_or (first_of (stops_give c.args.text.now c.args.spots.now ks)) (Some (way_of c.turn.new.self.trail).run)) c.turn.ensures.later
    ∙ FollowsIn-match c.args.text.now c.args.spots.now c.args.places.begin c.args.places.end _ c.run_over.new.marks c.loop-here.self.later (stops_of c.run_over.new.trail) _
    (c.in-Some.here, way_of c.run_over.new.trail) refl run.0 (way_of c.turn.new.self.trail) step.0

pub returns-in-Match-clause-marks : goal.returns-in-Match-clause-marks
returns-in-Match-clause-marks g c =
    let back = rw c.in-Some.is at c.in_ok-here.ensures in
    let room : HasRoom c.args.spots.now c.args.places.begin c.args.places.end c.loop-here.self.marks = omega (arith, c.loop-here.invariant.marks.room, c.requires.room) in
    let run =
    FollowsIn-run c.args.text.now c.args.spots.now c.args.places.begin c.args.places.end c.in-Some.here c.run_over.new.trail.at _ c.loop-here.self.later
    (stops_on c.loop-here.on c.loop-here.self.trail) (stops_of c.next.new.self) (stops_of c.run_over.new.trail) (way_of c.next.new.self) (way_of c.run_over.new.trail)
    c.loop-here.self.marks c.run_over.new.marks room refl back c.run_over.ensures.way c.run_over.ensures.stops c.run_over.ensures.forward c.run_over.ensures.over
    c.loop-here.invariant.follows in
    let step = rw c.in-Match.is at c.in_ok-turn.ensures.turned in
    subst (KeepsMarks c.args.self.now.marks) (sym step.1) (KeepsMarks-then c.loop-here.invariant.marks run.1)

pub loop-here-smaller : goal.loop-here-smaller
loop-here-smaller g c =
    let back = rw c.in-Some.is at c.in_ok-here.ensures in
    let room : HasRoom c.args.spots.now c.args.places.begin c.args.places.end c.loop-here.self.marks = omega (arith, c.loop-here.invariant.marks.room, c.requires.room) in
    let run =
    FollowsIn-run c.args.text.now c.args.spots.now c.args.places.begin c.args.places.end c.in-Some.here c.run_over.new.trail.at _ c.loop-here.self.later
    (stops_on c.loop-here.on c.loop-here.self.trail) (stops_of c.next.new.self) (stops_of c.run_over.new.trail) (way_of c.next.new.self) (way_of c.run_over.new.trail)
    c.loop-here.self.marks c.run_over.new.marks room refl back c.run_over.ensures.way c.run_over.ensures.stops c.run_over.ensures.forward c.run_over.ensures.over
    c.loop-here.invariant.follows in
    let step = rw c.in-On.is at c.in_ok-turn.ensures.turned in
    let room_on : HasRoom c.args.spots.now c.args.places.begin c.args.places.end c.run_over.new.marks = omega (arith, run.1.room, room) in
    let falls =
    FollowsIn-falls c.args.text.now c.args.spots.now c.args.places.begin c.args.places.end _ c.run_over.new.marks c.loop-here.self.later (stops_of c.run_over.new.trail) _
    (c.in-Some.here, way_of c.run_over.new.trail) refl run.0 c.turn.new.self.marks (stops_on c.in-On.next c.turn.new.self.trail) room_on (omega arith) step in
    omega (arith, falls, run.2)

pub loop-here-preserved : goal.loop-here-preserved
loop-here-preserved g c =
    let back = rw c.in-Some.is at c.in_ok-here.ensures in
    let room : HasRoom c.args.spots.now c.args.places.begin c.args.places.end c.loop-here.self.marks = omega (arith, c.loop-here.invariant.marks.room, c.requires.room) in
    let run =
    FollowsIn-run c.args.text.now c.args.spots.now c.args.places.begin c.args.places.end c.in-Some.here c.run_over.new.trail.at _ c.loop-here.self.later
    (stops_on c.loop-here.on c.loop-here.self.trail) (stops_of c.next.new.self) (stops_of c.run_over.new.trail) (way_of c.next.new.self) (way_of c.run_over.new.trail)
    c.loop-here.self.marks c.run_over.new.marks room refl back c.run_over.ensures.way c.run_over.ensures.stops c.run_over.ensures.forward c.run_over.ensures.over
    c.loop-here.invariant.follows in
    let step = rw c.in-On.is at c.in_ok-turn.ensures.turned in
    let room_on : HasRoom c.args.spots.now c.args.places.begin c.args.places.end c.run_over.new.marks = omega (arith, run.1.room, room) in
    record {
      follows =
          subst (λ ks. FollowsIn c.args.text.now c.args.spots.now c.args.places.begin c.args.places.end
          (first_of (stops_give c.args.text.now c.args.spots.now c.args.self.now.later ++ stop_gives c.args.text.now c.args.spots.now (c.args.spot, way_of c.args.self.now.trail)))
          c.turn.new.self.marks ks (stops_on c.in-On.next c.turn.new.self.trail)) (sym c.turn.ensures.later)
          (FollowsIn-turn c.args.text.now c.args.spots.now c.args.places.begin c.args.places.end _ c.run_over.new.marks c.loop-here.self.later (stops_of c.run_over.new.trail) _
          (c.in-Some.here, way_of c.run_over.new.trail) refl run.0 c.turn.new.self.marks (stops_on c.in-On.next c.turn.new.self.trail) room_on (omega arith) step);
      marks =
          KeepsMarks-then (KeepsMarks-then c.loop-here.invariant.marks run.1)
          (subst (KeepsMarks c.run_over.new.marks) (sym step.1)
          (keeps-trying c.args.text.now c.args.spots.now c.args.places.begin c.run_over.new.trail.at c.in-Some.here c.run_over.new.marks));
      ticks = visits_then (visits_then c.loop-here.invariant.ticks c.run_over.ensures.ticks) c.turn.ensures.ticks;
    }

pub returns-clause-followed : goal.returns-clause-followed
returns-clause-followed g c =
    let over = rw c.in_default.is at c.in_ok-here.ensures in
    FollowsIn-end c.args.text.now c.args.spots.now c.args.places.begin c.args.places.end _ c.loop-here.self.marks c.loop-here.self.later _ over c.loop-here.invariant.follows
