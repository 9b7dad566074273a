use Rattle.std.proofs.Common.{refl, ◌∙◌}
use Rattle.hir_core.specs.Trails.{way_of}
use Rattle.hir_core.proofs.pass.RoundLemmas.{threads_from, Rounds-followed, Rounds-found}
use Rattle.hir_core.proofs.closure.VisitLemmas.{CountsVisits-none, CountsVisits-add}
use Rattle.hir_core.proofs.closure.Closure.follow_all.Goals as goal

pub loop-i-init : goal.loop-i-init
loop-i-init g c = record {
  rounds = record { from = c.requires.from; later = c.requires.later; spent = c.requires.spent; finds = refl };
  room = refl;
  ticks = CountsVisits-none g.L.Ledger.noted c.args.spots.now c.args.self.now.visited c.args.steps.now;
}

pub returns-in_err-follow_or_keep-clause-ticks : goal.returns-in_err-follow_or_keep-clause-ticks
returns-in_err-follow_or_keep-clause-ticks g c =
    CountsVisits-add g.L.Ledger.noted c.args.spots.now c.args.self.now.visited c.loop-i.self.visited c.follow_or_keep.new.self.visited c.args.steps.now c.loop-i.steps
    c.follow_or_keep.new.steps c.loop-i.invariant.ticks c.follow_or_keep.ensures.ticks

pub returns-then-branch-clause-ticks : goal.returns-then-branch-clause-ticks
returns-then-branch-clause-ticks g c =
    CountsVisits-add g.L.Ledger.noted c.args.spots.now c.args.self.now.visited c.loop-i.self.visited c.follow_or_keep.new.self.visited c.args.steps.now c.loop-i.steps
    c.follow_or_keep.new.steps c.loop-i.invariant.ticks c.follow_or_keep.ensures.ticks

pub returns-then-branch-clause-followed : goal.returns-then-branch-clause-followed
returns-then-branch-clause-followed g c =
    Rounds-found _ _ _ _ _ c.loop-i.self.later _ _ (c.in_ok-spot.spot, way_of c.load.new.trail)
    (threads_from c.args.threads.now c.loop-i.i _ c.in_ok-spot.ensures) c.loop-i.invariant.rounds c.follow_or_keep.new.self.visited c.follow_or_keep.new.self.later _
    (rw c.if-branch.true at c.in_ok-follow_or_keep.ensures.followed)

pub loop-i-preserved : goal.loop-i-preserved
loop-i-preserved g c = record {
  rounds =
      Rounds-followed _ _ _ _ _ c.loop-i.self.later _ _ (c.in_ok-spot.spot, way_of c.load.new.trail)
      (threads_from c.args.threads.now c.loop-i.i _ c.in_ok-spot.ensures) c.loop-i.invariant.rounds c.follow_or_keep.new.self.visited c.follow_or_keep.new.self.later
      c.in_ok-follow_or_keep.ensures.later (rw c.if-branch.false at c.in_ok-follow_or_keep.ensures.followed);
  room = c.follow_or_keep.ensures.room ∙ c.loop-i.invariant.room;
  ticks =
      CountsVisits-add g.L.Ledger.noted c.args.spots.now c.args.self.now.visited c.loop-i.self.visited c.follow_or_keep.new.self.visited c.args.steps.now c.loop-i.steps
      c.follow_or_keep.new.steps c.loop-i.invariant.ticks c.follow_or_keep.ensures.ticks;
}
