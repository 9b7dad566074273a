use Rattle.std.proofs.Common.{refl}
use Rattle.hir_core.specs.Trails.{way_of}
use Rattle.hir_core.proofs.pass.RoundLemmas.{threads_from}
use Rattle.hir_core.proofs.block.MarkLemmas.{KeepsMarks-none, KeepsMarks-then}
use Rattle.hir_core.proofs.block.ThreadsLemmas.{Threads-followed, Threads-found}
use Rattle.hir_core.proofs.block.TryLemmas.{visits_none, visits_then}
use Rattle.hir_core.proofs.block.Block.follow_all.Goals as goal

pub loop-i-init : goal.loop-i-init
loop-i-init g c = record {
  threads = record { from = c.requires.from; later = c.requires.later; spent = c.requires.spent; finds = refl };
  marks = KeepsMarks-none _;
  ticks = visits_none;
}

pub returns-in_err-follow-clause-ticks : goal.returns-in_err-follow-clause-ticks
returns-in_err-follow-clause-ticks g c = visits_then c.loop-i.invariant.ticks c.follow.ensures.ticks

pub returns-then-branch-clause-ticks : goal.returns-then-branch-clause-ticks
returns-then-branch-clause-ticks g c = visits_then c.loop-i.invariant.ticks c.follow.ensures.ticks

pub returns-then-branch-clause-followed : goal.returns-then-branch-clause-followed
returns-then-branch-clause-followed g c =
    Threads-found _ _ _ _ _ _ c.loop-i.self.later _ _ (c.in_ok-spot.spot, way_of c.load.new.trail)
    (threads_from c.args.threads.now c.loop-i.i _ c.in_ok-spot.ensures) c.loop-i.invariant.threads c.follow.new.self.marks c.follow.new.self.later _
    (rw c.if-branch.true at c.in_ok-follow.ensures.followed)

pub returns-then-branch-clause-marks : goal.returns-then-branch-clause-marks
returns-then-branch-clause-marks g c = KeepsMarks-then c.loop-i.invariant.marks c.in_ok-follow.ensures.marks

pub loop-i-preserved : goal.loop-i-preserved
loop-i-preserved g c = record {
  threads =
      Threads-followed _ _ _ _ _ _ c.loop-i.self.later _ _ (c.in_ok-spot.spot, way_of c.load.new.trail)
      (threads_from c.args.threads.now c.loop-i.i _ c.in_ok-spot.ensures) c.loop-i.invariant.threads c.follow.new.self.marks c.follow.new.self.later
      c.in_ok-follow.ensures.later (rw c.if-branch.false at c.in_ok-follow.ensures.followed);
  marks = KeepsMarks-then c.loop-i.invariant.marks c.in_ok-follow.ensures.marks;
  ticks = visits_then c.loop-i.invariant.ticks c.follow.ensures.ticks;
}
