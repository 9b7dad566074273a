use Rattle.std.proofs.Common.{true, None, ap, ◌∙◌, arith}
use Rattle.hir_core.specs.Pass.{match_of}
use Rattle.hir_program.specs.Program.{Way}
use Rattle.hir_core.specs.Trails.{way_of}
use Rattle.hir_core.proofs.block.MarkLemmas.{KeepsMarks-then}
use Rattle.hir_core.proofs.block.ThreadsLemmas.{answer-begun}
use Rattle.hir_core.proofs.block.TryLemmas.{visits_then}
use Rattle.hir_core.proofs.block.Block.follow_starts.Goals as goal

pub returns-in_err-follow-clause-ticks : goal.returns-in_err-follow-clause-ticks
returns-in_err-follow-clause-ticks g c = visits_then c.loop-starts.invariant.ticks c.follow.ensures.ticks

pub returns-then-branch-clause-ticks : goal.returns-then-branch-clause-ticks
returns-then-branch-clause-ticks g c = visits_then c.loop-starts.invariant.ticks c.follow.ensures.ticks

pub returns-then-branch-clause-answer : goal.returns-then-branch-clause-answer
returns-then-branch-clause-answer g c =
    answer-begun c.args.text.now c.args.spots.now c.args.places.begin c.args.groups c.loop-starts.starts.place (match_of true c.follow.new.self.trail) c.follow.new.self.marks c.loop-starts.self.later
    c.follow.new.self.later (c.entry.result, way_of c.begin_whole.new.self) c.entry.result c.requires.falls (c.entry.ensures c.args.spots.now c.requires.filters)
    (omega arith) (ap (λ (w : Way). (c.entry.result, w)) c.in_ok-begin_whole.ensures)
    (rw c.if-branch.true at c.in_ok-follow.ensures.followed)
    ∙ c.loop-starts.invariant.answer

pub returns-then-branch-clause-marks : goal.returns-then-branch-clause-marks
returns-then-branch-clause-marks g c = KeepsMarks-then c.loop-starts.invariant.marks c.in_ok-follow.ensures.marks

pub loop-starts-preserved : goal.loop-starts-preserved
loop-starts-preserved g c =
    let followed = rw c.if-branch.false at c.in_ok-follow.ensures.followed in
    record {
      answer =
          c.pass_over.ensures.answer c.args.spots.now c.args.groups c.requires.filters
          ∙ answer-begun c.args.text.now c.args.spots.now c.args.places.begin c.args.groups c.loop-starts.starts.place None c.follow.new.self.marks c.loop-starts.self.later
          c.follow.new.self.later (c.entry.result, way_of c.begin_whole.new.self) c.entry.result c.requires.falls (c.entry.ensures c.args.spots.now c.requires.filters)
          (omega arith) (ap (λ (w : Way). (c.entry.result, w)) c.in_ok-begin_whole.ensures) followed
          ∙ c.loop-starts.invariant.answer;
      later = c.in_ok-follow.ensures.later;
      spent = followed.0;
      begin = omega (arith, c.loop-starts.invariant.begin, c.pass_over.ensures.after);
      within = c.pass_over.ensures.within;
      marks = KeepsMarks-then c.loop-starts.invariant.marks c.in_ok-follow.ensures.marks;
      ticks = visits_then c.loop-starts.invariant.ticks c.follow.ensures.ticks;
    }
