use Rattle.std.proofs.Common.{arith}
use Rattle.stream_rewrite.proofs.writing.WritingLemmas.{rest_within, some_more}
use Rattle.stream_rewrite.proofs.writing.write_all.Goals as goal

pub loop-at-preserved : goal.loop-at-preserved
loop-at-preserved g c =
    let before = c.loop-at.invariant in
    let written = c.in_ok-at.ensures in
    record {
      within = rest_within c.args.bytes.now c.loop-at.at c.in_ok-at.field-0 before.within written.within;
      appended = λ told. some_more (g.O.Sink.state c.args.out.now).held (g.O.Sink.state c.loop-at.out).held _ c.args.bytes.now c.loop-at.at c.in_ok-at.field-0 (before.appended told) (written.appended told);
      never_falls = let now = written.never_falls in omega (arith, before.never_falls);
    }
