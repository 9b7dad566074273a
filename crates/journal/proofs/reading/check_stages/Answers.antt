use Rattle.std.proofs.Common.{rules, ap, length, arith}
use Rattle.journal.proofs.LineLemmas.{item_at}
use Rattle.journal.proofs.ReadingLemmas.{one_more, there_before, fails_at, refused_as}
use Rattle.journal.proofs.reading.check_stages.Goals as goal

pub returns-in_err-check_stage-clause-fails : goal.returns-in_err-check_stage-clause-fails
returns-in_err-check_stage-clause-fails g c =
    let lines = c.args.journal.now in
    let n = c.loop-line.line-index in
    let line = c.line-item.result in
    let old = g.D.Disk.state c.args.disk.now in
    let now = g.D.Disk.state c.loop-line.disk in
    let new = g.D.Disk.state c.check_stage.new.disk in
    let at = item_at lines c.lines-line-items.result.now n line c.lines-line-items.ensures.lines (omega arith) c.line-item.is in
    refused_as _ c.from_residual.result c.in_err-check_stage.field-0.0 c.from_residual.ensures.1
    (fails_at g.D.Disk.tells old now new lines n line c.in_err-check_stage.field-0.0 (omega (arith, ap length c.lines-line-items.ensures.lines)) at
    c.loop-line.invariant.tree c.loop-line.invariant.never_falls c.loop-line.invariant.there c.in_err-check_stage.ensures.fails)

pub loop-line-preserved : goal.loop-line-preserved
loop-line-preserved g c = record {
  never_falls = omega (arith, c.loop-line.invariant.never_falls, c.in_ok-check_stage.ensures.never_falls);
  lists = search rules;
  tree = search rules;
  there = λ told.
      let lines = c.args.journal.now in
      let n = c.loop-line.line-index in
      let line = c.line-item.result in
      let at = item_at lines c.lines-line-items.result.now n line c.lines-line-items.ensures.lines (omega arith) c.line-item.is in
      one_more (g.D.Disk.state c.args.disk.now).tree lines n line (omega (arith, ap length c.lines-line-items.ensures.lines)) at (c.loop-line.invariant.there told)
      (there_before (g.D.Disk.state c.args.disk.now) (g.D.Disk.state c.loop-line.disk) line (c.loop-line.invariant.tree told) (c.in_ok-check_stage.ensures.there told));
}
