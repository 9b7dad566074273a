use Rattle.std.proofs.Common.{rules, ap, length, arith}
use Rattle.journal.proofs.LineLemmas.{item_at}
use Rattle.journal.proofs.ClearingLemmas.{kept_then, folder_now, removes_more, cleared_more, cleared_all}
use Rattle.journal.proofs.CauseLemmas.{told_on, clearing_since}
use Rattle.journal.proofs.clearing.remove_stages.Goals as goal

pub returns-in_err-remove_stage-clause-removed : goal.returns-in_err-remove_stage-clause-removed
returns-in_err-remove_stage-clause-removed g c =
    λ told folders.
    let lines = c.args.journal.now in
    let start = g.D.Disk.state c.args.disk.now in
    let n = c.loop-line.line-index in
    let now = g.D.Disk.state c.loop-line.disk in
    let line = c.line-item.result in
    let at = item_at lines c.lines-line-items.result.now n line c.lines-line-items.ensures.lines (omega arith) c.line-item.is in
    let to = c.loop-line.invariant.cleared told folders in
    removes_more lines start folders n now to line at (g.D.Disk.state c.remove_stage.new.disk) (c.in_err-remove_stage.ensures.removed told (folder_now lines start folders n now to line at))

pub loop-line-preserved : goal.loop-line-preserved
loop-line-preserved g c = record {
  never_falls = omega (arith, c.loop-line.invariant.never_falls, c.in_ok-remove_stage.ensures.never_falls);
  lists = search rules;
  tree = λ told.
      kept_then (g.D.Disk.state c.args.disk.now).tree (g.D.Disk.state c.loop-line.disk).tree (g.D.Disk.state c.remove_stage.new.disk).tree (c.loop-line.invariant.tree told) (c.in_ok-remove_stage.ensures.tree told);
  cleared = λ told folders.
      let lines = c.args.journal.now in
      let start = g.D.Disk.state c.args.disk.now in
      let n = c.loop-line.line-index in
      let now = g.D.Disk.state c.loop-line.disk in
      let line = c.line-item.result in
      let at = item_at lines c.lines-line-items.result.now n line c.lines-line-items.ensures.lines (omega arith) c.line-item.is in
      let to = c.loop-line.invariant.cleared told folders in
      let still = folder_now lines start folders n now to line at in
      cleared_more lines start folders n now to line at (g.D.Disk.state c.remove_stage.new.disk) (c.in_ok-remove_stage.ensures.removed told still) (c.in_ok-remove_stage.ensures.gone told still);
}

pub returns-clause-gone : goal.returns-clause-gone
returns-clause-gone g c =
    λ told folders.
    cleared_all c.args.journal.now (g.D.Disk.state c.args.disk.now) c.loop-line.line-index (g.D.Disk.state c.loop-line.disk)
    (omega (arith, c.loop-line-test.false, ap length c.lines-line-items.ensures.lines)) (c.loop-line.invariant.cleared told folders)

pub returns-in_err-remove_stage-clause-tree : goal.returns-in_err-remove_stage-clause-tree
returns-in_err-remove_stage-clause-tree g c =
    λ told.
    kept_then (g.D.Disk.state c.args.disk.now).tree (g.D.Disk.state c.loop-line.disk).tree (g.D.Disk.state c.remove_stage.new.disk).tree (c.loop-line.invariant.tree told) (c.in_err-remove_stage.ensures.tree told)

pub returns-in_err-remove_stage-clause-fails : goal.returns-in_err-remove_stage-clause-fails
returns-in_err-remove_stage-clause-fails g c =
    told_on _ c.from_residual.result _ c.from_residual.ensures.1
    (clearing_since g.D.Disk.tells (g.D.Disk.state c.args.disk.now) (g.D.Disk.state c.loop-line.disk) (g.D.Disk.state c.remove_stage.new.disk) c.in_err-remove_stage.field-0.0 c.loop-line.invariant.never_falls
    c.in_err-remove_stage.ensures.fails)
