use Rattle.std.proofs.Common.{rules, ap, length, arith}
use Rattle.journal.proofs.LineLemmas.{item_at, contains_at, line_in}
use Rattle.journal.proofs.CauseLemmas.{told_on, syncing_cause}
use Rattle.journal.proofs.ClearingLemmas.{synced_more, synced_all}
use Rattle.journal.proofs.clearing.sync_folders.Goals as goal

pub loop-line-preserved : goal.loop-line-preserved
loop-line-preserved g c = record {
  never_falls = omega (arith, c.loop-line.invariant.never_falls, c.in_ok-sync_dir.ensures.cause.never_falls);
  lists = search rules;
  synced = λ told.
      let lines = c.args.journal.now in
      let n = c.loop-line.line-index in
      let line = c.line-item.result in
      let at = item_at lines c.lines-line-items.result.now n line c.lines-line-items.ensures.lines (omega arith) c.line-item.is in
      synced_more lines (g.D.Disk.state c.args.disk.now) n (g.D.Disk.state c.loop-line.disk) (g.met.D.Disk.is_tree c.loop-line.disk told) (g.met.D.Disk.holds_present c.loop-line.disk told)
      (c.loop-line.invariant.synced told) line at (g.D.Disk.state c.sync_dir.new.self) c.line_folder.result.now c.line_folder.ensures (c.in_ok-sync_dir.ensures.synced told);
}

pub returns-clause-synced : goal.returns-clause-synced
returns-clause-synced g c =
    λ told folders.
    synced_all c.args.journal.now (g.D.Disk.state c.args.disk.now) c.loop-line.line-index (g.D.Disk.state c.loop-line.disk)
    (omega (arith, c.loop-line-test.false, ap length c.lines-line-items.ensures.lines)) (c.loop-line.invariant.synced told) folders

pub returns-in_err-sync_dir-clause-fails : goal.returns-in_err-sync_dir-clause-fails
returns-in_err-sync_dir-clause-fails g c =
    let lines = c.args.journal.now in
    let n = c.loop-line.line-index in
    let line = c.line-item.result in
    let at = item_at lines c.lines-line-items.result.now n line c.lines-line-items.ensures.lines (omega arith) c.line-item.is in
    let has = contains_at lines n line at in
    told_on _ c.from_residual.result _ c.from_residual.ensures.1
    (syncing_cause g.D.Disk.tells (g.D.Disk.state c.args.disk.now) (g.D.Disk.state c.loop-line.disk) (g.D.Disk.state c.sync_dir.new.self) lines line c.line_folder.result.now c.in_err-sync_dir.field-0.0 has
    (line_in lines line c.lines-line-items.ensures.each has) c.line_folder.ensures (λ told. (c.loop-line.invariant.synced told).kept.tree) c.loop-line.invariant.never_falls
    c.in_err-sync_dir.ensures.cause c.in_err-sync_dir.ensures.not_taken c.in_err-sync_dir.ensures.absent)
