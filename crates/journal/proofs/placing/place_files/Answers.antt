use Rattle.std.proofs.Common.{rules, ap, length, arith, [], ◌∷◌}
use Rattle.journal.proofs.LineLemmas.{item_at, contains_at}
use Rattle.journal.proofs.PlacingLemmas.{placing_still, kept_more, placed_more, placed_all}
use Rattle.journal.proofs.SameFilesLemmas.{changes_then}
use Rattle.journal.proofs.CauseLemmas.{told_on, cause_since, one_among}
use Rattle.journal.proofs.placing.place_files.Goals as goal

pub returns-in_err-place_file-clause-kept : goal.returns-in_err-place_file-clause-kept
returns-in_err-place_file-clause-kept g c =
    λ told work p.
    let lines = c.args.journal.now in
    let n = c.loop-line.line-index in
    let line = c.line-item.result in
    let at = item_at lines c.lines-line-items.result.now n line c.lines-line-items.ensures.lines (omega arith) c.line-item.is in
    let to = c.loop-line.invariant.placed told work p in
    kept_more work lines (g.D.Disk.state c.args.disk.now) p n (g.D.Disk.state c.loop-line.disk) (g.D.Disk.state c.place_file.new.disk) to
    (c.in_err-place_file.ensures.kept told work lines (contains_at lines n line at) (placing_still work lines (g.D.Disk.state c.args.disk.now) p n (g.D.Disk.state c.loop-line.disk) to))

pub loop-line-preserved : goal.loop-line-preserved
loop-line-preserved g c = record {
  never_falls = omega (arith, c.loop-line.invariant.never_falls, c.in_ok-place_file.ensures.never_falls);
  lists = search rules;
  tree = λ told.
      let lines = c.args.journal.now in
      let n = c.loop-line.line-index in
      let line = c.line-item.result in
      let at = item_at lines c.lines-line-items.result.now n line c.lines-line-items.ensures.lines (omega arith) c.line-item.is in
      changes_then lines line (g.D.Disk.state c.args.disk.now).tree (g.D.Disk.state c.loop-line.disk).tree (g.D.Disk.state c.place_file.new.disk).tree (contains_at lines n line at)
      (c.loop-line.invariant.tree told) (c.in_ok-place_file.ensures.tree told);
  placed = λ told work p.
      let lines = c.args.journal.now in
      let n = c.loop-line.line-index in
      let line = c.line-item.result in
      let at = item_at lines c.lines-line-items.result.now n line c.lines-line-items.ensures.lines (omega arith) c.line-item.is in
      let to = c.loop-line.invariant.placed told work p in
      let still = placing_still work lines (g.D.Disk.state c.args.disk.now) p n (g.D.Disk.state c.loop-line.disk) to in
      let has = contains_at lines n line at in
      placed_more work lines (g.D.Disk.state c.args.disk.now) p n (g.D.Disk.state c.loop-line.disk) (g.D.Disk.state c.place_file.new.disk) line at to
      (c.in_ok-place_file.ensures.kept told work lines has still) (c.in_ok-place_file.ensures.placed told work lines has still);
}

pub returns-clause-placed : goal.returns-clause-placed
returns-clause-placed g c =
    λ told work p.
    placed_all work c.args.journal.now (g.D.Disk.state c.args.disk.now) p c.loop-line.line-index (g.D.Disk.state c.loop-line.disk)
    (omega (arith, c.loop-line-test.false, ap length c.lines-line-items.ensures.lines)) (c.loop-line.invariant.placed told work p)

pub returns-in_err-place_file-clause-fails : goal.returns-in_err-place_file-clause-fails
returns-in_err-place_file-clause-fails g c =
    let lines = c.args.journal.now in
    let n = c.loop-line.line-index in
    let line = c.line-item.result in
    let at = item_at lines c.lines-line-items.result.now n line c.lines-line-items.ensures.lines (omega arith) c.line-item.is in
    told_on _ c.from_residual.result _ c.from_residual.ensures.1
    (cause_since g.D.Disk.tells (g.D.Disk.state c.args.disk.now) (g.D.Disk.state c.loop-line.disk) (g.D.Disk.state c.place_file.new.disk) lines (line ∷ []) (one_among lines line (contains_at lines n line at))
    (λ told. (c.loop-line.invariant.tree told).each) c.loop-line.invariant.never_falls c.in_err-place_file.field-0.0 c.in_err-place_file.ensures.fails)
