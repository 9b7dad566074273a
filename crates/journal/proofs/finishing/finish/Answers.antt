use Rattle.journal.proofs.FinishingLemmas.{carried_out, journal_gone, removal_fails, clearing_fails, syncing_fails, ways_to_end, IsRemoved, placed_between, may_remove, removed_between, may_clear, folders_now, between_removed, between_synced, cleared_synced, gone_synced}
use Rattle.std.proofs.Common.{arith}
use Rattle.journal.proofs.CauseLemmas.{told_on}
use Rattle.journal.proofs.finishing.finish.Goals as goal

pub returns-in_err-place_files-clause-kept : goal.returns-in_err-place_files-clause-kept
returns-in_err-place_files-clause-kept g c =
    λ told work are p. placed_between work c.args.journal.now (g.D.Disk.state c.args.disk.now) p (g.D.Disk.state c.place_files.new.disk) (c.in_err-place_files.ensures.kept told work p)

pub returns-in_err-remove_journal-clause-kept : goal.returns-in_err-remove_journal-clause-kept
returns-in_err-remove_journal-clause-kept g c =
    λ told work are p.
    let lines = c.args.journal.now in
    let s = g.D.Disk.state c.args.disk.now in
    let t = g.D.Disk.state c.place_files.new.disk in
    let v = g.D.Disk.state c.remove_journal.new.disk in
    let placed = c.in_ok-place_files.ensures.kept told work p in
    let ready = may_remove work lines s p t placed (c.in_ok-place_files.ensures.placed told work p) in
    removed_between work lines s p t v placed (c.in_err-remove_journal.ensures.kept told work lines are ready)

pub returns-in_err-remove_stages-clause-kept : goal.returns-in_err-remove_stages-clause-kept
returns-in_err-remove_stages-clause-kept g c =
    λ told work are p.
    let lines = c.args.journal.now in
    let s = g.D.Disk.state c.args.disk.now in
    let t = g.D.Disk.state c.place_files.new.disk in
    let v = g.D.Disk.state c.remove_journal.new.disk in
    let placed = c.in_ok-place_files.ensures.kept told work p in
    let ready = may_remove work lines s p t placed (c.in_ok-place_files.ensures.placed told work p) in
    let removed = c.in_ok-remove_journal.ensures.kept told work lines are ready in
    let r : IsRemoved work lines s t v = record {
      placing_now = p;
      placed = placed;
      removing_now = ready;
      removed = removed;
      cleared_now = may_clear work lines s p t v removed (c.in_ok-remove_journal.ensures.cleared told work lines are ready);
    } in
    let is = g.met.D.Disk.is_tree c.remove_journal.new.disk told in
    let holds = g.met.D.Disk.holds_present c.remove_journal.new.disk told in
    between_removed work lines s t v is holds r (g.D.Disk.state c.remove_stages.new.disk) (c.in_err-remove_stages.ensures.removed told (folders_now work lines s t v is holds r))

pub returns-in_err-sync_folders-clause-kept : goal.returns-in_err-sync_folders-clause-kept
returns-in_err-sync_folders-clause-kept g c =
    λ told work are p.
    let lines = c.args.journal.now in
    let s = g.D.Disk.state c.args.disk.now in
    let t = g.D.Disk.state c.place_files.new.disk in
    let v = g.D.Disk.state c.remove_journal.new.disk in
    let placed = c.in_ok-place_files.ensures.kept told work p in
    let ready = may_remove work lines s p t placed (c.in_ok-place_files.ensures.placed told work p) in
    let removed = c.in_ok-remove_journal.ensures.kept told work lines are ready in
    let r : IsRemoved work lines s t v = record {
      placing_now = p;
      placed = placed;
      removing_now = ready;
      removed = removed;
      cleared_now = may_clear work lines s p t v removed (c.in_ok-remove_journal.ensures.cleared told work lines are ready);
    } in
    let is = g.met.D.Disk.is_tree c.remove_journal.new.disk told in
    let holds = g.met.D.Disk.holds_present c.remove_journal.new.disk told in
    between_synced work lines s t v is holds r (g.D.Disk.state c.remove_stages.new.disk) (c.in_ok-remove_stages.ensures.removed told (folders_now work lines s t v is holds r))
    (g.D.Disk.state c.sync_folders.new.disk) (c.in_err-sync_folders.ensures.kept told)

pub returns-clause-kept : goal.returns-clause-kept
returns-clause-kept g c =
    λ told work are p.
    let lines = c.args.journal.now in
    let s = g.D.Disk.state c.args.disk.now in
    let t = g.D.Disk.state c.place_files.new.disk in
    let v = g.D.Disk.state c.remove_journal.new.disk in
    let placed = c.in_ok-place_files.ensures.kept told work p in
    let ready = may_remove work lines s p t placed (c.in_ok-place_files.ensures.placed told work p) in
    let removed = c.in_ok-remove_journal.ensures.kept told work lines are ready in
    let r : IsRemoved work lines s t v = record {
      placing_now = p;
      placed = placed;
      removing_now = ready;
      removed = removed;
      cleared_now = may_clear work lines s p t v removed (c.in_ok-remove_journal.ensures.cleared told work lines are ready);
    } in
    let is = g.met.D.Disk.is_tree c.remove_journal.new.disk told in
    let holds = g.met.D.Disk.holds_present c.remove_journal.new.disk told in
    between_synced work lines s t v is holds r (g.D.Disk.state c.remove_stages.new.disk) (c.in_ok-remove_stages.ensures.removed told (folders_now work lines s t v is holds r))
    (g.D.Disk.state c.sync_folders.new.disk) (c.in_ok-sync_folders.ensures.kept told)

pub returns-clause-done : goal.returns-clause-done
returns-clause-done g c =
    λ told work are p.
    let lines = c.args.journal.now in
    let s = g.D.Disk.state c.args.disk.now in
    let t = g.D.Disk.state c.place_files.new.disk in
    let v = g.D.Disk.state c.remove_journal.new.disk in
    let placed = c.in_ok-place_files.ensures.kept told work p in
    let ready = may_remove work lines s p t placed (c.in_ok-place_files.ensures.placed told work p) in
    let removed = c.in_ok-remove_journal.ensures.kept told work lines are ready in
    let r : IsRemoved work lines s t v = record {
      placing_now = p;
      placed = placed;
      removing_now = ready;
      removed = removed;
      cleared_now = may_clear work lines s p t v removed (c.in_ok-remove_journal.ensures.cleared told work lines are ready);
    } in
    let is = g.met.D.Disk.is_tree c.remove_journal.new.disk told in
    let holds = g.met.D.Disk.holds_present c.remove_journal.new.disk told in
    cleared_synced work lines s t v is holds r (g.D.Disk.state c.remove_stages.new.disk) (c.in_ok-remove_stages.ensures.removed told (folders_now work lines s t v is holds r))
    (g.D.Disk.state c.sync_folders.new.disk) (c.in_ok-sync_folders.ensures.kept told)

pub returns-clause-stages : goal.returns-clause-stages
returns-clause-stages g c =
    λ told work are p.
    let lines = c.args.journal.now in
    let s = g.D.Disk.state c.args.disk.now in
    let t = g.D.Disk.state c.place_files.new.disk in
    let v = g.D.Disk.state c.remove_journal.new.disk in
    let placed = c.in_ok-place_files.ensures.kept told work p in
    let ready = may_remove work lines s p t placed (c.in_ok-place_files.ensures.placed told work p) in
    let removed = c.in_ok-remove_journal.ensures.kept told work lines are ready in
    let r : IsRemoved work lines s t v = record {
      placing_now = p;
      placed = placed;
      removing_now = ready;
      removed = removed;
      cleared_now = may_clear work lines s p t v removed (c.in_ok-remove_journal.ensures.cleared told work lines are ready);
    } in
    let is = g.met.D.Disk.is_tree c.remove_journal.new.disk told in
    let holds = g.met.D.Disk.holds_present c.remove_journal.new.disk told in
    let folders = folders_now work lines s t v is holds r in
    gone_synced work lines s t v is holds r (g.D.Disk.state c.remove_stages.new.disk) (c.in_ok-remove_stages.ensures.removed told folders)
    (g.D.Disk.state c.sync_folders.new.disk) (c.in_ok-sync_folders.ensures.kept told) (c.in_ok-remove_stages.ensures.gone told folders) (c.in_ok-sync_folders.ensures.synced told)

pub returns-clause-tree : goal.returns-clause-tree
returns-clause-tree g c =
    λ told work are p.
    let lines = c.args.journal.now in
    let s = g.D.Disk.state c.args.disk.now in
    let t = g.D.Disk.state c.place_files.new.disk in
    let v = g.D.Disk.state c.remove_journal.new.disk in
    let w = g.D.Disk.state c.remove_stages.new.disk in
    let x = g.D.Disk.state c.sync_folders.new.disk in
    let placed = c.in_ok-place_files.ensures.kept told work p in
    let ready = may_remove work lines s p t placed (c.in_ok-place_files.ensures.placed told work p) in
    let removed = c.in_ok-remove_journal.ensures.kept told work lines are ready in
    let r : IsRemoved work lines s t v = record {
      placing_now = p;
      placed = placed;
      removing_now = ready;
      removed = removed;
      cleared_now = may_clear work lines s p t v removed (c.in_ok-remove_journal.ensures.cleared told work lines are ready);
    } in
    let is = g.met.D.Disk.is_tree c.remove_journal.new.disk told in
    let holds = g.met.D.Disk.holds_present c.remove_journal.new.disk told in
    let folders = folders_now work lines s t v is holds r in
    let cleared_some = c.in_ok-remove_stages.ensures.removed told folders in
    let kept = c.in_ok-sync_folders.ensures.kept told in
    carried_out work lines s t v w x (g.met.D.Disk.is_tree c.args.disk.now told) (g.met.D.Disk.holds_present c.args.disk.now told) p c.args.root.now c.args.path.now are
    (g.met.D.Disk.is_tree c.place_files.new.disk told) (g.met.D.Disk.holds_present c.place_files.new.disk told) ready (c.in_ok-place_files.ensures.tree told) (c.in_ok-remove_journal.ensures.tree told) cleared_some kept.tree
    (g.met.D.Disk.holds_present c.sync_folders.new.disk told) (cleared_synced work lines s t v is holds r w cleared_some x kept)
    (gone_synced work lines s t v is holds r w cleared_some x kept (c.in_ok-remove_stages.ensures.gone told folders) (c.in_ok-sync_folders.ensures.synced told))

pub returns-clause-gone : goal.returns-clause-gone
returns-clause-gone g c =
    λ told folder at.
    let s = g.D.Disk.state c.args.disk.now in
    let t = g.D.Disk.state c.place_files.new.disk in
    let v = g.D.Disk.state c.remove_journal.new.disk in
    journal_gone s t v (g.D.Disk.state c.remove_stages.new.disk) (g.D.Disk.state c.sync_folders.new.disk) c.args.root.now c.args.path.now folder (g.met.D.Disk.is_tree c.args.disk.now told) at
    (c.in_ok-place_files.ensures.tree told).each (c.in_ok-remove_journal.ensures.tree told) (c.in_ok-remove_stages.ensures.tree told) (c.in_ok-sync_folders.ensures.kept told).tree

pub returns-in_err-place_files-clause-fails : goal.returns-in_err-place_files-clause-fails
returns-in_err-place_files-clause-fails g c = λ stands. told_on _ c.from_residual.result _ c.from_residual.ensures.1 c.in_err-place_files.ensures.fails

pub returns-in_err-remove_journal-clause-fails : goal.returns-in_err-remove_journal-clause-fails
returns-in_err-remove_journal-clause-fails g c =
    λ stands.
    let lines = c.args.journal.now in
    let s = g.D.Disk.state c.args.disk.now in
    let t = g.D.Disk.state c.place_files.new.disk in
    let v = g.D.Disk.state c.remove_journal.new.disk in
    told_on _ c.from_residual-in_err-remove_journal.result _ c.from_residual-in_err-remove_journal.ensures.1
    (removal_fails g.D.Disk.tells s t v lines c.args.root.now c.args.path.now c.in_err-remove_journal.field-0.0 (g.met.D.Disk.is_tree c.args.disk.now) stands (λ told. (c.in_ok-place_files.ensures.tree told).each)
    c.in_ok-place_files.ensures.never_falls c.in_err-remove_journal.ensures.fails)

pub returns-in_err-remove_stages-clause-fails : goal.returns-in_err-remove_stages-clause-fails
returns-in_err-remove_stages-clause-fails g c =
    λ stands.
    let lines = c.args.journal.now in
    let s = g.D.Disk.state c.args.disk.now in
    let t = g.D.Disk.state c.place_files.new.disk in
    let v = g.D.Disk.state c.remove_journal.new.disk in
    told_on _ c.from_residual-in_err-remove_stages.result _ c.from_residual-in_err-remove_stages.ensures.1
    (clearing_fails g.D.Disk.tells s v (g.D.Disk.state c.remove_stages.new.disk) lines c.in_err-remove_stages.field-0.0
    (omega (arith, c.in_ok-place_files.ensures.never_falls, c.in_ok-remove_journal.ensures.never_falls)) c.in_err-remove_stages.ensures.fails)

pub returns-in_err-sync_folders-clause-fails : goal.returns-in_err-sync_folders-clause-fails
returns-in_err-sync_folders-clause-fails g c =
    λ stands.
    let lines = c.args.journal.now in
    let s = g.D.Disk.state c.args.disk.now in
    let t = g.D.Disk.state c.place_files.new.disk in
    let v = g.D.Disk.state c.remove_journal.new.disk in
    let w = g.D.Disk.state c.remove_stages.new.disk in
    told_on _ c.from_residual-in_err-sync_folders.result _ c.from_residual-in_err-sync_folders.ensures.1
    (syncing_fails g.D.Disk.tells s w (g.D.Disk.state c.sync_folders.new.disk) lines c.in_err-sync_folders.field-0.0
    (λ told. ways_to_end s t v w c.args.path.now (c.in_ok-place_files.ensures.tree told).each (c.in_ok-remove_journal.ensures.tree told) (c.in_ok-remove_stages.ensures.tree told))
    (omega (arith, c.in_ok-place_files.ensures.never_falls, c.in_ok-remove_journal.ensures.never_falls, c.in_ok-remove_stages.ensures.never_falls)) c.in_err-sync_folders.ensures.fails)
