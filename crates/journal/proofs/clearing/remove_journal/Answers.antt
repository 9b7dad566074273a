use Rattle.std.proofs.Common.{inl}
use Rattle.sd_io.proofs.WayLemmas.{removes_ways}
use Rattle.change_phases.specs.Phases.{removing}
use Rattle.journal.proofs.CauseLemmas.{told_on, removal_cause, root_cause, removed_at}
use Rattle.journal.proofs.FileLemmas.{ok_then}
use Rattle.journal.proofs.KeepingLemmas.{removed_keeps, removed_gone, synced_cleared, keeps_then, settled_still, folder_kept}
use Rattle.journal.proofs.clearing.remove_journal.Goals as goal

pub returns-clause-kept : goal.returns-clause-kept
returns-clause-kept g c =
    λ told work lines are p.
    let before = g.D.Disk.state c.args.disk.now in
    let middle = g.D.Disk.state c.remove.new.self in
    let after = g.D.Disk.state c.sync_dir.new.self in
    let gone = removed_keeps work lines c.args.root.now c.args.journal.now are before (g.met.D.Disk.holds_present c.args.disk.now told) p (g.met.D.Disk.is_tree c.args.disk.now told) middle (c.in_ok-remove.ensures.removed told) in
    keeps_then removing work lines before middle after gone
    (folder_kept removing work lines middle after c.args.root.now c.sync_dir.result (g.met.D.Disk.holds_present c.remove.new.self told) (settled_still removing work lines before middle p gone)
    (c.sync_dir.ensures.synced told) c.sync_dir.ensures.refused)

pub returns-clause-cleared : goal.returns-clause-cleared
returns-clause-cleared g c =
    λ told work lines are p.
    let before = g.D.Disk.state c.args.disk.now in
    let middle = g.D.Disk.state c.remove.new.self in
    let after = g.D.Disk.state c.sync_dir.new.self in
    let holds = g.met.D.Disk.holds_present c.args.disk.now told in
    let is = g.met.D.Disk.is_tree c.args.disk.now told in
    let gone = removed_keeps work lines c.args.root.now c.args.journal.now are before holds p is middle (c.in_ok-remove.ensures.removed told) in
    let none = removed_gone work lines c.args.root.now c.args.journal.now are before holds p is middle (c.in_ok-remove.ensures.removed told) in
    ok_then _ _ c.sync_dir.result (c.sync_dir.ensures.synced told)
    (λ synced. synced_cleared work lines c.args.root.now c.args.journal.now are middle (g.met.D.Disk.holds_present c.remove.new.self told) (settled_still removing work lines before middle p gone) after none synced)

pub returns-in_err-remove-clause-fails : goal.returns-in_err-remove-clause-fails
returns-in_err-remove-clause-fails g c =
    told_on _ c.from_residual.result _ c.from_residual.ensures.1
    (removal_cause g.D.Disk.tells (g.D.Disk.state c.args.disk.now) (g.D.Disk.state c.remove.new.self) c.args.root.now c.args.journal.now c.in_err-remove.field-0.0 c.in_err-remove.ensures.cause
    c.in_err-remove.ensures.not_taken (λ told absent. inl (c.in_err-remove.ensures.absent told absent)))

pub returns-clause-tree : goal.returns-clause-tree
returns-clause-tree g c =
    λ told.
    removed_at (g.D.Disk.state c.args.disk.now) (g.D.Disk.state c.remove.new.self) (g.D.Disk.state c.sync_dir.new.self) c.args.journal.now c.sync_dir.result (c.in_ok-remove.ensures.removed told)
    (ok_then _ _ c.sync_dir.result (c.sync_dir.ensures.synced told) (λ synced. synced.tree))

pub returns-clause-fails : goal.returns-clause-fails
returns-clause-fails g c =
    root_cause g.D.Disk.tells (g.D.Disk.state c.args.disk.now) (g.D.Disk.state c.remove.new.self) (g.D.Disk.state c.sync_dir.new.self) c.args.root.now c.args.journal.now c.sync_dir.result
    c.in_ok-remove.ensures.cause.never_falls (λ told. removes_ways (g.D.Disk.state c.args.disk.now) c.args.journal.now (g.D.Disk.state c.remove.new.self) (c.in_ok-remove.ensures.removed told))
    c.sync_dir.ensures.cause c.sync_dir.ensures.not_taken c.sync_dir.ensures.absent
