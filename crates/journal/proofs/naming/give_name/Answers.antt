use Rattle.change_phases.specs.Phases.{naming}
use Rattle.file_exchange.proofs.FillingLemmas.{renamed}
use Rattle.journal.proofs.FileLemmas.{ok_then}
use Rattle.journal.proofs.KeepingLemmas.{keeps_then, settled_still, folder_kept}
use Rattle.journal.proofs.NamingLemmas.{named_keeps, renaming_keeps, named_for_good, moves_to, naming_cause, naming_root}
use Rattle.journal.proofs.CauseLemmas.{told_on}
use Rattle.sd_io.proofs.WayLemmas.{renames_ways}
use Rattle.journal.proofs.naming.give_name.Goals as goal

pub returns-in_err-rename-clause-kept : goal.returns-in_err-rename-clause-kept
returns-in_err-rename-clause-kept g c =
    λ told work lines m.
    let before = g.D.Disk.state c.args.disk.now in
    let after = g.D.Disk.state c.rename.new.self in
    renaming_keeps work lines c.args.temporary.now c.args.journal.now c.args.root.now before (g.met.D.Disk.is_tree c.args.disk.now told) (g.met.D.Disk.holds_present c.args.disk.now told) m after
    (renamed c.rename.result before after c.args.temporary.now c.args.journal.now (c.rename.ensures.renamed told) (c.rename.ensures.failed told) c.rename.ensures.refused)

pub returns-clause-kept : goal.returns-clause-kept
returns-clause-kept g c =
    λ told work lines m.
    let before = g.D.Disk.state c.args.disk.now in
    let middle = g.D.Disk.state c.rename.new.self in
    let after = g.D.Disk.state c.sync_dir.new.self in
    let kept = named_keeps work lines c.args.temporary.now c.args.journal.now c.args.root.now before (g.met.D.Disk.is_tree c.args.disk.now told) (g.met.D.Disk.holds_present c.args.disk.now told) m middle (c.in_ok-rename.ensures.renamed told) in
    keeps_then naming work lines before middle after kept
    (folder_kept naming work lines middle after c.args.root.now c.sync_dir.result (g.met.D.Disk.holds_present c.rename.new.self told) (settled_still naming work lines before middle m.phase kept)
    (c.sync_dir.ensures.synced told) c.sync_dir.ensures.refused)

pub returns-clause-named : goal.returns-clause-named
returns-clause-named g c =
    λ told work lines m.
    let before = g.D.Disk.state c.args.disk.now in
    ok_then _ _ c.sync_dir.result (c.sync_dir.ensures.synced told)
    (λ synced. named_for_good work lines c.args.temporary.now c.args.journal.now c.args.root.now before (g.met.D.Disk.is_tree c.args.disk.now told) (g.met.D.Disk.holds_present c.args.disk.now told) m
    (g.D.Disk.state c.rename.new.self) (g.D.Disk.state c.sync_dir.new.self) (g.met.D.Disk.holds_present c.rename.new.self told) (c.in_ok-rename.ensures.renamed told) synced)

pub returns-clause-tree : goal.returns-clause-tree
returns-clause-tree g c =
    λ told.
    moves_to (g.D.Disk.state c.args.disk.now) (g.D.Disk.state c.rename.new.self) (g.D.Disk.state c.sync_dir.new.self) c.args.temporary.now c.args.journal.now c.sync_dir.result (c.in_ok-rename.ensures.renamed told)
    (ok_then _ _ c.sync_dir.result (c.sync_dir.ensures.synced told) (λ synced. synced.tree))

pub returns-in_err-rename-clause-fails : goal.returns-in_err-rename-clause-fails
returns-in_err-rename-clause-fails g c =
    told_on _ c.from_residual.result _ c.from_residual.ensures.1
    (naming_cause g.D.Disk.tells (g.D.Disk.state c.args.disk.now) (g.D.Disk.state c.rename.new.self) c.args.temporary.now c.args.journal.now c.args.root.now c.in_err-rename.field-0.0 c.in_err-rename.ensures.cause
    c.in_err-rename.ensures.not_taken c.in_err-rename.ensures.absent)

pub returns-clause-fails : goal.returns-clause-fails
returns-clause-fails g c =
    naming_root g.D.Disk.tells (g.D.Disk.state c.args.disk.now) (g.D.Disk.state c.rename.new.self) (g.D.Disk.state c.sync_dir.new.self) c.args.temporary.now c.args.journal.now c.args.root.now c.sync_dir.result
    c.in_ok-rename.ensures.cause.never_falls (λ told. renames_ways (g.D.Disk.state c.args.disk.now) c.args.temporary.now c.args.journal.now (g.D.Disk.state c.rename.new.self) (c.in_ok-rename.ensures.renamed told))
    c.sync_dir.ensures.cause c.sync_dir.ensures.not_taken c.sync_dir.ensures.absent
