use Rattle.std.proofs.Common.{◌<◌, sym, ◌∙◌, ap, subst, arith}
use Rattle.std.specs.Prelude.{None, Err, is_some}
use Rattle.sd_io.specs.Tree.{Tree}
use Rattle.sd_io.specs.Lists.{IsNoDirectory}
use Rattle.change_phases.specs.Between.{journal_name}
use Rattle.journal.specs.Faults.{WantsMemory}
use Rattle.journal.specs.Finding.{FindsEntry}
use Rattle.journal.specs.Changing.{IsPending, ComesFirst}
use Rattle.journal.specs.declared.fault.JournalFault.TheVariants as fault
use Rattle.journal.proofs.RecoveringLemmas.{between_on, same_trees}
use Rattle.journal.proofs.ChangingLemmas.{preparing_between, looked_keeps, synced_keeps, synced_still, exchanged_before, root_none}
use Rattle.journal.proofs.FileLemmas.{ok_then}
use Rattle.journal.proofs.CauseLemmas.{told_on}
use Rattle.journal.proofs.FindingLemmas.{look_refused}
use Rattle.journal.proofs.ClearingLemmas.{no_more_same}
use Rattle.journal.proofs.MakingLemmas.{root_fails, root_first, root_for_memory, root_none_now, told_on_err, look_fails, no_directory_now, disk_first, looked_at, pending_if, listed_if, none_if, none_found, not_pending, making_change}
use Rattle.journal.proofs.RoomLemmas.{complete}
use Rattle.journal.proofs.changing.change_files.Goals as goal

pub returns-in_err-is_directory-clause-kept : goal.returns-in_err-is_directory-clause-kept
returns-in_err-is_directory-clause-kept g c =
    λ told work b.
    let change = g.R.Replaces.change c.args.replacer.now in
    let root = c.args.root.now in
    let paths = c.args.paths.now in
    let s = g.D.Disk.state c.args.disk.now in
    let s1 = g.D.Disk.state c.is_directory.new.disk in
    preparing_between work s s1 (looked_keeps change work root paths s s1 b c.is_directory.ensures.tree)

pub returns-in_err-sync_dir-clause-kept : goal.returns-in_err-sync_dir-clause-kept
returns-in_err-sync_dir-clause-kept g c =
    λ told work b.
    let change = g.R.Replaces.change c.args.replacer.now in
    let root = c.args.root.now in
    let paths = c.args.paths.now in
    let s = g.D.Disk.state c.args.disk.now in
    let s1 = g.D.Disk.state c.is_directory.new.disk in
    let s2 = g.D.Disk.state c.sync_dir.new.self in
    preparing_between work s s2 (looked_keeps change work root paths s s2 b (same_trees s s1 s2 c.is_directory.ensures.tree c.in_err-sync_dir.ensures.refused))

pub returns-in_err-find_entry-clause-kept : goal.returns-in_err-find_entry-clause-kept
returns-in_err-find_entry-clause-kept g c =
    λ told work b.
    let change = g.R.Replaces.change c.args.replacer.now in
    let root = c.args.root.now in
    let paths = c.args.paths.now in
    let s = g.D.Disk.state c.args.disk.now in
    let s1 = g.D.Disk.state c.is_directory.new.disk in
    let s2 = g.D.Disk.state c.sync_dir.new.self in
    let s3 = g.D.Disk.state c.find_entry.new.disk in
    let holds = g.met.D.Disk.holds_present c.is_directory.new.disk told in
    let y = c.in_ok-sync_dir.ensures.synced told in
    let kept = preparing_between work s s3 (synced_keeps change work root paths s s1 b c.is_directory.ensures.tree s2 holds y s3 c.find_entry.ensures.tree) in
    kept

pub returns-clause-kept : goal.returns-clause-kept
returns-clause-kept g c =
    λ told work b.
    let change = g.R.Replaces.change c.args.replacer.now in
    let root = c.args.root.now in
    let paths = c.args.paths.now in
    let s = g.D.Disk.state c.args.disk.now in
    let s1 = g.D.Disk.state c.is_directory.new.disk in
    let s2 = g.D.Disk.state c.sync_dir.new.self in
    let s3 = g.D.Disk.state c.find_entry.new.disk in
    let holds = g.met.D.Disk.holds_present c.is_directory.new.disk told in
    let y = c.in_ok-sync_dir.ensures.synced told in
    let kept = preparing_between work s s3 (synced_keeps change work root paths s s1 b c.is_directory.ensures.tree s2 holds y s3 c.find_entry.ensures.tree) in
    let still = synced_still change work root paths s s1 b c.is_directory.ensures.tree s2 holds y s3 c.find_entry.ensures.tree in
    between_on work s s3 (g.D.Disk.state c.make_change.new.disk) kept (c.make_change.ensures.kept told work still)

pub returns-clause-changed : goal.returns-clause-changed
returns-clause-changed g c =
    λ told work b.
    let change = g.R.Replaces.change c.args.replacer.now in
    let root = c.args.root.now in
    let paths = c.args.paths.now in
    let s = g.D.Disk.state c.args.disk.now in
    let s1 = g.D.Disk.state c.is_directory.new.disk in
    let s2 = g.D.Disk.state c.sync_dir.new.self in
    let s3 = g.D.Disk.state c.find_entry.new.disk in
    let holds = g.met.D.Disk.holds_present c.is_directory.new.disk told in
    let y = c.in_ok-sync_dir.ensures.synced told in
    let kept = preparing_between work s s3 (synced_keeps change work root paths s s1 b c.is_directory.ensures.tree s2 holds y s3 c.find_entry.ensures.tree) in
    let still = synced_still change work root paths s s1 b c.is_directory.ensures.tree s2 holds y s3 c.find_entry.ensures.tree in
    c.make_change.ensures.changed told work still

pub returns-clause-tree : goal.returns-clause-tree
returns-clause-tree g c =
    λ told work b.
    let change = g.R.Replaces.change c.args.replacer.now in
    let root = c.args.root.now in
    let paths = c.args.paths.now in
    let s = g.D.Disk.state c.args.disk.now in
    let s1 = g.D.Disk.state c.is_directory.new.disk in
    let s2 = g.D.Disk.state c.sync_dir.new.self in
    let s3 = g.D.Disk.state c.find_entry.new.disk in
    let holds = g.met.D.Disk.holds_present c.is_directory.new.disk told in
    let y = c.in_ok-sync_dir.ensures.synced told in
    let kept = preparing_between work s s3 (synced_keeps change work root paths s s1 b c.is_directory.ensures.tree s2 holds y s3 c.find_entry.ensures.tree) in
    let still = synced_still change work root paths s s1 b c.is_directory.ensures.tree s2 holds y s3 c.find_entry.ensures.tree in
    let same = c.find_entry.ensures.tree.tree ∙ y.tree ∙ c.is_directory.ensures.tree.tree in
    ok_then _ _ c.make_change.result (c.make_change.ensures.tree told work still) (exchanged_before work s s3 (g.D.Disk.state c.make_change.new.disk) same)

pub returns-clause-no_directory : goal.returns-clause-no_directory
returns-clause-no_directory g c =
    λ told none. absurd (root_none c.args.root.now (g.D.Disk.state c.args.disk.now) c.in_ok-is_directory.field-0 (c.in_ok-is_directory.ensures.kind told) c.if-not-branch.false none)

-- ---- why it isn't made

pub make_change-requires-clause-no_journal : goal.make_change-requires-clause-no_journal
make_change-requires-clause-no_journal g c =
    λ told folder leads.
    let s2 = g.D.Disk.state c.sync_dir.new.self in
    let s3 = g.D.Disk.state c.find_entry.new.disk in
    let found = none_if s2.tree c.args.root.now c.in_ok-find_entry.field-0 c.is_some.result c.is_some.ensures c.if-is_some.false (c.in_ok-find_entry.ensures.found told) in
    none_found s3.tree c.args.root.now folder (subst (λ (t : Tree). FindsEntry t c.args.root.now journal_name None) (sym c.find_entry.ensures.tree.tree) found) leads

pub returns-in_err-is_directory-clause-fails : goal.returns-in_err-is_directory-clause-fails
returns-in_err-is_directory-clause-fails g c =
    let change = g.R.Replaces.change c.args.replacer.now in
    let root = c.args.root.now in
    let paths = c.args.paths.now in
    let s = g.D.Disk.state c.args.disk.now in
    let s1 = g.D.Disk.state c.is_directory.new.disk in
    told_on _ c.from_residual.result _ c.from_residual.ensures.1
    (root_fails change g.D.Disk.tells root paths s s1 c.in_err-is_directory.field-0.0 c.is_directory.ensures.tree c.in_err-is_directory.ensures.fails)

pub returns-in_err-is_directory-clause-pending : goal.returns-in_err-is_directory-clause-pending
returns-in_err-is_directory-clause-pending g c =
    λ told pending.
    let s = g.D.Disk.state c.args.disk.now in
    told_on_err ComesFirst c.from_residual.result _ c.from_residual.ensures.1
    (root_first g.D.Disk.tells c.args.root.now s (g.D.Disk.state c.is_directory.new.disk) c.in_err-is_directory.field-0.0 told (ap is_some pending.leads) c.in_err-is_directory.ensures.fails)

pub returns-in_err-is_directory-clause-complete : goal.returns-in_err-is_directory-clause-complete
returns-in_err-is_directory-clause-complete g c =
    λ told work b room no_fault.
    complete (g.R.Replaces.change c.args.replacer.now) g.D.Disk.tells work c.args.root.now c.args.paths.now (g.D.Disk.state c.args.disk.now) (g.D.Disk.state c.is_directory.new.disk) _ told b room no_fault
    (returns-in_err-is_directory-clause-fails g c)

pub returns-then-not-branch-clause-pending : goal.returns-then-not-branch-clause-pending
returns-then-not-branch-clause-pending g c =
    λ told pending.
    let s = g.D.Disk.state c.args.disk.now in
    absurd (root_none_now s c.args.root.now c.in_ok-is_directory.field-0 (c.in_ok-is_directory.ensures.kind told) c.if-not-branch.true pending)

pub returns-in_err-sync_dir-clause-fails : goal.returns-in_err-sync_dir-clause-fails
returns-in_err-sync_dir-clause-fails g c =
    let change = g.R.Replaces.change c.args.replacer.now in
    let root = c.args.root.now in
    let paths = c.args.paths.now in
    let s = g.D.Disk.state c.args.disk.now in
    let s1 = g.D.Disk.state c.is_directory.new.disk in
    let s2 = g.D.Disk.state c.sync_dir.new.self in
    told_on _ c.from_residual-in_err-sync_dir.result _ c.from_residual-in_err-sync_dir.ensures.1
    (look_fails change g.D.Disk.tells root paths s s1 s2 (IsNoDirectory s1 root) c.in_err-sync_dir.field-0.0 (λ told. c.in_err-sync_dir.ensures.refused.tree ∙ c.is_directory.ensures.tree.tree) c.is_directory.ensures.never_falls
    (no_directory_now g.D.Disk.tells s s1 root c.in_ok-is_directory.field-0 c.is_directory.ensures.tree.tree c.in_ok-is_directory.ensures.kind c.if-not-branch.false)
    (look_refused g.D.Disk.tells s1 s2 (IsNoDirectory s1 root) c.in_err-sync_dir.field-0.0 c.in_err-sync_dir.ensures.absent c.in_err-sync_dir.ensures.not_taken c.in_err-sync_dir.ensures.cause))

pub returns-in_err-sync_dir-clause-pending : goal.returns-in_err-sync_dir-clause-pending
returns-in_err-sync_dir-clause-pending g c =
    λ told pending. told_on_err ComesFirst c.from_residual-in_err-sync_dir.result _ c.from_residual-in_err-sync_dir.ensures.1 (disk_first c.in_err-sync_dir.field-0.0)

pub returns-in_err-sync_dir-clause-complete : goal.returns-in_err-sync_dir-clause-complete
returns-in_err-sync_dir-clause-complete g c =
    λ told work b room no_fault.
    complete (g.R.Replaces.change c.args.replacer.now) g.D.Disk.tells work c.args.root.now c.args.paths.now (g.D.Disk.state c.args.disk.now) (g.D.Disk.state c.sync_dir.new.self) _ told b room no_fault
    (returns-in_err-sync_dir-clause-fails g c)

pub returns-in_err-find_entry-clause-fails : goal.returns-in_err-find_entry-clause-fails
returns-in_err-find_entry-clause-fails g c =
    let change = g.R.Replaces.change c.args.replacer.now in
    let root = c.args.root.now in
    let paths = c.args.paths.now in
    let s = g.D.Disk.state c.args.disk.now in
    let s1 = g.D.Disk.state c.is_directory.new.disk in
    let s2 = g.D.Disk.state c.sync_dir.new.self in
    let s3 = g.D.Disk.state c.find_entry.new.disk in
    told_on _ c.from_residual-in_err-find_entry.result _ c.from_residual-in_err-find_entry.ensures.1
    (look_fails change g.D.Disk.tells root paths s s2 s3 (IsNoDirectory s2 root) c.in_err-find_entry.field-0.0
    (λ told. c.find_entry.ensures.tree.tree ∙ (c.in_ok-sync_dir.ensures.synced told).tree ∙ c.is_directory.ensures.tree.tree)
    (omega (arith, c.is_directory.ensures.never_falls, c.in_ok-sync_dir.ensures.cause.never_falls))
    (λ told. no_directory_now g.D.Disk.tells s s2 root c.in_ok-is_directory.field-0 ((c.in_ok-sync_dir.ensures.synced told).tree ∙ c.is_directory.ensures.tree.tree) c.in_ok-is_directory.ensures.kind c.if-not-branch.false told)
    c.in_err-find_entry.ensures.fails)

pub returns-in_err-find_entry-clause-pending : goal.returns-in_err-find_entry-clause-pending
returns-in_err-find_entry-clause-pending g c =
    λ told pending. told_on_err ComesFirst c.from_residual-in_err-find_entry.result _ c.from_residual-in_err-find_entry.ensures.1 (disk_first c.in_err-find_entry.field-0.0)

pub returns-in_err-find_entry-clause-complete : goal.returns-in_err-find_entry-clause-complete
returns-in_err-find_entry-clause-complete g c =
    λ told work b room no_fault.
    complete (g.R.Replaces.change c.args.replacer.now) g.D.Disk.tells work c.args.root.now c.args.paths.now (g.D.Disk.state c.args.disk.now) (g.D.Disk.state c.find_entry.new.disk) _ told b room no_fault
    (returns-in_err-find_entry-clause-fails g c)

pub returns-then-is_some-clause-fails : goal.returns-then-is_some-clause-fails
returns-then-is_some-clause-fails g c =
    let change = g.R.Replaces.change c.args.replacer.now in
    let root = c.args.root.now in
    let paths = c.args.paths.now in
    let s = g.D.Disk.state c.args.disk.now in
    let s1 = g.D.Disk.state c.is_directory.new.disk in
    let s2 = g.D.Disk.state c.sync_dir.new.self in
    let s3 = g.D.Disk.state c.find_entry.new.disk in (
      (λ told. looked_at s s1 s2 s3 root (g.met.D.Disk.holds_present c.is_directory.new.disk told) c.is_directory.ensures.tree (c.in_ok-sync_dir.ensures.synced told) c.find_entry.ensures.tree),
      (
        (λ told.
            let same = (c.in_ok-sync_dir.ensures.synced told).tree ∙ c.is_directory.ensures.tree.tree in
            subst (λ (t : Tree). IsPending t root) same (pending_if s2.tree root c.in_ok-find_entry.field-0 c.is_some.result c.is_some.ensures c.if-is_some.true (c.in_ok-find_entry.ensures.found told))),
        (λ untold.
            let more = listed_if c.in_ok-find_entry.field-0 c.is_some.result (s2.listed < s3.listed) c.is_some.ensures c.if-is_some.true c.in_ok-find_entry.ensures.listed in
            omega (arith, more, c.is_directory.ensures.lists.listed, c.in_ok-sync_dir.ensures.lists.listed)),
      ),
    )

pub returns-then-is_some-clause-complete : goal.returns-then-is_some-clause-complete
returns-then-is_some-clause-complete g c =
    λ told work b room no_fault.
    complete {T = Unit {0}} (g.R.Replaces.change c.args.replacer.now) g.D.Disk.tells work c.args.root.now c.args.paths.now (g.D.Disk.state c.args.disk.now) (g.D.Disk.state c.find_entry.new.disk) (Err fault.Pending) told b room no_fault
    (returns-then-is_some-clause-fails g c)

pub returns-clause-fails : goal.returns-clause-fails
returns-clause-fails g c =
    let change = g.R.Replaces.change c.args.replacer.now in
    let root = c.args.root.now in
    let paths = c.args.paths.now in
    let s = g.D.Disk.state c.args.disk.now in
    let s1 = g.D.Disk.state c.is_directory.new.disk in
    let s3 = g.D.Disk.state c.find_entry.new.disk in
    making_change change g.D.Disk.tells root paths s s3 (g.D.Disk.state c.make_change.new.disk) c.make_change.result
    (λ told. c.find_entry.ensures.tree.tree ∙ (c.in_ok-sync_dir.ensures.synced told).tree ∙ c.is_directory.ensures.tree.tree)
    (omega (arith, c.is_directory.ensures.never_falls, c.in_ok-sync_dir.ensures.cause.never_falls, c.find_entry.ensures.never_falls)) c.make_change.ensures.fails

pub returns-clause-pending : goal.returns-clause-pending
returns-clause-pending g c =
    λ told pending.
    let s2 = g.D.Disk.state c.sync_dir.new.self in
    let same = (c.in_ok-sync_dir.ensures.synced told).tree ∙ c.is_directory.ensures.tree.tree in
    let found = none_if s2.tree c.args.root.now c.in_ok-find_entry.field-0 c.is_some.result c.is_some.ensures c.if-is_some.false (c.in_ok-find_entry.ensures.found told) in
    absurd (not_pending s2.tree c.args.root.now found (subst (λ (t : Tree). IsPending t c.args.root.now) (sym same) pending))

pub returns-clause-complete : goal.returns-clause-complete
returns-clause-complete g c =
    λ told work b room no_fault.
    complete (g.R.Replaces.change c.args.replacer.now) g.D.Disk.tells work c.args.root.now c.args.paths.now (g.D.Disk.state c.args.disk.now) (g.D.Disk.state c.make_change.new.disk) _ told b room no_fault
    (returns-clause-fails g c)

-- ---- where a journal is pending nothing is written

pub returns-in_err-is_directory-clause-unwritten : goal.returns-in_err-is_directory-clause-unwritten
returns-in_err-is_directory-clause-unwritten g c = λ told pending. no_more_same (g.D.Disk.state c.args.disk.now) (g.D.Disk.state c.is_directory.new.disk) c.is_directory.ensures.tree

pub returns-then-not-branch-clause-unwritten : goal.returns-then-not-branch-clause-unwritten
returns-then-not-branch-clause-unwritten g c = λ told pending. no_more_same (g.D.Disk.state c.args.disk.now) (g.D.Disk.state c.is_directory.new.disk) c.is_directory.ensures.tree

pub returns-in_err-sync_dir-clause-unwritten : goal.returns-in_err-sync_dir-clause-unwritten
returns-in_err-sync_dir-clause-unwritten g c =
    λ told pending.
    let s = g.D.Disk.state c.args.disk.now in
    let s1 = g.D.Disk.state c.is_directory.new.disk in
    let s2 = g.D.Disk.state c.sync_dir.new.self in
    no_more_same s s2 (same_trees s s1 s2 c.is_directory.ensures.tree c.in_err-sync_dir.ensures.refused)

pub returns-in_err-find_entry-clause-unwritten : goal.returns-in_err-find_entry-clause-unwritten
returns-in_err-find_entry-clause-unwritten g c =
    λ told pending.
    looked_at (g.D.Disk.state c.args.disk.now) (g.D.Disk.state c.is_directory.new.disk) (g.D.Disk.state c.sync_dir.new.self) (g.D.Disk.state c.find_entry.new.disk) c.args.root.now
    (g.met.D.Disk.holds_present c.is_directory.new.disk told) c.is_directory.ensures.tree (c.in_ok-sync_dir.ensures.synced told) c.find_entry.ensures.tree

pub returns-then-is_some-clause-unwritten : goal.returns-then-is_some-clause-unwritten
returns-then-is_some-clause-unwritten g c =
    λ told pending.
    looked_at (g.D.Disk.state c.args.disk.now) (g.D.Disk.state c.is_directory.new.disk) (g.D.Disk.state c.sync_dir.new.self) (g.D.Disk.state c.find_entry.new.disk) c.args.root.now
    (g.met.D.Disk.holds_present c.is_directory.new.disk told) c.is_directory.ensures.tree (c.in_ok-sync_dir.ensures.synced told) c.find_entry.ensures.tree

pub returns-clause-unwritten : goal.returns-clause-unwritten
returns-clause-unwritten g c =
    λ told pending.
    let s2 = g.D.Disk.state c.sync_dir.new.self in
    let same = (c.in_ok-sync_dir.ensures.synced told).tree ∙ c.is_directory.ensures.tree.tree in
    let found = none_if s2.tree c.args.root.now c.in_ok-find_entry.field-0 c.is_some.result c.is_some.ensures c.if-is_some.false (c.in_ok-find_entry.ensures.found told) in
    absurd (not_pending s2.tree c.args.root.now found (subst (λ (t : Tree). IsPending t c.args.root.now) (sym same) pending))

-- ---- where the root leads to a node that is no directory

pub returns-in_err-is_directory-clause-elsewhere : goal.returns-in_err-is_directory-clause-elsewhere
returns-in_err-is_directory-clause-elsewhere g c =
    λ told leads none no_fault.
    told_on WantsMemory c.from_residual.result _ c.from_residual.ensures.1
    (root_for_memory g.D.Disk.tells c.args.root.now (g.D.Disk.state c.args.disk.now) (g.D.Disk.state c.is_directory.new.disk) c.in_err-is_directory.field-0.0 told leads no_fault
    c.in_err-is_directory.ensures.fails)

pub returns-in_err-sync_dir-clause-elsewhere : goal.returns-in_err-sync_dir-clause-elsewhere
returns-in_err-sync_dir-clause-elsewhere g c = λ told leads none no_fault. absurd (root_none c.args.root.now (g.D.Disk.state c.args.disk.now) c.in_ok-is_directory.field-0 (c.in_ok-is_directory.ensures.kind told) c.if-not-branch.false none)

pub returns-in_err-find_entry-clause-elsewhere : goal.returns-in_err-find_entry-clause-elsewhere
returns-in_err-find_entry-clause-elsewhere g c = λ told leads none no_fault. absurd (root_none c.args.root.now (g.D.Disk.state c.args.disk.now) c.in_ok-is_directory.field-0 (c.in_ok-is_directory.ensures.kind told) c.if-not-branch.false none)

pub returns-then-is_some-clause-elsewhere : goal.returns-then-is_some-clause-elsewhere
returns-then-is_some-clause-elsewhere g c = λ told leads none no_fault. absurd (root_none c.args.root.now (g.D.Disk.state c.args.disk.now) c.in_ok-is_directory.field-0 (c.in_ok-is_directory.ensures.kind told) c.if-not-branch.false none)

pub returns-clause-elsewhere : goal.returns-clause-elsewhere
returns-clause-elsewhere g c = λ told leads none no_fault. absurd (root_none c.args.root.now (g.D.Disk.state c.args.disk.now) c.in_ok-is_directory.field-0 (c.in_ok-is_directory.ensures.kind told) c.if-not-branch.false none)
