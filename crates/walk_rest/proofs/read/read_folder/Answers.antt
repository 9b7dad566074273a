use Rattle.std.proofs.Common.{refl, sym, ◌∙◌, ap, reverse}
use Rattle.std.specs.Prelude.{IsTrue, IsSome}
use Rattle.sd_io.specs.Count.{HasRisen}
use Rattle.sd_io.specs.Lists.{directory_of}
use Rattle.walk_rest.proofs.read.ReadLemmas.{added_none, added_one}
use Rattle.walk_rest.specs.Read.{manner_by}
use Rattle.walk_rest.proofs.read.FolderLemmas.{read_too_deep, read_whole, read_not_opened, is_there, same_leaves, refused_risen}
use Rattle.walk_rest.proofs.read.read_folder.Given as given
use Rattle.walk_rest.proofs.read.read_folder.Goals as goal

pub returns-then-options-folder-clause-read : goal.returns-then-options-folder-clause-read
returns-then-options-folder-clause-read g c = λ tells by device inner compares contents.
    read_too_deep (g.D.Disk.state c.args.disk.now) (g.D.Disk.state c.args.disk.now).tree (manner_by c.args.options.now (g.S.Order.sorts c.args.order.now) by device) c.args.folder.now
    c.args.faults.now.items inner _ c.if-options-folder.true contents (ap reverse c.new.ensures.items)

pub returns-in_ok-put_in_order-in-Ok-clause-read : goal.returns-in_ok-put_in_order-in-Ok-clause-read
returns-in_ok-put_in_order-in-Ok-clause-read g c = λ tells by device inner compares contents.
    let old = g.D.Disk.state c.args.disk.now in
    let mid = g.D.Disk.state c.open_dir.new.self in
    let now = g.D.Disk.state c.read_list-read.new.disk in
    let new = g.D.Disk.state c.close_dir.new.self in
    read_whole old mid now new (manner_by c.args.options.now (g.S.Order.sorts c.args.order.now) by device) c.args.folder.now c.in-Ok.list.number c.args.faults.now.items _ inner
    c.in_ok-entries-in-Ok.entries.items _ (g.met.S.Order.total c.args.order.now by compares) c.if-options-folder.false contents (rw c.as_str.ensures.same at c.in-Ok.ensures.entries tells)
    c.in-Ok.ensures.opened.listed c.open_dir.ensures.cause.never_falls (c.in_ok-entries-in-Ok.ensures.read tells) c.close_dir.ensures.closed.listed c.close_dir.ensures.faults
    (c.in_ok-put_in_order-in-Ok.ensures.in_order by compares)

-- the refusal was counted
risen : (g : given.Over) (c : goal.After-new-in-Err-2 g) → (IsTrue g.D.Disk.tells → IsSome (directory_of (g.D.Disk.state c.args.disk.now).tree c.args.folder.now.path))
    → HasRisen (g.D.Disk.state c.args.disk.now).faults (g.D.Disk.state c.open_dir.new.self).faults
risen g c there =
    let o = c.open_dir.ensures in
    refused_risen g.D.Disk.tells (g.D.Disk.state c.args.disk.now) (g.D.Disk.state c.open_dir.new.self) c.args.folder.now.path c.open_dir.result c.in-Err.fault o.cause c.in-Err.is
    (λ same. let h = sym c.if-eq.false ∙ c.eq.ensures in let k = rw same at h in absurd (cc k)) (λ tells absent. rw c.as_str.ensures.same at o.absent tells absent) o.not_taken there

pub returns-in_ok-push-in-Err-clause-read : goal.returns-in_ok-push-in-Err-clause-read
returns-in_ok-push-in-Err-clause-read g c = λ tells by device inner compares contents.
    let old = g.D.Disk.state c.args.disk.now in
    let manner = manner_by c.args.options.now (g.S.Order.sorts c.args.order.now) by device in
    read_not_opened old (g.D.Disk.state c.open_dir.new.self) c.args.folder.now c.args.faults.now.items _ _ inner _ c.open_dir.ensures.cause.never_falls
    (risen g c (λ told. is_there old.tree manner c.args.folder.now inner c.if-options-folder.false contents))
    c.in_ok-push-in-Err.ensures.items (rw (c.in_ok-path-in-Err.ensures, c.as_str-in-Err.ensures.same) refl) (ap reverse c.new-in-Err-2.ensures.items)

pub returns-in_ok-push-in-Err-clause-due : goal.returns-in_ok-push-in-Err-clause-due
returns-in_ok-push-in-Err-clause-due g c = λ there.
    let old = g.D.Disk.state c.args.disk.now in
    added_one old old (g.D.Disk.state c.open_dir.new.self) c.args.faults.now.items c.args.faults.now.items _ _ c.open_dir.ensures.cause.never_falls
    (risen g c (λ told. there told c.if-options-folder.false)) c.in_ok-push-in-Err.ensures.items (added_none old _ _ refl)

pub returns-in_ok-push-in-Err-clause-lists : goal.returns-in_ok-push-in-Err-clause-lists
returns-in_ok-push-in-Err-clause-lists g c = same_leaves (g.D.Disk.state c.args.disk.now) (g.D.Disk.state c.open_dir.new.self) c.in-Err.ensures.refused
