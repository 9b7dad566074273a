use Rattle.std.proofs.Common.{refl, sym, ◌∙◌, ap, inl, inr, reverse}
use Rattle.std.specs.Prelude.{is_some}
use Rattle.walk_rest.proofs.ReadLemmas.{added_none, added_on, added_one}
use Rattle.walk_rest.proofs.FolderLemmas.{refused_risen}
use Rattle.walk_steps.proofs.open.OpenLemmas.{opened_all}
use Rattle.walk_steps.proofs.open.open_list.Goals as goal

pub returns-in-Ok-clause-opened : goal.returns-in-Ok-clause-opened
returns-in-Ok-clause-opened g c = λ tells listed names.
    inl (opened_all (g.D.Disk.state c.args.disk.now) (g.D.Disk.state c.open_dir.new.self) c.args.folder.now c.in-Ok.list.number listed names (rw c.as_str.ensures.same at (c.in-Ok.ensures.entries tells)), refl)

pub returns-in_ok-push-in-Err-clause-opened : goal.returns-in_ok-push-in-Err-clause-opened
returns-in_ok-push-in-Err-clause-opened g c = λ tells listed names.
    let o = c.open_dir.ensures in
    let old = g.D.Disk.state c.args.disk.now in
    let risen = refused_risen g.D.Disk.tells old (g.D.Disk.state c.open_dir.new.self) c.args.folder.now.path c.open_dir.result c.in-Err.fault o.cause c.in-Err.is
    (λ same. let h = sym c.if-eq.false ∙ c.eq.ensures in let k = rw same at h in absurd (cc k)) (λ told absent. rw c.as_str.ensures.same at (o.absent told absent)) o.not_taken (λ told. ap is_some names.leads) in
    inr (ap reverse c.new-in-Err.ensures.items, risen, (_, c.in_ok-push-in-Err.ensures.items, rw (c.in_ok-new-in-Err.ensures, c.as_str-in-Err.ensures.same) refl))

pub returns-in-Ok-clause-counted : goal.returns-in-Ok-clause-counted
returns-in-Ok-clause-counted g c = λ there.
    let old = g.D.Disk.state c.args.disk.now in
    let due = c.args.faults.now.items in
    added_on old old (g.D.Disk.state c.open_dir.new.self) due due c.open_dir.ensures.cause.never_falls (added_none old due due refl)

pub returns-in_ok-push-in-Err-clause-counted : goal.returns-in_ok-push-in-Err-clause-counted
returns-in_ok-push-in-Err-clause-counted g c = λ there.
    let o = c.open_dir.ensures in
    let old = g.D.Disk.state c.args.disk.now in
    let new = g.D.Disk.state c.open_dir.new.self in
    let due = c.args.faults.now.items in
    let risen = refused_risen g.D.Disk.tells old new c.args.folder.now.path c.open_dir.result c.in-Err.fault o.cause c.in-Err.is
    (λ same. let h = sym c.if-eq.false ∙ c.eq.ensures in let k = rw same at h in absurd (cc k)) (λ told absent. rw c.as_str.ensures.same at (o.absent told absent)) o.not_taken there in
    added_one old old new due due _ _ o.cause.never_falls risen c.in_ok-push-in-Err.ensures.items (added_none old due due refl)
