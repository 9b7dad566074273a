use Rattle.std.proofs.Common.{arith, refl, length, ◌∙◌, ap, reverse}
use Rattle.std.proofs.lemmas.List.{reverse-reverse}
use Rattle.walk_rest.proofs.ReadLemmas.{added_on}
use Rattle.walk_steps.proofs.keep.KeepLemmas.{level_kept}
use Rattle.walk_steps.proofs.take.WaitsLemmas.{counted_each, level_less, size_of}
use Rattle.walk_steps.proofs.keep.keep_level.Goals as goal

pub returns-clause-kept : goal.returns-clause-kept
returns-clause-kept g c = λ tells.
    let kept = c.in_ok-kept.kept.items in
    level_kept (g.D.Disk.state c.args.disk.now) (g.D.Disk.state c.read_list.new.disk) (g.D.Disk.state c.close_dir.new.self) c.args.level.now _ c.in-Some.folder c.in-Open.list kept
    c.in-Some.is c.in-Open.is (c.in_ok-kept.ensures.read tells) (ap reverse c.reverse.ensures.items ∙ reverse-reverse kept) refl refl
    (c.close_dir.ensures.tree.tree ∙ c.in_ok-kept.ensures.tree.tree) c.close_dir.ensures.faults

pub returns-clause-due : goal.returns-clause-due
returns-clause-due g c =
    let now = g.D.Disk.state c.read_list.new.disk in
    let new = g.D.Disk.state c.close_dir.new.self in
    let e = c.close_dir.ensures.faults in
    added_on (g.D.Disk.state c.args.disk.now) now new c.args.level.now.faults.items c.read_list.new.faults.items (omega (arith, e)) c.in_ok-kept.ensures.due

pub returns-clause-listed_each : goal.returns-clause-listed_each
returns-clause-listed_each g c =
    let s = g.D.Disk.state c.args.disk.now in
    let now = g.D.Disk.state c.read_list.new.disk in
    let r = c.in_ok-kept.ensures in
    let more = counted_each _ s now r.taken r.later in
    let same = c.close_dir.ensures.closed.listed in
    let many = ap length (ap reverse c.reverse.ensures.items) in
    let n = c.in_ok-kept.kept.ok.0 in
    let open_size = ap size_of c.in-Open.is in
    let later = r.later in
    level_less c.args.level.now (record c.args.level.now { entries = _; faults = c.read_list.new.faults }) s.listed (g.D.Disk.state c.close_dir.new.self).listed refl refl (omega (arith, more, same, n, open_size)) (omega (arith, later, same))

pub returns-clause-kept_listed : goal.returns-clause-kept_listed
returns-clause-kept_listed g c =
    let s = g.D.Disk.state c.args.disk.now in
    let now = g.D.Disk.state c.read_list.new.disk in
    let r = c.in_ok-kept.ensures in
    let more = counted_each _ s now r.taken r.later in
    let same = c.close_dir.ensures.closed.listed in
    let many = ap length (ap reverse c.reverse.ensures.items) in
    let n = c.in_ok-kept.kept.ok.0 in
    omega (arith, more, same, n, many)
