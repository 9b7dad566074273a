use Rattle.std.proofs.Common.{inl, inr, arith}
use Rattle.file_exchange.proofs.CauseLemmas.{passed_on, step_cause}
use Rattle.file_exchange.proofs.FillingLemmas.{wrote_after}
use Rattle.journal.proofs.BesideLemmas.{nothing_beside, file_created, file_written, left_written, left_synced, made_beside}
use Rattle.journal.proofs.beside.make_beside.Goals as goal

pub returns-in_err-made-clause-left : goal.returns-in_err-made-clause-left
returns-in_err-made-clause-left g c = λ told. nothing_beside _ _ _ (c.in_err-made.ensures.refused told)

pub returns-in_err-write_file-clause-left : goal.returns-in_err-write_file-clause-left
returns-in_err-write_file-clause-left g c =
    λ told.
    let s0 = g.D.Disk.state c.args.disk.now in
    let s1 = g.D.Disk.state c.create_temporary.new.disk in
    let t = g.D.Disk.state c.write_file.new.self in
    let created = rw c.in-Some.is at (c.in_ok-made.ensures.created told) in
    let wrote = wrote_after c.in_err-write_file.field-0.0 s1 t c.as_str-path.result.now (c.in_err-write_file.ensures.failed told) c.in_err-write_file.ensures.refused in
    left_written s0 s1 _ _ c.in-Some.made created (g.met.D.Disk.is_tree c.create_temporary.new.disk told) t (rw c.as_str-path.ensures.same at wrote)

pub returns-in_err-sync-clause-left : goal.returns-in_err-sync-clause-left
returns-in_err-sync-clause-left g c =
    λ told.
    let s0 = g.D.Disk.state c.args.disk.now in
    let s1 = g.D.Disk.state c.create_temporary.new.disk in
    let s2 = g.D.Disk.state c.write_file.new.self in
    let t = g.D.Disk.state c.sync.new.self in
    let created = rw c.in-Some.is at (c.in_ok-made.ensures.created told) in
    let wrote = wrote_after c.in_err-sync.field-0.0 s2 t c.as_str-path.result.now (c.in_err-sync.ensures.failed told) c.in_err-sync.ensures.refused in
    left_synced s0 s1 _ _ c.in-Some.made created (g.met.D.Disk.is_tree c.create_temporary.new.disk told) s2 c.args.bytes.now (rw c.as_str-path.ensures.same at (c.in_ok-write_file.ensures.written told))
    (g.met.D.Disk.is_tree c.write_file.new.self told) t (inl (rw c.as_str-path.ensures.same at wrote))

pub returns-clause-left : goal.returns-clause-left
returns-clause-left g c =
    λ told.
    let s0 = g.D.Disk.state c.args.disk.now in
    let s1 = g.D.Disk.state c.create_temporary.new.disk in
    let s2 = g.D.Disk.state c.write_file.new.self in
    let t = g.D.Disk.state c.sync.new.self in
    let created = rw c.in-Some.is at (c.in_ok-made.ensures.created told) in
    left_synced s0 s1 _ _ c.in-Some.made created (g.met.D.Disk.is_tree c.create_temporary.new.disk told) s2 c.args.bytes.now (rw c.as_str-path.ensures.same at (c.in_ok-write_file.ensures.written told))
    (g.met.D.Disk.is_tree c.write_file.new.self told) t (inr (rw c.as_str-path.ensures.same at (c.in_ok-sync.ensures.synced told)))

pub returns-clause-made : goal.returns-clause-made
returns-clause-made g c =
    λ told.
    let s0 = g.D.Disk.state c.args.disk.now in
    let s1 = g.D.Disk.state c.create_temporary.new.disk in
    let s2 = g.D.Disk.state c.write_file.new.self in
    let t = g.D.Disk.state c.sync.new.self in
    let created = rw c.in-Some.is at (c.in_ok-made.ensures.created told) in
    made_beside s0 s1 _ _ c.in-Some.made created (g.met.D.Disk.is_tree c.create_temporary.new.disk told) s2 c.args.bytes.now (rw c.as_str-path.ensures.same at (c.in_ok-write_file.ensures.written told))
    (g.met.D.Disk.is_tree c.write_file.new.self told) t (rw c.as_str-path.ensures.same at (c.in_ok-sync.ensures.synced told))

pub returns-in_err-write_file-clause-cause : goal.returns-in_err-write_file-clause-cause
returns-in_err-write_file-clause-cause g c =
    step_cause _ _ _ _ _ _ (λ f is. passed_on c.from_residual-in_err-write_file.result _ f c.from_residual-in_err-write_file.ensures.1 is)
    c.in_ok-made.ensures.cause.never_falls c.in_err-write_file.ensures.cause c.in_err-write_file.ensures.not_taken
    (λ told absent.
    let s0 = g.D.Disk.state c.args.disk.now in
    let s1 = g.D.Disk.state c.create_temporary.new.disk in
    let created = rw c.in-Some.is at (c.in_ok-made.ensures.created told) in
    file_created s0 s1 _ _ c.in-Some.made created (g.met.D.Disk.is_tree c.create_temporary.new.disk told) (rw c.as_str-path.ensures.same at (c.in_err-write_file.ensures.absent told absent)))

pub returns-in_err-sync-clause-cause : goal.returns-in_err-sync-clause-cause
returns-in_err-sync-clause-cause g c =
    step_cause _ _ _ _ _ _ (λ f is. passed_on c.from_residual-in_err-sync.result _ f c.from_residual-in_err-sync.ensures.1 is)
    (omega (arith, c.in_ok-made.ensures.cause.never_falls, c.in_ok-write_file.ensures.cause.never_falls)) c.in_err-sync.ensures.cause c.in_err-sync.ensures.not_taken
    (λ told absent.
    let s0 = g.D.Disk.state c.args.disk.now in
    let s1 = g.D.Disk.state c.create_temporary.new.disk in
    let s2 = g.D.Disk.state c.write_file.new.self in
    let created = rw c.in-Some.is at (c.in_ok-made.ensures.created told) in
    file_written s0 s1 _ _ c.in-Some.made created (g.met.D.Disk.is_tree c.create_temporary.new.disk told) s2 c.args.bytes.now (rw c.as_str-path.ensures.same at (c.in_ok-write_file.ensures.written told))
    (g.met.D.Disk.is_tree c.write_file.new.self told) (rw c.as_str-path.ensures.same at (c.in_err-sync.ensures.absent told absent)))
