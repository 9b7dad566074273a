use Rattle.file_rewrite.proofs.rewriting.CauseLemmas.{told_on, exchange_cause}
use Rattle.file_rewrite.proofs.rewriting.FindingLemmas.{found_as}
use Rattle.file_rewrite.proofs.rewriting.PuttingLemmas.{put_left, put_crash}
use Rattle.file_rewrite.proofs.putting.put_file.Goals as goal

pub returns-in_err-put-clause-left : goal.returns-in_err-put-clause-left
returns-in_err-put-clause-left g c =
    λ told.
    let f = found_as _ _ _ c.as_str.result.now _ c.as_str.ensures.same (c.in_ok-found.ensures.found told) in
    told_on _ c.from_residual-in_err-put.result _ c.from_residual-in_err-put.ensures.1
    (put_left (g.D.Disk.state c.args.disk.now) _ _ _ _ _ c.args.bytes.now c.in_ok-found.ensures.tree f _ told c.in_ok-found.ensures.never_falls (c.in_err-put.ensures.refused told)
    c.in_err-put.field-0.0 c.in_err-put.ensures.cause c.in_err-put.ensures.move_cause c.in_err-put.ensures.memory (c.in_err-put.ensures.old told) (c.in_err-put.ensures.cleared told) (c.in_err-put.ensures.not_written told))

pub returns-in_err-put-clause-cause : goal.returns-in_err-put-clause-cause
returns-in_err-put-clause-cause g c =
    told_on _ c.from_residual-in_err-put.result _ c.from_residual-in_err-put.ensures.1
    (exchange_cause _ (g.D.Disk.state c.args.disk.now) _ _ _ c.as_str.result.now c.in_ok-found.found.bytes.items c.in_ok-found.ensures.never_falls c.in_err-put.field-0.0 c.in_ok-found.ensures.tree
    (λ told. found_as _ _ _ c.as_str.result.now _ c.as_str.ensures.same (c.in_ok-found.ensures.found told)) c.in_err-put.ensures.cause c.in_err-put.ensures.move_cause c.in_err-put.ensures.memory c.in_err-put.ensures.none_free c.in_err-put.ensures.none_free_untold)

pub returns-in_err-put-clause-crash : goal.returns-in_err-put-clause-crash
returns-in_err-put-clause-crash g c =
    λ told.
    let f = found_as _ _ _ c.as_str.result.now _ c.as_str.ensures.same (c.in_ok-found.ensures.found told) in
    put_crash (g.D.Disk.state c.args.disk.now) _ (g.D.Disk.state c.put.new.disk) _ _ _ c.args.bytes.now c.in_ok-found.ensures.tree f (c.in_err-put.ensures.crash told)

pub returns-clause-crash : goal.returns-clause-crash
returns-clause-crash g c =
    λ told.
    let f = found_as _ _ _ c.as_str.result.now _ c.as_str.ensures.same (c.in_ok-found.ensures.found told) in
    put_crash (g.D.Disk.state c.args.disk.now) _ (g.D.Disk.state c.put.new.disk) _ _ _ c.args.bytes.now c.in_ok-found.ensures.tree f (c.in_ok-put.ensures.crash told)
