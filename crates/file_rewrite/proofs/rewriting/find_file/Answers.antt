use Rattle.file_rewrite.proofs.rewriting.CauseLemmas.{told_on, step_cause}
use Rattle.file_rewrite.proofs.rewriting.FindingLemmas.{found, none_found}
use Rattle.file_rewrite.proofs.rewriting.find_file.Goals as goal

pub returns-in_err-bytes-clause-cause : goal.returns-in_err-bytes-clause-cause
returns-in_err-bytes-clause-cause g c =
    told_on _ c.from_residual-in_err-bytes.result _ c.from_residual-in_err-bytes.ensures.1
    (step_cause _ (g.D.Disk.state c.args.disk.now) _ _ _ c.in_err-bytes.field-0.0 c.in_ok-own.ensures.cause.never_falls c.in_err-bytes.ensures.cause c.in_err-bytes.ensures.not_taken
    (λ told absent. none_found (g.D.Disk.state c.args.disk.now) _ c.in_ok-own.own (g.met.D.Disk.is_tree c.args.disk.now told) (c.in_ok-own.ensures.answer told) _ c.in_ok-own.ensures.tree
    c.as_str.result.now c.as_str.ensures.same (c.in_err-bytes.ensures.absent told absent)))

pub returns-clause-found : goal.returns-clause-found
returns-clause-found g c =
    λ told. found (g.D.Disk.state c.args.disk.now) _ c.in_ok-own.own (g.met.D.Disk.is_tree c.args.disk.now told) (c.in_ok-own.ensures.answer told) _ c.in_ok-own.ensures.tree
    c.as_str.result.now c.in_ok-bytes.bytes.items c.as_str.ensures.same (c.in_ok-bytes.ensures.bytes told)
