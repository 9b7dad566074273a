use Rattle.std.proofs.Common.{ℕ, subst}
use Rattle.hir_program.specs.Scan.{Looked}
use Rattle.hir_program.proofs.scan.ScanLemmas.{so_far, Looked-over, Looked-prefilter}
use Rattle.hir_program.proofs.scan.Scan.skipped.Goals as goal

pub returns-then-may_skip-clause-looked : goal.returns-then-may_skip-clause-looked
returns-then-may_skip-clause-looked c at h =
    let text = c.args.text.now in
    let filter = c.args.self.now in
    let ahead : ℕ = c.args.so_far.ahead in
    let skip_ahead = c.skip_ahead.ensures in
    Looked-prefilter text filter at c.args.so_far.place ahead c.skip_ahead.result skip_ahead.none skip_ahead.after skip_ahead.within skip_ahead.place skip_ahead.state
    (Looked-over text filter at c.args.so_far.from c.args.so_far.place ahead
    (subst (λ (m : ℕ). Looked text filter at (so_far c.args.so_far.from c.args.so_far.place m ahead)) (c.may_skip.ensures c.if-may_skip.true) h))
