use Rattle.std.proofs.Common.{◌≡◌, ℕ, subst, sym}
use Rattle.hir_program.specs.Scan.{Looked}
use Rattle.hir_program.proofs.scan.ScanLemmas.{so_far, Looked-over}
use Rattle.hir_program.proofs.scan.FilterState.settled.Goals as goal

pub returns-then-self-eq0-clause-looked : goal.returns-then-self-eq0-clause-looked
returns-then-self-eq0-clause-looked c text filter at h =
    let from : ℕ = c.args.self.from in
    let place : ℕ = c.args.self.place in
    let ahead : ℕ = c.args.self.ahead in
    let nothing : c.args.self.state ≡ 0 = c.if-self-eq0.true in
    subst (λ (m : ℕ). Looked text filter at (so_far place place m ahead)) (sym nothing)
    (Looked-over text filter at from place ahead (subst (λ (m : ℕ). Looked text filter at (so_far from place m ahead)) nothing h))
