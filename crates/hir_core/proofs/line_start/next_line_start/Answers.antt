use Rattle.std.proofs.Common.{ℕ, Some, None, length, refl, sym, subst, arith}
use Rattle.hir_core.specs.Found.{IsOfLeast}
use Rattle.hir_core.specs.LineStarts.{line_start_at}
use Rattle.hir_core.proofs.line_start.LineStartLemmas.{first_line, next_line}
use Rattle.hir_core.proofs.line_start.next_line_start.Goals as goal

pub returns-then-at-eq0 : goal.returns-then-at-eq0
returns-then-at-eq0 c =
    let text = c.args.text.now in
    subst (λ (at : ℕ). IsOfLeast (line_start_at text) at (length text) (Some 0)) (sym c.if-at-eq0.true) (first_line text)

pub returns-in-None : goal.returns-in-None
returns-in-None c = next_line c.args.text.now _ c.args.at (omega (arith, c.if-at-eq0.false)) c.requires refl None c.in-None.ensures

pub returns-in-Some : goal.returns-in-Some
returns-in-Some c = next_line c.args.text.now _ c.args.at (omega (arith, c.if-at-eq0.false)) c.requires refl (Some c.in-Some.newline) c.in-Some.ensures
