use Rattle.std.proofs.Common.{◌≡◌, ℕ, ◌+◌, ◌-◌, ◌⊎◌, List, length, slice_index, bit_and, subst, arith}
use Rattle.hir_program.specs.Scan.{NoneBegins}
use Rattle.hir_program.proofs.scan.ScanLemmas.{NoneBegins-end, NoneBegins-gap, NoneBegins-more}
use Rattle.hir_program.proofs.scan.Scan.next_stop.Goals as goal

pub returns-then-not-may_start-clause-none : goal.returns-then-not-may_start-clause-none
returns-then-not-may_start-clause-none c =
    let text = c.args.text.now in
    let filter = c.args.self.now in
    let next : ℕ = c.next-next.result in
    let over : next ≡ length text = omega arith in
    subst (λ (end : ℕ). NoneBegins text filter c.args.at (end + 1)) over
    (NoneBegins-more text filter c.args.at next (next + 1)
    (NoneBegins-end text filter c.in-Some.prefilter c.in-Some.is (λ p. omega (arith, c.type_inv.text p)) c.args.at next c.next-next.ensures.passed over (c.may_end.ensures c.if-not-may_end.true))
    (c.may_start.ensures c.if-not-may_start.true))

pub returns-clause-some : goal.returns-clause-some
returns-clause-some c =
    let text = c.args.text.now in
    let gap : ℕ = c.gap-from.result in
    NoneBegins-gap text c.args.self.now c.in-Some.prefilter c.in-Some.is (λ p. omega (arith, c.type_inv.text p)) c.args.at c.next-next.result
    c.next-next.ensures.passed gap
    (subst
    (λ (takes : List ℕ). (gap ≡ c.args.at) ⊎ (bit_and c.in-Some.prefilter.required.before (slice_index takes (slice_index text (gap - 1))) ≡ 0))
    c.as_slice.ensures.value c.gap-from.ensures.gap)
    c.gap-from.ensures.before c.next-next.ensures.within
