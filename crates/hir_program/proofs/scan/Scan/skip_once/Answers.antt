use Rattle.std.proofs.Common.{◌≡◌, ℕ, ◌-◌, ◌⊎◌, List, slice_index, bit_and, subst, arith}
use Rattle.hir_program.proofs.scan.ScanLemmas.{NoneBegins-end, NoneBegins-gap}
use Rattle.hir_program.proofs.scan.Scan.skip_once.Goals as goal

pub returns-clause-none : goal.returns-clause-none
returns-clause-none c =
    let text = c.args.text.now in
    let gap : ℕ = c.gap-gap.result in
    NoneBegins-gap text c.args.self.now c.args.prefilter.now c.requires.own (λ p. omega (arith, c.type_inv.text p)) c.args.at c.next-next.result
    c.next-next.ensures.passed gap
    (subst
    (λ (takes : List ℕ). (gap ≡ c.args.at) ⊎ (bit_and c.args.prefilter.now.required.before (slice_index takes (slice_index text (gap - 1))) ≡ 0))
    c.as_slice.ensures.value c.gap-gap.ensures.gap)
    c.gap-gap.ensures.before c.next-next.ensures.within

pub returns-then-not-may_end-clause-none : goal.returns-then-not-may_end-clause-none
returns-then-not-may_end-clause-none c =
    NoneBegins-end c.args.text.now c.args.self.now c.args.prefilter.now c.requires.own (λ p. omega (arith, c.type_inv.text p)) c.args.at c.next-next.result
    c.next-next.ensures.passed (omega arith) (c.may_end.ensures c.if-not-may_end.true)
