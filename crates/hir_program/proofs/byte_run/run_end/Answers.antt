use Rattle.std.proofs.Common.{◌≡◌, ℕ, ◌+◌, ◌-◌, ◌<◌, ◌≤◌, length, inl, inr, false, slice_index, slice_index_or, sym, subst, ◌∙◌, arith}
use Rattle.std.proofs.lemmas.Bool.{cases_lt}
use Rattle.hir_program.specs.ByteRuns.{Holds}
use Rattle.hir_program.specs.Masks.{HasBit}
use Rattle.hir_program.proofs.byte_run.ByteRunLemmas.{all_bits, fails_of_eight, holds_of_eight, low_bits}
use Rattle.hir_program.proofs.byte_run.run_end.Goals as goal

over : (c : goal.After-trailing_ones) (q : ℕ) → c.args.from ≤ q → q < c.loop-at.at + c.trailing_ones.result → Holds c.args.table.now c.args.text.now q
over c q from up =
    let low = low_bits c.held_of_eight-held.result c.held_of_eight-held.type_inv c.if-held.true in
    let below = subst (λ (n : ℕ). q < c.loop-at.at + n) c.trailing_ones.ensures up in
    elim (cases_lt q c.loop-at.at) [
      | inl before ↦ c.loop-at.invariant.over q from before
      | inr behind ↦
          holds_of_eight c.args.table.now c.args.text.now c.loop-at.at c.held_of_eight-held.result c.held_of_eight-held.ensures.held q behind
          (omega (arith, below, low.few)) (low.set (q - c.loop-at.at) (omega (arith, below, behind)))
    ]

ends : (c : goal.After-trailing_ones) → c.loop-at.at + c.trailing_ones.result < length c.args.text.now
    → slice_index_or c.args.table.now (slice_index c.args.text.now (c.loop-at.at + c.trailing_ones.result)) false ≡ false
ends c inside =
    let low = low_bits c.held_of_eight-held.result c.held_of_eight-held.type_inv c.if-held.true in
    let at : ℕ = c.loop-at.at + c.trailing_ones.result in
    let few = subst (λ (n : ℕ). n < 8) (sym c.trailing_ones.ensures) low.few in
    let here : at - c.loop-at.at ≡ c.trailing_ones.result = omega arith in
    fails_of_eight c.args.table.now c.args.text.now c.loop-at.at c.held_of_eight-held.result c.held_of_eight-held.ensures.all at (omega arith) (omega (arith, few))
    (λ has. low.unset (subst (λ (n : ℕ). HasBit c.held_of_eight-held.result n) (here ∙ c.trailing_ones.ensures) has))

pub returns-then-held : goal.returns-then-held
returns-then-held c =
    let low = low_bits c.held_of_eight-held.result c.held_of_eight-held.type_inv c.if-held.true in
    let few = subst (λ (n : ℕ). n < 8) (sym c.trailing_ones.ensures) low.few in
    record { forward = omega (arith, c.loop-at.invariant.forward); within = omega (arith, few, c.loop-at-test.true); over = over c; ends = ends c }

pub loop-at-preserved : goal.loop-at-preserved
loop-at-preserved c = record {
  over = λ q from up. elim (cases_lt q c.loop-at.at) [
    | inl before ↦ c.loop-at.invariant.over q from before
    | inr behind ↦
        holds_of_eight c.args.table.now c.args.text.now c.loop-at.at c.held_of_eight-held.result c.held_of_eight-held.ensures.held q behind up
        (all_bits c.held_of_eight-held.result (q - c.loop-at.at) c.if-held.false (omega (arith, up, behind)))
  ];
  forward = omega (arith, c.loop-at.invariant.forward);
  within = omega (arith, c.loop-at-test.true, c.loop-at.invariant.within);
}
