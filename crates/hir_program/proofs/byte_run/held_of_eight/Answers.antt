use Rattle.std.proofs.Common.{◌≡◌, ℕ, false, inl, inr, slice_index, slice_index_or, sym, ap, subst, ◌∙◌, true≢false, arith}
use Rattle.std.proofs.lemmas.Bool.{cases_lt}
use Rattle.hir_program.specs.Masks.{HasBit}
use Rattle.hir_program.proofs.byte_run.ByteRunLemmas.{HasBit-kept_of_eight, HasBit-set_of_eight}
use Rattle.hir_program.proofs.scan.bits.MaskLemmas.{HasBit-none}
use Rattle.hir_program.proofs.byte_run.held_of_eight.Goals as goal
use Rattle.hir_program.proofs.byte_run.held_of_eight.Goals.{then-table-eight, else-table-eight}

pub loop-i-init : goal.loop-i-init
loop-i-init c = record { held = λ i lt has. absurd (HasBit-none i has); all = λ i lt. absurd (omega arith) }

pub loop-i-preserved : goal.loop-i-preserved
loop-i-preserved c = elim c.if-table-eight.branch [
  | then-table-eight w ↦ record {
    held = λ i lt has. elim (HasBit-set_of_eight c.loop-i.held c.loop-i.i i c.loop-i-test.true (subst (λ (m : ℕ). HasBit m i) w.held-is has)) [
      | inl before ↦ c.loop-i.invariant.held i lt before
      | inr here ↦ ap (λ (j : ℕ). slice_index_or c.args.table.now (slice_index c.args.eight.now j) false) here ∙ w.if-table-eight.true
    ];
    all = λ i lt holds. subst (λ (m : ℕ). HasBit m i) (sym w.held-is)
        (HasBit-kept_of_eight c.loop-i.held c.loop-i.i i c.loop-i-test.true
        (elim (cases_lt i c.loop-i.i) [ inl before ↦ inl (c.loop-i.invariant.all i before holds) | inr behind ↦ inr (omega (arith, lt, behind)) ]));
  }
  | else-table-eight w ↦ record {
    held = λ i lt has. c.loop-i.invariant.held i lt (subst (λ (m : ℕ). HasBit m i) w.held-is has);
    all = λ i lt holds. subst (λ (m : ℕ). HasBit m i) (sym w.held-is)
        (elim (cases_lt i c.loop-i.i) [
          | inl before ↦ c.loop-i.invariant.all i before holds
          | inr behind ↦
              let here : i ≡ c.loop-i.i = omega (arith, lt, behind) in
              absurd (true≢false (sym (ap (λ (j : ℕ). slice_index_or c.args.table.now (slice_index c.args.eight.now j) false) (sym here) ∙ holds) ∙ w.if-table-eight.false))
        ]);
  }
]
