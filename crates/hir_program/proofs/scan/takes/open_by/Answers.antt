use Rattle.std.proofs.Common.{ℕ, bit_or, sym, subst, arith}
use Rattle.hir_program.specs.Masks.{HasBit, match_bit, sure_bit}
use Rattle.hir_program.proofs.scan.bits.MaskLemmas.{HasBit-or_left, HasBit-or_right, HasBit-sure, HasBit-ends}
use Rattle.hir_program.proofs.scan.takes.open_by.Goals as goal
use Rattle.hir_program.proofs.scan.takes.open_by.Goals.{then-byte-lt128, else-byte-lt128, then-may_hold_before, else-may_hold_before}

pub returns : goal.returns
returns c =
    let takes : ℕ = c.args.takes in
    let beyond : ℕ = c.if-byte-lt128.beyond in
    let ends : ℕ = c.if-may_hold_before.ends in
    record {
      taken = λ i has. HasBit-or_left (bit_or takes beyond) ends i (HasBit-or_left takes beyond i has);
      beyond = λ high i has.
          HasBit-or_left (bit_or takes beyond) ends i (HasBit-or_right takes beyond i (elim c.if-byte-lt128.branch [
            | then-byte-lt128 w ↦ absurd (omega (arith, w.if-byte-lt128.true))
            | else-byte-lt128 w ↦ subst (λ (m : ℕ). HasBit m i) (sym w.beyond-is) has
          ]));
      sure = HasBit-or_right (bit_or takes beyond) ends sure_bit (elim c.if-may_hold_before.branch [
        | then-may_hold_before w ↦ subst (λ (m : ℕ). HasBit m sure_bit) (sym w.ends-is) HasBit-ends.0
        | else-may_hold_before w ↦ subst (λ (m : ℕ). HasBit m sure_bit) (sym w.ends-is) HasBit-sure
      ]);
      ends = λ unset. elim c.if-may_hold_before.branch [
        | then-may_hold_before w ↦
            absurd (unset (HasBit-or_right (bit_or takes beyond) ends match_bit (subst (λ (m : ℕ). HasBit m match_bit) (sym w.ends-is) HasBit-ends.1)))
        | else-may_hold_before w ↦ c.may_hold_before.ensures w.if-may_hold_before.false
      ];
    }
