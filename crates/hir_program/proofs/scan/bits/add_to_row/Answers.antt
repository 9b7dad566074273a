use Rattle.std.proofs.Common.{ℕ, ◌+◌, ◌*◌, List, get_or, bit_or, sym, subst, arith}
use Rattle.hir_program.specs.Masks.{Grows}
use Rattle.hir_program.proofs.scan.bits.MaskLemmas.{HasBit-or_left, Grows-set, RowHas, Row-set, Row-skip}
use Rattle.hir_program.proofs.scan.bits.add_to_row.Goals as goal
use Rattle.hir_program.proofs.scan.bits.add_to_row.Goals.{then-eight-bit-eq1, else-eight-bit-eq1}

pub loop-eight-preserved : goal.loop-eight-preserved
loop-eight-preserved c =
    let place : ℕ = 256 * c.args.row + c.loop-eight.eight in
    let old : ℕ = get_or c.loop-eight.rows place 0 in
    elim c.if-eight-bit-eq1.branch [
      | then-eight-bit-eq1 w ↦ record {
        grows = λ b i has.
            subst (λ (rows : List ℕ). Grows c.loop-eight.rows rows) (sym w.rows-is) (Grows-set c.loop-eight.rows place (bit_or old c.args.mask) (HasBit-or_left old c.args.mask))
            b i (c.loop-eight.invariant.grows b i has);
        has =
            subst (λ (rows : List ℕ). RowHas rows c.args.row c.args.bit c.args.mask (c.loop-eight.eight + 1)) (sym w.rows-is)
            (Row-set c.loop-eight.rows c.args.row c.args.bit c.args.mask c.loop-eight.eight (omega arith) c.loop-eight.invariant.has);
      }
      | else-eight-bit-eq1 w ↦ record {
        grows = subst (λ (rows : List ℕ). Grows c.args.rows.now rows) (sym w.rows-is) c.loop-eight.invariant.grows;
        has =
            subst (λ (rows : List ℕ). RowHas rows c.args.row c.args.bit c.args.mask (c.loop-eight.eight + 1)) (sym w.rows-is)
            (Row-skip c.loop-eight.rows c.args.row c.args.bit c.args.mask c.loop-eight.eight w.if-eight-bit-eq1.false c.loop-eight.invariant.has);
      }
    ]
