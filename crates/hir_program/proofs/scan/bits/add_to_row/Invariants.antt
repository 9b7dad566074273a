use Rattle.std.proofs.Common.{ℕ, ◌+◌, ◌*◌, ◌<◌, get_or}
use Rattle.hir_program.specs.Masks.{HasBit, IsPart, Grows}
use Rattle.hir_program.proofs.scan.bits.add_to_row.Given as goal

-- the mask was added for the choices so far
abbrev pub invariant-loop-eight : goal.invariant-loop-eight
invariant-loop-eight l = record {
  grows : Grows l.fn.rows l.rows;
  has : (v : ℕ) → v < l.eight → HasBit v l.bit → IsPart l.mask (get_or l.rows (256 * l.row + v) 0);
}
