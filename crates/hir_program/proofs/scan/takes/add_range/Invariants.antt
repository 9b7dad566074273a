use Rattle.std.proofs.Common.{ℕ, ◌+◌, ◌<◌, ◌≤◌, max, get_or}
use Rattle.hir_program.specs.Masks.{HasBit, Grows, GrowsOnly}
use Rattle.hir_program.proofs.scan.takes.add_range.Given as goal

-- the bytes before this one are done
abbrev pub invariant-loop-byte : goal.invariant-loop-byte
invariant-loop-byte l = record {
  grows : Grows l.fn.takes l.takes;
  has : (b : ℕ) → l.start ≤ b → b < l.byte → HasBit (get_or l.takes b 0) l.bit;
  only : GrowsOnly l.bit (λ b. (l.start ≤ b) × (b < l.byte)) l.fn.takes l.takes;
  within : l.byte ≤ max l.start (l.end + 1);
}
