use Rattle.std.proofs.Common.{◌≡◌, ℕ, true, take, get_or}
use Rattle.hir_tree.specs.Runs.{in_set}
use Rattle.hir_program.specs.Masks.{HasBit, Grows, GrowsOnly}
use Rattle.hir_program.proofs.scan.takes.add_bytes.Given as goal

-- the ranges so far are done
abbrev pub invariant-loop-i : goal.invariant-loop-i
invariant-loop-i l = record {
  grows : Grows l.fn.takes l.takes;
  has : (b : ℕ) → in_set (take l.i l.set) b ≡ true → HasBit (get_or l.takes b 0) l.bit;
  only : GrowsOnly l.bit (λ b. in_set (take l.i l.set) b ≡ true) l.fn.takes l.takes;
}
