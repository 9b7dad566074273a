use Rattle.std.proofs.Common.{◌≡◌, ℕ, ◌<◌, false, true, slice_index_or}
use Rattle.hir_program.proofs.scan.prefilter.is_alone.Given as goal

-- all other bytes so far are passed over
abbrev pub invariant-loop-other : goal.invariant-loop-other
invariant-loop-other l = (b : ℕ) → b < l.other → (b ≡ l.byte → ⊥) → slice_index_or l.passed b false ≡ true
