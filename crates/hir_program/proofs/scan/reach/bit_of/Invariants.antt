use Rattle.std.proofs.Common.{◌≡◌, ℕ, ◌<◌, get_or}
use Rattle.hir_program.proofs.scan.reach.bit_of.Given as goal

-- no spot so far is the one
abbrev pub invariant-loop-bit : goal.invariant-loop-bit
invariant-loop-bit l = (i : ℕ) → i < l.bit → get_or l.of i 0 ≡ l.place → ⊥
