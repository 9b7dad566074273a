use Rattle.std.proofs.Common.{take, ℕ}
use Rattle.hir_tree.specs.Ranges.{AreByteRanges}
use Rattle.grep_regex.proofs.stripping.BesideLemmas.{AreWithout}
use Rattle.grep_regex.proofs.stripping.without_one_byte.Given as goal

abbrev pub invariant-loop-i : goal.invariant-loop-i
invariant-loop-i l = record { apart : AreByteRanges l.rest; holds : AreWithout (λ (b : ℕ). Unit {0}) l.byte (take l.i l.set) l.rest }
