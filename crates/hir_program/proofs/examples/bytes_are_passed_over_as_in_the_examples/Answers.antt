use Rattle.std.proofs.Common.{◌≡◌, ◌∷◌, [], ◌+◌, ◌^◌, inl, true, false, arith, refl, true≢false}
use Rattle.hir_tree.specs.Looks.{holds}
use Rattle.hir_tree.specs.declared.look.Look.TheVariants.{EndLF}
use Rattle.hir_program.specs.Masks.{HasBit, match_bit}
use Rattle.hir_program.proofs.scan.bits.MaskLemmas.{HasBit-above}
use Rattle.hir_program.proofs.examples.bytes_are_passed_over_as_in_the_examples.Goals as goal

may_end : HasBit (2 ^ match_bit + 3) match_bit
unfolding HasBit
may_end = omega arith

-- src/examples.rt:29:1
pub returns-clause-line_end : goal.returns-clause-line_end
returns-clause-line_end c = (refl, inl (omega arith), λ has. absurd (HasBit-above 3 63 (omega arith) has))

-- src/examples.rt:29:1
pub returns-clause-match_end : goal.returns-clause-match_end
unfolding holds
returns-clause-match_end c passed =
    let shut : true ≡ false = passed.2 may_end EndLF refl (10 ∷ []) 0 (omega arith) refl in true≢false shut
