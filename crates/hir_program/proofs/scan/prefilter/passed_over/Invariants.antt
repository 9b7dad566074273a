use Rattle.std.proofs.Common.{◌≡◌, ℕ, ◌<◌, false, true, slice_index_or}
use Rattle.hir_program.specs.Scan.{IsPassedOver}
use Rattle.hir_program.proofs.scan.prefilter.passed_over.Given as goal

-- what is passed over of the bytes so far
abbrev pub invariant-loop-byte : goal.invariant-loop-byte
invariant-loop-byte l = (b : ℕ) → b < l.byte → slice_index_or l.passed b false ≡ true → IsPassedOver l.takes l.wide l.last_look l.required b
