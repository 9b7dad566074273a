use Rattle.std.proofs.Common.{◌≡◌, ℕ, ◌<◌, ◌⊎◌, inl, inr, List, slice_index, bit_and, refl, subst, arith}
use Rattle.hir_program.specs.Masks.{HasBit, IsPart, row_place}
use Rattle.hir_program.proofs.scan.ScanLemmas.{CoversAfter-rows, Steps-read, Looked-begin, Looked-next, Looked-end}
use Rattle.hir_program.proofs.scan.Scan.next_by_shifts.Goals as goal
use Rattle.hir_program.proofs.scan.Scan.next_by_shifts.Goals.{else-byte-ge128-via-then-byte-ge128+else-live-self-ne0, else-byte-ge128-via-else-byte-ge128}

pub loop-so_far-init : goal.loop-so_far-init
loop-so_far-init c =
    c.run_shifts-so_far.ensures.looked c.args.at
    (c.skipped.ensures.looked c.args.at (Looked-begin c.args.text.now c.args.self.now c.args.at c.args.at c.requires))

pub loop-so_far-preserved : goal.loop-so_far-preserved
loop-so_far-preserved c =
    let text = c.args.text.now in
    let filter = c.args.self.now in
    let from : ℕ = c.loop-so_far.so_far.from in
    let place : ℕ = c.loop-so_far.so_far.place in
    let state : ℕ = c.loop-so_far.so_far.state in
    let live : ℕ = c.live-live.result in
    let next : ℕ = c.joined-next.result in
    let read : ℕ = c.index.result.now in
    let byte : slice_index text place < 256 = omega (arith, c.type_inv.text place) in
    let narrow : (slice_index text place < 128) ⊎ (bit_and live filter.wide ≡ 0) =
    elim c.else-byte-ge128.branch [
      | else-byte-ge128-via-then-byte-ge128+else-live-self-ne0 w ↦ inr w.if-live-self-ne0.false
      | else-byte-ge128-via-else-byte-ge128 w ↦ inl w.if-byte-ge128.false
    ] in
    let follows =
    CoversAfter-rows filter (bit_and live read) next
    (subst (λ (rows : List ℕ). (i : ℕ) → i < 64 → HasBit (bit_and live read) i → IsPart (slice_index rows (row_place (bit_and live read) i)) next)
    c.as_slice.ensures.value c.joined-next.ensures) in
    let steps =
    Steps-read text filter place state live next read c.loop-so_far-test.true (omega arith) byte c.live-live.ensures.kept c.live-live.ensures.begun narrow
    c.index.ensures follows in
    c.run_shifts-so_far-in-loop-so_far.ensures.looked c.args.at
    (c.skipped-in-loop-so_far.ensures.looked c.args.at
    (Looked-next text filter c.args.at from place state live next c.loop-so_far.so_far.ahead (c.if-may_be_empty.ensures refl) (c.if-may_end.ensures refl)
    c.loop-so_far.invariant steps))

pub returns-clause-none : goal.returns-clause-none
returns-clause-none c =
    Looked-end c.args.text.now c.args.self.now c.args.at c.loop-so_far.so_far.from c.loop-so_far.so_far.place c.loop-so_far.so_far.state c.loop-so_far.so_far.ahead (c.if-may_be_empty-2.ensures refl)
    c.loop-so_far-test.false c.loop-so_far.invariant
