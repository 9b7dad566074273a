use Rattle.std.proofs.Common.{ℕ, ◌^◌, ◌<◌, inl, slice_index, bit_and, bit_or, arith}
use Rattle.hir_program.specs.Masks.{IsShift}
use Rattle.hir_program.specs.declared.scan.shifts.Shift.{Shift}
use Rattle.hir_program.proofs.scan.bits.MaskLemmas.{HasBit-or_left, HasBit-or_right}
use Rattle.hir_program.proofs.scan.shifts.ShiftLemmas.{narrow_shift, even_shift, IsPart-after}
use Rattle.hir_program.proofs.scan.ScanLemmas.{Steps, CoversAfter-shift, Looked-shift}
use Rattle.hir_program.proofs.scan.Scan.run_shifts.Goals as goal

pub loop-so_far-preserved : goal.loop-so_far-preserved
loop-so_far-preserved c =
    let text = c.args.text.now in
    let filter = c.args.self.now in
    let from : ℕ = c.loop-so_far.so_far.from in
    let place : ℕ = c.loop-so_far.so_far.place in
    let state : ℕ = c.loop-so_far.so_far.state in
    let live : ℕ = bit_or state filter.start in
    let next : ℕ = c.after.result in
    let k : Shift = c.index-shift.result.now in
    let byte : ℕ = slice_index text place in
    let takes : ℕ = slice_index filter.takes.items byte in
    let small_byte : byte < 256 = omega (arith, c.type_inv.text place) in
    let shift : IsShift byte takes filter.moves filter.start filter.wide k = filter.shift byte k (omega arith) c.index-shift.ensures in
    let steps : Steps text filter place state live next = record {
      more = omega (arith, c.loop-so_far-test.true);
      byte = small_byte;
      kept = λ i has. HasBit-or_left state filter.start i has;
      begun = inl (λ i has. HasBit-or_right state filter.start i has);
      narrow = narrow_shift byte takes filter.moves filter.start filter.wide k shift state c.if-so_far-self-ne0.false;
      follows =
          CoversAfter-shift filter (bit_and live takes) next
          (even_shift byte takes filter.moves filter.start filter.wide k shift state c.if-so_far-self-ne0.false)
          (IsPart-after byte takes filter.moves filter.start filter.wide k shift state c.if-so_far-self-ne0.false next c.after.ensures.on c.after.ensures.stay
          c.after.ensures.begun);
    } in
    let small : next < 2 ^ 62 = c.after.ensures.few shift.few_on shift.few_stay in
    record {
      looked = λ at h.
          c.settled-so_far-in-loop-so_far.ensures.looked text filter at
          (Looked-shift text filter at from place state live next c.loop-so_far.so_far.ahead c.if-self-ge-SURE.false small (c.loop-so_far.invariant.looked at h) steps);
      after = omega (arith, c.loop-so_far.invariant.after, c.settled-so_far-in-loop-so_far.ensures.place);
      within = omega (arith, c.settled-so_far-in-loop-so_far.ensures.place);
    }

pub returns-then-is_some-clause-looked : goal.returns-then-is_some-clause-looked
returns-then-is_some-clause-looked c at h = c.settled-so_far.ensures.looked c.args.text.now c.args.self.now at h

pub loop-so_far-init : goal.loop-so_far-init
loop-so_far-init c = record {
  looked = λ at h. c.settled-so_far.ensures.looked c.args.text.now c.args.self.now at h;
  after = omega (arith, c.settled-so_far.ensures.place);
  within = omega (arith, c.settled-so_far.ensures.place, c.requires);
}
