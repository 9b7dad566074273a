-- What each byte does to the spots that may be tried.
use Rattle.std.proofs.Common.{◌≡◌, ℕ, ◌+◌, ◌*◌, ◌%◌, ◌^◌, ◌<◌, ◌≤◌, ◌⊎◌, inl, inr, List, [], ◌∷◌, ◌++◌, length, get_or, length-append, bit_and, bit_or, sym, ap, subst, ◌∙◌, arith}
use Rattle.std.proofs.Math.Seq.{get_or-append_seam}
use Rattle.std.proofs.lemmas.Bool.{cases_eq, cases_lt}
use Rattle.std.proofs.lemmas.List.{get_or_append_left}
use Rattle.std.proofs.lemmas.Nat.{and_le_l, and_le_r, or_lt}
use Rattle.std.proofs.lemmas.Nat.Bits.{bit_at-lt, bit_at-zero, same_from_bits}
use Rattle.std.specs.Int.{bit_at}
use Rattle.hir_program.specs.Masks.{HasBit, IsPart, IsMoved, IsShift, AreShifts}
use Rattle.hir_program.specs.declared.scan.bits.Moves.{Moves}
use Rattle.hir_program.specs.declared.scan.shifts.Shift.{Shift}
use Rattle.hir_program.proofs.scan.bits.MaskLemmas.{HasBit-apart, HasBit-and, HasBit-or_left, HasBit-or_right}
use Rattle.hir_program.proofs.scan.bits.MoveLemmas.{HasBit-or, HasBit-and_left, HasBit-and_right, HasBit-shifted}

-- what a byte does, as it is made: `begun` is what is moved on to from the spots of the start that take it
pub IsShift-made : (byte takes : ℕ) (m : Moves) (start wide begun odd : ℕ) → m.on < 2 ^ 62 → m.stay < 2 ^ 62 → begun < 2 ^ 62
    → ((i mask : ℕ) → i < 62 → HasBit (bit_and start takes) i → IsMoved mask m.on m.stay i → IsPart mask begun)
    → IsPart (bit_and m.odd takes) odd → (128 ≤ byte → IsPart wide odd)
    → IsShift byte takes m start wide
    record { on = bit_and (takes * 2 ^ 1 % 2 ^ 64) m.on; stay = bit_or (bit_and m.stay takes) begun; begun = begun; odd = odd }
IsShift-made byte takes m start wide begun odd few_on few_stay few moved odds beyond = record {
  on = λ i low has goes. HasBit-and (takes * 2 ^ 1 % 2 ^ 64) m.on (i + 1) (HasBit-shifted takes i low has) goes;
  stay = λ i has stays. HasBit-or_left (bit_and m.stay takes) begun i (HasBit-and m.stay takes i stays has);
  begun = λ i mask low begins has. moved i mask low (HasBit-and start takes i begins has);
  kept = λ i has. HasBit-or_right (bit_and m.stay takes) begun i has;
  odd = λ i has is_odd. odds i (HasBit-and m.odd takes i is_odd has);
  beyond = beyond;
  few_on = omega (arith, and_le_r (takes * 2 ^ 1 % 2 ^ 64) m.on);
  few_stay = or_lt 62 (bit_and m.stay takes) begun (omega (arith, and_le_l m.stay takes)) few;
}

-- one more
pub AreShifts-more : (takes : List ℕ) (m : Moves) (start wide : ℕ) (shifts : List Shift) (k : Shift)
    → IsShift (length shifts) (get_or takes (length shifts) 0) m start wide k → AreShifts takes m start wide shifts
    → AreShifts takes m start wide (shifts ++ k ∷ [])
AreShifts-more takes m start wide shifts k last before b j within is = elim (cases_lt b (length shifts)) [
  | inl low ↦ before b j low (is ∙ get_or_append_left shifts (k ∷ []) j b low)
  | inr high ↦
      let here : b ≡ length shifts = omega (arith, length-append shifts (k ∷ [])) in
      let same : j ≡ k = is ∙ ap (λ (n : ℕ). get_or (shifts ++ k ∷ []) n j) here ∙ get_or-append_seam shifts k [] j in
      subst (λ (n : ℕ). IsShift n (get_or takes n 0) m start wide j) (sym here)
      (subst (λ (h : Shift). IsShift (length shifts) (get_or takes (length shifts) 0) m start wide h) (sym same) last)
]

-- a number that has no bit in common with another has none with a part of that
pub none_of_part : (a b c : ℕ) → IsPart b c → bit_and a c ≡ 0 → bit_and a b ≡ 0
unfolding HasBit
none_of_part a b c part nothing = same_from_bits (bit_and a b) 0 (λ i. none i ∙ sym (bit_at-zero i))
  where
    none : (i : ℕ) → bit_at (bit_and a b) i ≡ 0
    none i = elim (cases_eq (bit_at (bit_and a b) i) 1) [
      | inl has ↦ absurd (HasBit-apart a c i nothing (HasBit-and_left a b i has) (part i (HasBit-and_right a b i has)))
      | inr other ↦ let low = bit_at-lt (bit_and a b) i in omega (arith, low, other)
    ]

module _ (byte takes : ℕ) (m : Moves) (start wide : ℕ) (k : Shift) (shift : IsShift byte takes m start wide k) (state : ℕ)
    (even : bit_and (bit_or state start) k.odd ≡ 0) where
  -- no spot that was tried may take a character beyond ASCII that begins with the byte
  pub narrow_shift : (byte < 128) ⊎ (bit_and (bit_or state start) wide ≡ 0)
  narrow_shift = elim (cases_lt byte 128) [
    | inl low ↦ inl low
    | inr high ↦ inr (none_of_part (bit_or state start) wide k.odd (shift.beyond high) even)
  ]

  -- none that takes the byte is odd
  pub even_shift : (i : ℕ) → HasBit (bit_and (bit_or state start) takes) i → HasBit m.odd i → ⊥
  even_shift i has is_odd =
      HasBit-apart (bit_or state start) k.odd i even (HasBit-and_left (bit_or state start) takes i has)
      (shift.odd i (HasBit-and_right (bit_or state start) takes i has) is_odd)

  -- what comes after one that takes the byte is among what may be tried after it
  pub IsPart-after : (next : ℕ) → ((i : ℕ) → i < 62 → HasBit state i → HasBit k.on (i + 1) → HasBit next (i + 1))
      → ((i : ℕ) → HasBit state i → HasBit k.stay i → HasBit next i) → ((i : ℕ) → HasBit k.begun i → HasBit k.stay i → HasBit next i)
      → (i mask : ℕ) → i < 62 → HasBit (bit_and (bit_or state start) takes) i → IsMoved mask m.on m.stay i → IsPart mask next
  IsPart-after next on stay begun i mask low has moved j set_bit =
      let taken : HasBit takes i = HasBit-and_right (bit_or state start) takes i has in
      elim (HasBit-or state start i (HasBit-and_left (bit_or state start) takes i has)) [
        | inr begins ↦
            let more : HasBit k.begun j = shift.begun i mask low begins taken moved j set_bit in
            begun j more (shift.kept j more)
        | inl tried ↦ elim (cases_eq j i) [
          | inl here ↦
              subst (λ (n : ℕ). HasBit next n) (sym here)
              (stay i tried (shift.stay i taken (moved.stays (subst (λ (n : ℕ). HasBit mask n) here set_bit))))
          | inr other ↦
              let one : j ≡ i + 1 = moved.alone j set_bit other in
              subst (λ (n : ℕ). HasBit next n) (sym one)
              (on i low tried (shift.on i low taken (moved.goes (subst (λ (n : ℕ). HasBit mask n) one set_bit))))
        ]
      ]
