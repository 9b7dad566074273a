-- What comes before required spots.
use Rattle.std.proofs.Common.{◌≡◌, ℕ, ◌*◌, ◌/◌, ◌%◌, ◌^◌, ◌<◌, List, slice_index, bit_and, bit_or, subst, arith, w64}
use Rattle.std.proofs.lemmas.Nat.Bits.{bit_at_not, bit_at-lt}
use Rattle.std.specs.Int.{bit_at, bit_not}
use Rattle.hir_program.specs.Program.{spot_at}
use Rattle.hir_program.specs.Masks.{HasBit, IsPart, next_of, row_place, sure_bit}
use Rattle.hir_program.specs.Scan.{IsRequiredOf}
use Rattle.hir_program.specs.declared.scan.required.Required.{Required}
use Rattle.hir_program.proofs.scan.bits.MaskLemmas.{HasBit-and, HasBit-apart, HasBit-eight, HasBit-or_right, HasBit-pow}
use Rattle.hir_program.proofs.scan.reach.DeadLemmas.{Covers-part}

-- a bit that isn't set in a number is set in its complement
HasBit-not : (n i : ℕ) → n < 2 ^ 64 → i < 64 → (HasBit n i → ⊥) → HasBit (bit_not w64 n) i
unfolding HasBit
HasBit-not n i small low unset =
    let low_bit : bit_at n i < 2 = bit_at-lt n i in
    let none : bit_at n i ≡ 0 = omega (arith, low_bit, unset) in
    let e = bit_at_not w64 n i small low in
    omega arith

-- what comes after the spots before required ones that aren't required is among those before them
pub IsRequiredOf-closed : (rows : List ℕ) (start more : ℕ) (c : Required) → c.spots < 2 ^ 64 → IsPart start c.before → bit_and c.before (2 ^ 62) ≡ 0
    → ((i : ℕ) → i < 64 → HasBit (bit_and c.before (bit_not w64 c.spots)) i
    → IsPart (slice_index rows (row_place (bit_and c.before (bit_not w64 c.spots)) i)) more)
    → bit_or c.before more ≡ c.before → IsRequiredOf rows start c
IsRequiredOf-closed rows start more c fits part unsure joined same spots of look few says = record {
  begun = part;
  follows = λ i lt has other.
      let live : ℕ = bit_and c.before (bit_not w64 c.spots) in
      let low : i < 64 = omega arith in
      let alive : HasBit live i = HasBit-and c.before (bit_not w64 c.spots) i has (HasBit-not c.spots i fits low other) in
      Covers-part spots of look (slice_index rows (row_place live i)) c.before (next_of (spot_at spots (slice_index of i)))
      (λ j set_bit. subst (λ (m : ℕ). HasBit m j) same (HasBit-or_right c.before more j (joined i low alive j set_bit)))
      (says i (live / 2 ^ (8 * (i / 8)) % 256) lt (omega arith) (HasBit-eight live i alive));
  unsure = λ has. HasBit-apart c.before (2 ^ sure_bit) sure_bit unsure has (HasBit-pow sure_bit);
}
