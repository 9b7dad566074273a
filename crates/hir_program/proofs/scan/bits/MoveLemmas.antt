-- How spots move on by shifts.
use Rattle.std.proofs.Common.{◌≡◌, ℕ, suc, ◌+◌, ◌*◌, ◌/◌, ◌%◌, ◌^◌, ◌<◌, min, max, ◌⊎◌, inl, inr, bit_and, bit_or, sym, ap, subst, ◌∙◌, arith}
use Rattle.std.proofs.lemmas.Bool.{cases_eq}
use Rattle.std.proofs.lemmas.Nat.{and_le_l, and_le_r, or_lt, pow_below}
use Rattle.std.proofs.lemmas.Nat.Bits.{bit_at_and, bit_at_or, bit_at-lt, bit_at-suc, bit_at_cat_low, bit_at-pow_same, bit_at-pow_other}
use Rattle.std.specs.Int.{bit_at}
use Rattle.hir_program.specs.Masks.{HasBit, IsPart, IsMoved}
use Rattle.hir_program.proofs.scan.bits.MaskLemmas.{HasBit-or_left, HasBit-or_right, HasBit-and}

-- a bit of two numbers together is one of either
pub HasBit-or : (a b i : ℕ) → HasBit (bit_or a b) i → HasBit a i ⊎ HasBit b i
unfolding HasBit
HasBit-or a b i h = either (bit_at a i) (bit_at b i) (sym (bit_at_or a b i) ∙ h)
  where
    either : (x y : ℕ) → max x y ≡ 1 → (x ≡ 1) ⊎ (y ≡ 1)
    either x y e = elim (cases_eq x 1) [
      | inl one ↦ inl one
      | inr other ↦ inr (let rest : y ≡ 1 = omega arith in rest)
    ]

-- a common bit is one of the second
pub HasBit-and_right : (a b i : ℕ) → HasBit (bit_and a b) i → HasBit b i
unfolding HasBit
HasBit-and_right a b i h = lesser (bit_at a i) (bit_at b i) (bit_at-lt b i) (sym (bit_at_and a b i) ∙ h)
  where
    lesser : (x y : ℕ) → y < 2 → min x y ≡ 1 → y ≡ 1
    lesser x y l e = omega arith

-- and of the first
pub HasBit-and_left : (a b i : ℕ) → HasBit (bit_and a b) i → HasBit a i
unfolding HasBit
HasBit-and_left a b i h = lesser (bit_at a i) (bit_at b i) (bit_at-lt a i) (sym (bit_at_and a b i) ∙ h)
  where
    lesser : (x y : ℕ) → x < 2 → min x y ≡ 1 → x ≡ 1
    lesser x y l e = omega arith

-- a power that is small enough
whole_power : (k : ℕ) → k < 64 → 1 * 2 ^ k % 2 ^ 64 ≡ 2 ^ k
whole_power k low = let small : 2 ^ k < 2 ^ 64 = pow_below k 64 low in omega arith

-- its bit
HasBit-one : (k : ℕ) → k < 64 → HasBit (1 * 2 ^ k % 2 ^ 64) k
unfolding HasBit
HasBit-one k low = ap (λ (m : ℕ). bit_at m k) (whole_power k low) ∙ bit_at-pow_same k

-- it has no other
HasBit-only : (k i : ℕ) → k < 64 → HasBit (1 * 2 ^ k % 2 ^ 64) i → i ≡ k
unfolding HasBit
HasBit-only k i low h = elim (cases_eq i k) [
  | inl here ↦ here
  | inr other ↦
      let none : bit_at (1 * 2 ^ k % 2 ^ 64) i ≡ 0 = ap (λ (m : ℕ). bit_at m i) (whole_power k low) ∙ bit_at-pow_other k i other in
      let e : ◌≡◌ {A = ℕ} 0 1 = sym none ∙ h in
      absurd (omega arith)
]

-- a bit that was shifted
pub HasBit-shifted : (live i : ℕ) → i < 62 → HasBit live i → HasBit (live * 2 ^ 1 % 2 ^ 64) (i + 1)
unfolding HasBit
HasBit-shifted live i small h =
    let low : i + 1 < 64 = omega arith in
    let x : ℕ = live * 2 ^ 1 in
    let parts : x / 2 ^ 64 * 2 ^ 64 + x % 2 ^ 64 ≡ x = omega arith in
    let half : x / 2 ≡ live = omega arith in
    sym (bit_at_cat_low (x / 2 ^ 64) 64 (x % 2 ^ 64) (i + 1) low) ∙ ap (λ (n : ℕ). bit_at n (i + 1)) parts
    ∙ ap (λ (k : ℕ). bit_at x k) (let next : i + 1 ≡ suc i = omega arith in next) ∙ bit_at-suc x i ∙ ap (λ (n : ℕ). bit_at n i) half ∙ h

-- what moves on, with more spots that do so
pub IsMoved-more : (mask on stay on' stay' i : ℕ) → IsPart on on' → IsPart stay stay' → IsMoved mask on stay i → IsMoved mask on' stay' i
IsMoved-more mask on stay on' stay' i more kept h =
    record { goes = λ has. more (i + 1) (h.goes has); stays = λ has. kept i (h.stays has); alone = h.alone }

-- a mask of at most the spot of a bit and the next one
pub IsMoved-next : (mask on stay bit : ℕ) → bit < 62
    → bit_or (bit_and mask (1 * 2 ^ bit % 2 ^ 64)) (bit_and mask (1 * 2 ^ (bit + 1) % 2 ^ 64)) ≡ mask
    → IsMoved mask (bit_or on (bit_and mask (1 * 2 ^ (bit + 1) % 2 ^ 64))) (bit_or stay (bit_and mask (1 * 2 ^ bit % 2 ^ 64))) bit
IsMoved-next mask on stay bit low whole = record {
  goes = λ has.
      HasBit-or_right on (bit_and mask (one (bit + 1))) (bit + 1)
      (HasBit-and mask (one (bit + 1)) (bit + 1) has (HasBit-one (bit + 1) (omega arith)));
  stays = λ has. HasBit-or_right stay (bit_and mask (one bit)) bit (HasBit-and mask (one bit) bit has (HasBit-one bit (omega arith)));
  alone = λ j has other.
      elim (HasBit-or (bit_and mask (one bit)) (bit_and mask (one (bit + 1))) j (subst (λ (m : ℕ). HasBit m j) (sym whole) has)) [
        | inl here ↦ absurd (other (HasBit-only bit j (omega arith) (HasBit-and_right mask (one bit) j here)))
        | inr next ↦ HasBit-only (bit + 1) j (omega arith) (HasBit-and_right mask (one (bit + 1)) j next)
      ];
}
  where
    one : ℕ → ℕ
    one k = 1 * 2 ^ k % 2 ^ 64

-- what comes after a live spot is among what is moved on to
pub IsPart-shifted : (live on stay i mask : ℕ) → i < 62 → HasBit live i → IsMoved mask on stay i
    → IsPart mask (bit_or (bit_and (live * 2 ^ 1 % 2 ^ 64) on) (bit_and live stay))
IsPart-shifted live on stay i mask low has moved j set_bit = elim (cases_eq j i) [
  | inl here ↦
      HasBit-or_right (bit_and (live * 2 ^ 1 % 2 ^ 64) on) (bit_and live stay) j
      (subst (λ (k : ℕ). HasBit (bit_and live stay) k) (sym here)
      (HasBit-and live stay i has (moved.stays (subst (λ (k : ℕ). HasBit mask k) here set_bit))))
  | inr other ↦
      let next : j ≡ i + 1 = moved.alone j set_bit other in
      HasBit-or_left (bit_and (live * 2 ^ 1 % 2 ^ 64) on) (bit_and live stay) j
      (subst (λ (k : ℕ). HasBit (bit_and (live * 2 ^ 1 % 2 ^ 64) on) k) (sym next)
      (HasBit-and (live * 2 ^ 1 % 2 ^ 64) on (i + 1) (HasBit-shifted live i low has) (moved.goes (subst (λ (k : ℕ). HasBit mask k) next set_bit))))
]

-- bits of two small numbers, and of small ones with others, are small
pub few_or : (on mask other : ℕ) → on < 2 ^ 62 → mask < 2 ^ 62 → bit_or on (bit_and mask other) < 2 ^ 62
few_or on mask other low small = or_lt 62 on (bit_and mask other) low (omega (arith, and_le_l mask other))

pub few_shifted : (a on live stay : ℕ) → on < 2 ^ 62 → stay < 2 ^ 62 → bit_or (bit_and a on) (bit_and live stay) < 2 ^ 62
few_shifted a on live stay low small =
    or_lt 62 (bit_and a on) (bit_and live stay) (omega (arith, and_le_r a on)) (omega (arith, and_le_r live stay))
