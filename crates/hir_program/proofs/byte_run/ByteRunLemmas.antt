-- Runs of bytes for which a table holds, by the bits of eight of them.
use Rattle.std.proofs.Common.{◌≡◌, ℕ, ◌+◌, ◌-◌, ◌*◌, ◌%◌, ◌^◌, ◌<◌, ◌≤◌, Bool, true, false, ◌⊎◌, inl, inr, List, drop, slice_index, slice_index_or, slice_range, bit_or, sym, ap, subst, ◌∙◌, arith, w8, get_or-drop}
use Rattle.std.proofs.lemmas.Bool.{false_from_ne_true}
use Rattle.std.proofs.lemmas.List.{get_or-take}
use Rattle.std.proofs.lemmas.Nat.{pow_below}
use Rattle.std.proofs.lemmas.Nat.Bits.{bit_at-trailing_ones, bit_at_ones, bit_at_set_same}
use Rattle.std.specs.Int.{trailing_ones}
use Rattle.hir_program.specs.ByteRuns.{Holds}
use Rattle.hir_program.specs.Masks.{HasBit}
use Rattle.hir_program.proofs.scan.bits.MaskLemmas.{HasBit-or_left, HasBit-or_pow}

-- no bit of eight but the one that was set
pub HasBit-set_of_eight : (held k i : ℕ) → k < 8 → HasBit (bit_or held (1 * 2 ^ k % 2 ^ 8)) i → HasBit held i ⊎ (i ≡ k)
HasBit-set_of_eight held k i lt h =
    let below : 2 ^ k < 2 ^ 8 = pow_below k 8 lt in
    let whole : 1 * 2 ^ k % 2 ^ 8 ≡ 2 ^ k = omega arith in
    HasBit-or_pow held k i (subst (λ (m : ℕ). HasBit (bit_or held m) i) whole h)

-- the one that was set, and those that were
pub HasBit-kept_of_eight : (held k i : ℕ) → k < 8 → HasBit held i ⊎ (i ≡ k) → HasBit (bit_or held (1 * 2 ^ k % 2 ^ 8)) i
unfolding HasBit
HasBit-kept_of_eight held k i lt (inl before) = HasBit-or_left held (1 * 2 ^ k % 2 ^ 8) i before
HasBit-kept_of_eight held k i lt (inr here) = subst (λ (j : ℕ). HasBit (bit_or held (1 * 2 ^ k % 2 ^ 8)) j) (sym here) (bit_at_set_same w8 held k lt)

-- the bits tell for which of the first so many bytes the table holds
pub record TellsFirst (count : ℕ) (table : List Bool) (eight : List ℕ) (bits : ℕ) : Type 0 where
  pub held : (i : ℕ) → i < 8 → HasBit bits i → Holds table eight i
  pub all : (i : ℕ) → i < count → Holds table eight i → HasBit bits i

-- a byte of the eight from a place on
byte_of_eight : (text : List ℕ) (at q : ℕ) → at ≤ q → q < at + 8 → slice_index (slice_range text at (at + 8)) (q - at) ≡ slice_index text q
byte_of_eight text at q from up =
    get_or-take (at + 8 - at) (drop at text) (q - at) 0 (omega (arith, from, up)) ∙ get_or-drop at text (q - at) 0
    ∙ ap (λ (k : ℕ). slice_index text k) (let there : at + (q - at) ≡ q = omega (arith, from) in there)

-- of the eight bytes from a place on, it holds for those whose bits are set
pub holds_of_eight : (table : List Bool) (text : List ℕ) (at held : ℕ) → ((i : ℕ) → i < 8 → HasBit held i → Holds table (slice_range text at (at + 8)) i)
    → (q : ℕ) → at ≤ q → q < at + 8 → HasBit held (q - at) → Holds table text q
holds_of_eight table text at held tells q from up has =
    subst (λ (b : ℕ). slice_index_or table b false ≡ true) (byte_of_eight text at q from up) (tells (q - at) (omega (arith, from, up)) has)

-- and for no other
pub fails_of_eight : (table : List Bool) (text : List ℕ) (at held : ℕ) → ((i : ℕ) → i < 8 → Holds table (slice_range text at (at + 8)) i → HasBit held i)
    → (q : ℕ) → at ≤ q → q < at + 8 → (HasBit held (q - at) → ⊥) → slice_index_or table (slice_index text q) false ≡ false
fails_of_eight table text at held tells q from up unset =
    false_from_ne_true (slice_index_or table (slice_index text q) false)
    (λ holds. unset (tells (q - at) (omega (arith, from, up)) (ap (λ (b : ℕ). slice_index_or table b false) (byte_of_eight text at q from up) ∙ holds)))

-- the lowest bits up to the first that isn't set, of a number that hasn't all eight
pub record AreLowBits (held count : ℕ) : Type 0 where
  pub few : count < 8
  pub set : (i : ℕ) → i < count → HasBit held i
  pub unset : HasBit held count → ⊥

pub low_bits : (held : ℕ) → held < 2 ^ 8 → (held ≡ 255 → ⊥) → AreLowBits held (trailing_ones w8 held)
unfolding HasBit
low_bits held byte other =
    let ones = bit_at-trailing_ones w8 held (omega (arith, byte, other)) in
    record {
      few = ones.0;
      set = ones.2;
      unset = λ has. let e : ◌≡◌ {A = ℕ} 0 1 = sym ones.1 ∙ has in omega arith;
    }

-- all eight bits
pub all_bits : (held i : ℕ) → held ≡ 255 → i < 8 → HasBit held i
unfolding HasBit
all_bits held i all lt = subst (λ (m : ℕ). HasBit m i) (sym all) (bit_at_ones 8 i lt)
