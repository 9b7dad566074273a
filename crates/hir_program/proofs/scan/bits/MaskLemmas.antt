-- Bits of numbers, and what is set in them.
use Rattle.std.proofs.Common.{◌≡◌, ◌≢◌, ℕ, ◌+◌, ◌-◌, ◌*◌, ◌/◌, ◌%◌, ◌^◌, ◌<◌, ◌≤◌, min, max, ◌⊎◌, inl, inr, List, get_or, set, length, bit_and, bit_or, sym, ap, subst, ◌∙◌, arith, w64, get_or-set_same, get_or-set_other}
use Rattle.std.proofs.lemmas.Bool.{cases_eq, cases_lt}
use Rattle.std.proofs.lemmas.List.{get_or_past}
use Rattle.std.proofs.lemmas.Nat.{pow_below, shr-shr}
use Rattle.std.proofs.lemmas.Nat.Bits.{bit_at-pow_other, bit_at-pow_same, bit_at-zero, bit_at_and, bit_at_or, bit_at-lt, bit_at_above, bit_at_set_same, bit_at_cat_low}
use Rattle.std.specs.Int.{bit_at}
use Rattle.hir_program.specs.Masks.{HasBit, IsPart, Grows, match_bit, sure_bit}

-- 0 has no bit
pub HasBit-none : (i : ℕ) → HasBit 0 i → ⊥
unfolding HasBit
HasBit-none i h = let e : ◌≡◌ {A = ℕ} 0 1 = sym (bit_at-zero i) ∙ h in omega arith

-- a number below a power has no bit there
pub HasBit-above : (mask k : ℕ) → mask < 2 ^ k → HasBit mask k → ⊥
unfolding HasBit
HasBit-above mask k lt h = let e : ◌≡◌ {A = ℕ} 0 1 = sym (bit_at_above mask k k lt (omega arith)) ∙ h in omega arith

pub HasBit-or_left : (a b i : ℕ) → HasBit a i → HasBit (bit_or a b) i
unfolding HasBit
HasBit-or_left a b i h = bit_at_or a b i ∙ greater (bit_at a i) (bit_at b i) h (bit_at-lt b i)
  where
    greater : (x y : ℕ) → x ≡ 1 → y < 2 → max x y ≡ 1
    greater x y e l = omega arith

pub HasBit-or_right : (a b i : ℕ) → HasBit b i → HasBit (bit_or a b) i
unfolding HasBit
HasBit-or_right a b i h = bit_at_or a b i ∙ greater (bit_at a i) (bit_at b i) (bit_at-lt a i) h
  where
    greater : (x y : ℕ) → x < 2 → y ≡ 1 → max x y ≡ 1
    greater x y l e = omega arith

pub HasBit-and : (a b i : ℕ) → HasBit a i → HasBit b i → HasBit (bit_and a b) i
unfolding HasBit
HasBit-and a b i h k = bit_at_and a b i ∙ lesser (bit_at a i) (bit_at b i) h k
  where
    lesser : (x y : ℕ) → x ≡ 1 → y ≡ 1 → min x y ≡ 1
    lesser x y e f = omega arith

-- numbers without a bit in common
pub HasBit-apart : (a b i : ℕ) → bit_and a b ≡ 0 → HasBit a i → HasBit b i → ⊥
HasBit-apart a b i nothing h k = HasBit-none i (subst (λ (m : ℕ). HasBit m i) nothing (HasBit-and a b i h k))

-- the bit of a match that may end also where the last look doesn't hold
pub HasBit-sure : HasBit (2 ^ 62) sure_bit
unfolding HasBit
HasBit-sure = omega arith

-- and those of both kinds of ends
pub HasBit-ends : HasBit 13835058055282163712 sure_bit × HasBit 13835058055282163712 match_bit
unfolding HasBit
HasBit-ends = (omega arith, omega arith)

-- the bit that was set
pub HasBit-set : (mask k : ℕ) → k < 64 → HasBit (bit_or mask (1 * 2 ^ k % 2 ^ 64)) k
unfolding HasBit
HasBit-set mask k lt = bit_at_set_same w64 mask k lt

-- a power of two has its bit
pub HasBit-pow : (k : ℕ) → HasBit (2 ^ k) k
unfolding HasBit
HasBit-pow k = bit_at-pow_same k

-- and no other
pub HasBit-pow_only : (k i : ℕ) → HasBit (2 ^ k) i → i ≡ k
unfolding HasBit
HasBit-pow_only k i h = elim (cases_eq i k) [
  | inl here ↦ here
  | inr other ↦ let e : ◌≡◌ {A = ℕ} 0 1 = sym (bit_at-pow_other k i other) ∙ h in absurd (omega arith)
]

-- what both have is what one has
pub HasBit-or : (a b i : ℕ) → HasBit (bit_or a b) i → HasBit a i ⊎ HasBit b i
unfolding HasBit
HasBit-or a b i h = either (bit_at a i) (bit_at b i) (bit_at-lt a i) (sym (bit_at_or a b i) ∙ h)
  where
    either : (x y : ℕ) → x < 2 → max x y ≡ 1 → (x ≡ 1) ⊎ (y ≡ 1)
    either x y l e = elim (cases_eq x 1) [ inl one ↦ inl one | inr other ↦ inr (omega arith) ]

-- no bit but that of the power
pub HasBit-or_pow : (mask k i : ℕ) → HasBit (bit_or mask (2 ^ k)) i → HasBit mask i ⊎ (i ≡ k)
HasBit-or_pow mask k i h = elim (HasBit-or mask (2 ^ k) i h) [ inl before ↦ inl before | inr set_bit ↦ inr (HasBit-pow_only k i set_bit) ]

-- no bit but the one that was set
pub HasBit-set_only : (mask k i : ℕ) → k < 64 → HasBit (bit_or mask (1 * 2 ^ k % 2 ^ 64)) i → HasBit mask i ⊎ (i ≡ k)
HasBit-set_only mask k i lt h =
    let below : 2 ^ k < 2 ^ 64 = pow_below k 64 lt in
    let whole : 1 * 2 ^ k % 2 ^ 64 ≡ 2 ^ k = omega arith in
    HasBit-or_pow mask k i (subst (λ (m : ℕ). HasBit (bit_or mask m) i) whole h)

-- a bit of a number is one of its eight bits
pub HasBit-eight : (mask i : ℕ) → HasBit mask i → HasBit (mask / 2 ^ (8 * (i / 8)) % 256) (i % 8)
unfolding HasBit
HasBit-eight mask i h =
    let low : i % 8 < 8 = omega arith in
    let x : ℕ = mask / 2 ^ (8 * (i / 8)) in
    let whole : 8 * (i / 8) + i % 8 ≡ i = omega arith in
    let parts : x / 256 * 2 ^ 8 + x % 256 ≡ x = omega arith in
    sym (bit_at_cat_low (x / 256) 8 (x % 256) (i % 8) low) ∙ ap (λ (n : ℕ). bit_at n (i % 8)) parts
    ∙ ap (λ (n : ℕ). n % 2) (shr-shr mask (8 * (i / 8)) (i % 8)) ∙ ap (λ (n : ℕ). bit_at mask n) whole ∙ h

-- where nothing is left of a number, it has no bit
no_bit_left : (mask row i : ℕ) → mask / 2 ^ (8 * row) ≡ 0 → row ≤ i / 8 → HasBit mask i → ⊥
unfolding HasBit
no_bit_left mask row i gone above h =
    let whole : 8 * row + (i - 8 * row) ≡ i = omega arith in
    let none : bit_at mask i ≡ 0 =
    sym (ap (λ (n : ℕ). bit_at mask n) whole) ∙ ap (λ (n : ℕ). n % 2) (sym (shr-shr mask (8 * row) (i - 8 * row)))
    ∙ ap (λ (n : ℕ). bit_at n (i - 8 * row)) gone ∙ bit_at-zero (i - 8 * row) in
    let e : ◌≡◌ {A = ℕ} 0 1 = sym none ∙ h in
    omega arith

-- The rows below one were joined, and these bits are left.
pub record Joins (rows : List ℕ) (live row rest joined : ℕ) : Type 0 where
  pub left : rest ≡ live / 2 ^ (8 * row)
  pub parts : (c : ℕ) → c < row → IsPart (get_or rows (256 * c + live / 2 ^ (8 * c) % 256) 0) joined

pub Joins-begin : (rows : List ℕ) (live : ℕ) → Joins rows live 0 live 0
Joins-begin rows live = record { left = omega arith; parts = λ c low. absurd (omega arith) }

-- a row more
pub Joins-next : (rows : List ℕ) (live row rest joined : ℕ) → Joins rows live row rest joined
    → Joins rows live (row + 1) (rest / 2 ^ 8) (bit_or joined (get_or rows (256 * row + rest % 256) 0))
Joins-next rows live row rest joined h = record {
  left =
      ap (λ (n : ℕ). n / 2 ^ 8) h.left ∙ shr-shr live (8 * row) 8
      ∙ ap (λ (n : ℕ). live / 2 ^ n) (let next : 8 * row + 8 ≡ 8 * (row + 1) = omega arith in next);
  parts = λ c low. elim (cases_eq c row) [
    | inl here ↦ λ i has.
        HasBit-or_right joined (get_or rows (256 * row + rest % 256) 0) i
        (subst (λ (k : ℕ). HasBit (get_or rows k 0) i)
        (ap (λ (c : ℕ). 256 * c + live / 2 ^ (8 * c) % 256) here ∙ ap (λ (n : ℕ). 256 * row + n % 256) (sym h.left)) has)
    | inr other ↦ λ i has. HasBit-or_left joined (get_or rows (256 * row + rest % 256) 0) i (h.parts c (omega arith) i has)
  ];
}

-- the rows of all bits were joined
pub Joins-end : (rows : List ℕ) (live row rest joined : ℕ) → Joins rows live row rest joined → (rest ≡ 0) ⊎ (8 ≤ row)
    → (i : ℕ) → i < 64 → HasBit live i → IsPart (get_or rows (256 * (i / 8) + live / 2 ^ (8 * (i / 8)) % 256) 0) joined
Joins-end rows live row rest joined h over i small has = elim (cases_lt (i / 8) row) [
  | inl below ↦ h.parts (i / 8) below
  | inr above ↦ elim over [
    | inl gone ↦ absurd (no_bit_left live row i (sym h.left ∙ gone) above has)
    | inr all ↦ absurd (omega arith)
  ]
]

-- a number of a list grows
pub Grows-set : (masks : List ℕ) (k more : ℕ) → IsPart (get_or masks k 0) more → Grows masks (set masks k more)
Grows-set masks k more part b i has = elim (cases_eq b k) [
  | inl here ↦ elim (cases_lt k (length masks)) [
    | inl within ↦
        let same : get_or (set masks k more) b 0 ≡ more = ap (λ (j : ℕ). get_or (set masks k more) j 0) here ∙ get_or-set_same masks k more 0 within in
        subst (λ (m : ℕ). HasBit m i) (sym same) (part i (subst (λ (j : ℕ). HasBit (get_or masks j 0) i) here has))
    | inr past ↦ absurd (HasBit-none i (subst (λ (m : ℕ). HasBit m i) (past_zero masks b (omega arith)) has))
  ]
  | inr other ↦ subst (λ (m : ℕ). HasBit m i) (sym (get_or-set_other masks k b more 0 other)) has
]
  where
    past_zero : (xs : List ℕ) (j : ℕ) → length xs ≤ j → get_or xs j 0 ≡ 0
    past_zero xs j h = get_or_past xs j 0 h

-- the row has the mask for the choices of bits so far that have this bit
abbrev pub RowHas : List ℕ → ℕ → ℕ → ℕ → ℕ → Type 0
RowHas rows row bit mask eight = (v : ℕ) → v < eight → HasBit v bit → IsPart mask (get_or rows (256 * row + v) 0)

pub Row-set : (rows : List ℕ) (row bit mask eight : ℕ) → 256 * row + eight < length rows → RowHas rows row bit mask eight
    → RowHas (set rows (256 * row + eight) (bit_or (get_or rows (256 * row + eight) 0) mask)) row bit mask (eight + 1)
Row-set rows row bit mask eight within h v low has i set_bit = elim (cases_eq v eight) [
  | inl here ↦
      let same : get_or (set rows (256 * row + eight) (bit_or (get_or rows (256 * row + eight) 0) mask)) (256 * row + v) 0 ≡ bit_or (get_or rows (256 * row + eight) 0) mask =
      ap (λ (j : ℕ). get_or (set rows (256 * row + eight) (bit_or (get_or rows (256 * row + eight) 0) mask)) (256 * row + j) 0) here
      ∙ get_or-set_same rows (256 * row + eight) (bit_or (get_or rows (256 * row + eight) 0) mask) 0 within in
      subst (λ (m : ℕ). HasBit m i) (sym same) (HasBit-or_right (get_or rows (256 * row + eight) 0) mask i set_bit)
  | inr other ↦
      let apart : 256 * row + v ≢ 256 * row + eight = λ e. other (omega arith) in
      subst (λ (m : ℕ). HasBit m i) (sym (get_or-set_other rows (256 * row + eight) (256 * row + v) (bit_or (get_or rows (256 * row + eight) 0) mask) 0 apart)) (h v (omega arith) has i set_bit)
]

pub Row-skip : (rows : List ℕ) (row bit mask eight : ℕ) → (eight / 2 ^ bit % 2 ≡ 1 → ⊥) → RowHas rows row bit mask eight → RowHas rows row bit mask (eight + 1)
unfolding HasBit
Row-skip rows row bit mask eight unset h v low has = elim (cases_eq v eight) [
  | inl here ↦ absurd (unset (ap (λ (n : ℕ). n / 2 ^ bit % 2) (sym here) ∙ has))
  | inr other ↦ h v (omega arith) has
]
