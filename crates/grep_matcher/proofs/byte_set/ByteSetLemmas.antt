-- Words as sets of bytes.
use Rattle.std.proofs.Common.{◌≡◌, ◌≢◌, ℕ, ◌+◌, ◌-◌, ◌/◌, ◌%◌, ◌^◌, ◌<◌, ◌≤◌, min, max, Bool, true, false, not, ◌&&◌, ◌||◌, eqb, leb, ltb, List, length, get_or, set, bit_and, bit_or, inl, inr, refl, sym, ◌∙◌, ap, subst, arith, get_or-set_same, get_or-set_other, replicate, w64}
use Rattle.std.proofs.lemmas.List.{get_or-replicate}
use Rattle.std.proofs.lemmas.Bool.{cases_eq, cases_lt}
use Rattle.std.proofs.lemmas.Bool.Decides.{nat_tests}
use Rattle.std.proofs.lemmas.Nat.Bits.{bit_at_and, bit_at_or, bit_at_not, bit_at-pow_same, bit_at-pow_other, bit_at-lt, bit_at_ones}
use Rattle.std.specs.Int.{bit_at, bit_not}

flag_in : (n m b byte : ℕ) → n ≡ 1 → b ≡ byte → eqb n 1 ≡ (eqb b byte || eqb m 1)
flag_in n m b byte e f = grind (arith, nat_tests)

flag_kept : (n m b byte : ℕ) → n ≡ m → b ≢ byte → eqb n 1 ≡ (eqb b byte || eqb m 1)
flag_kept n m b byte e f = grind (arith, nat_tests)

flag_out : (n m b byte : ℕ) → n ≡ 0 → b ≡ byte → eqb n 1 ≡ (not (eqb b byte) && eqb m 1)
flag_out n m b byte e f = grind (arith, nat_tests)

flag_left : (n m b byte : ℕ) → n ≡ m → b ≢ byte → eqb n 1 ≡ (not (eqb b byte) && eqb m 1)
flag_left n m b byte e f = grind (arith, nat_tests)

module _ (words : List ℕ) (byte b v : ℕ) (four : length words ≡ 4) (low : byte < 256) where
  -- the bit of b once the word of `byte` is v
  now : ℕ
  now = bit_at (get_or (set words (byte / 64) v) (b / 64) 0) (b % 64)

  before : ℕ
  before = bit_at (get_or words (b / 64) 0) (b % 64)

  in_word : b / 64 ≡ byte / 64 → now ≡ bit_at v (b % 64)
  unfolding now
  in_word same = ap (λ (j : ℕ). bit_at (get_or (set words (byte / 64) v) j 0) (b % 64)) same ∙ ap (λ (w : ℕ). bit_at w (b % 64)) (get_or-set_same words (byte / 64) v 0 (omega arith))

  in_other : b / 64 ≢ byte / 64 → now ≡ before
  unfolding now before
  in_other other = ap (λ (w : ℕ). bit_at w (b % 64)) (get_or-set_other words (byte / 64) (b / 64) v 0 other)

pub byte_added : (words : List ℕ) (byte b p : ℕ) → length words ≡ 4 → byte < 256 → b < 256 → p ≡ 2 ^ (byte % 64)
    → eqb (bit_at (get_or (set words (byte / 64) (bit_or (get_or words (byte / 64) 0) p)) (b / 64) 0) (b % 64)) 1 ≡ (eqb b byte || eqb (bit_at (get_or words (b / 64) 0) (b % 64)) 1)
unfolding now before
byte_added words byte b p four low small power =
    let w : ℕ = get_or words (byte / 64) 0 in
    let bits : bit_at (bit_or w p) (b % 64) ≡ max (bit_at w (b % 64)) (bit_at p (b % 64)) = bit_at_or w p (b % 64) in
    let one : bit_at w (b % 64) < 2 = bit_at-lt w (b % 64) in
    elim (cases_eq (b / 64) (byte / 64)) [
      | inl same ↦ elim (cases_eq (b % 64) (byte % 64)) [
        | inl at ↦
            let p_one : bit_at p (b % 64) ≡ 1 = ap (λ (q : ℕ). bit_at q (b % 64)) power ∙ ap (λ (i : ℕ). bit_at (2 ^ (byte % 64)) i) at ∙ bit_at-pow_same (byte % 64) in
            let whole : bit_at (bit_or w p) (b % 64) ≡ 1 = bits ∙ (let k : max (bit_at w (b % 64)) (bit_at p (b % 64)) ≡ 1 = omega arith in k) in
            flag_in _ _ b byte (in_word words byte b (bit_or w p) four low same ∙ whole) (omega arith)
        | inr other ↦
            let p_none : bit_at p (b % 64) ≡ 0 = ap (λ (q : ℕ). bit_at q (b % 64)) power ∙ bit_at-pow_other (byte % 64) (b % 64) other in
            let whole : bit_at (bit_or w p) (b % 64) ≡ bit_at w (b % 64) = bits ∙ (let k : max (bit_at w (b % 64)) (bit_at p (b % 64)) ≡ bit_at w (b % 64) = omega arith in k) in
            flag_kept _ _ b byte (in_word words byte b (bit_or w p) four low same ∙ whole ∙ ap (λ (j : ℕ). bit_at (get_or words j 0) (b % 64)) (sym same)) (λ e. other (ap (λ (n : ℕ). n % 64) e))
      ]
      | inr other ↦ flag_kept _ _ b byte (in_other words byte b (bit_or w p) four low other) (λ e. other (ap (λ (n : ℕ). n / 64) e))
    ]

pub byte_removed : (words : List ℕ) (byte b p : ℕ) → length words ≡ 4 → byte < 256 → b < 256 → p ≡ 2 ^ (byte % 64) → p < 2 ^ 64
    → eqb (bit_at (get_or (set words (byte / 64) (bit_and (get_or words (byte / 64) 0) (bit_not w64 p))) (b / 64) 0) (b % 64)) 1 ≡ (not (eqb b byte) && eqb (bit_at (get_or words (b / 64) 0) (b % 64)) 1)
unfolding now before
byte_removed words byte b p four low small power fits =
    let w : ℕ = get_or words (byte / 64) 0 in
    let bits : bit_at (bit_and w (bit_not w64 p)) (b % 64) ≡ min (bit_at w (b % 64)) (1 - bit_at p (b % 64))
    = bit_at_and w (bit_not w64 p) (b % 64) ∙ ap (λ (k : ℕ). min (bit_at w (b % 64)) k) (bit_at_not w64 p (b % 64) fits (omega arith)) in
    let one : bit_at w (b % 64) < 2 = bit_at-lt w (b % 64) in
    elim (cases_eq (b / 64) (byte / 64)) [
      | inl same ↦ elim (cases_eq (b % 64) (byte % 64)) [
        | inl at ↦
            let p_one : bit_at p (b % 64) ≡ 1 = ap (λ (q : ℕ). bit_at q (b % 64)) power ∙ ap (λ (i : ℕ). bit_at (2 ^ (byte % 64)) i) at ∙ bit_at-pow_same (byte % 64) in
            let whole : bit_at (bit_and w (bit_not w64 p)) (b % 64) ≡ 0 = bits ∙ (let k : min (bit_at w (b % 64)) (1 - bit_at p (b % 64)) ≡ 0 = omega arith in k) in
            flag_out _ _ b byte (in_word words byte b (bit_and w (bit_not w64 p)) four low same ∙ whole) (omega arith)
        | inr other ↦
            let p_none : bit_at p (b % 64) ≡ 0 = ap (λ (q : ℕ). bit_at q (b % 64)) power ∙ bit_at-pow_other (byte % 64) (b % 64) other in
            let whole : bit_at (bit_and w (bit_not w64 p)) (b % 64) ≡ bit_at w (b % 64) = bits ∙ (let k : min (bit_at w (b % 64)) (1 - bit_at p (b % 64)) ≡ bit_at w (b % 64) = omega arith in k) in
            flag_left _ _ b byte (in_word words byte b (bit_and w (bit_not w64 p)) four low same ∙ whole ∙ ap (λ (j : ℕ). bit_at (get_or words j 0) (b % 64)) (sym same)) (λ e. other (ap (λ (n : ℕ). n % 64) e))
      ]
      | inr other ↦ flag_left _ _ b byte (in_other words byte b (bit_and w (bit_not w64 p)) four low other) (λ e. other (ap (λ (n : ℕ). n / 64) e))
    ]

pub byte_added_at : (words : List ℕ) (byte b p k : ℕ) → k ≡ byte / 64 → length words ≡ 4 → byte < 256 → b < 256 → p ≡ 2 ^ (byte % 64)
    → eqb (bit_at (get_or (set words k (bit_or (get_or words k 0) p)) (b / 64) 0) (b % 64)) 1 ≡ (eqb b byte || eqb (bit_at (get_or words (b / 64) 0) (b % 64)) 1)
byte_added_at words byte b p k e four low small power =
    subst (λ (j : ℕ). eqb (bit_at (get_or (set words j (bit_or (get_or words j 0) p)) (b / 64) 0) (b % 64)) 1 ≡ (eqb b byte || eqb (bit_at (get_or words (b / 64) 0) (b % 64)) 1))
    (sym e) (byte_added words byte b p four low small power)

pub byte_removed_at : (words : List ℕ) (byte b p k : ℕ) → k ≡ byte / 64 → length words ≡ 4 → byte < 256 → b < 256 → p ≡ 2 ^ (byte % 64) → p < 2 ^ 64
    → eqb (bit_at (get_or (set words k (bit_and (get_or words k 0) (bit_not w64 p))) (b / 64) 0) (b % 64)) 1 ≡ (not (eqb b byte) && eqb (bit_at (get_or words (b / 64) 0) (b % 64)) 1)
byte_removed_at words byte b p k e four low small power fits =
    subst (λ (j : ℕ). eqb (bit_at (get_or (set words j (bit_and (get_or words j 0) (bit_not w64 p))) (b / 64) 0) (b % 64)) 1 ≡ (not (eqb b byte) && eqb (bit_at (get_or words (b / 64) 0) (b % 64)) 1))
    (sym e) (byte_removed words byte b p four low small power fits)

pub full_holds : (byte : ℕ) → byte < 256 → eqb (bit_at (get_or (replicate 4 18446744073709551615) (byte / 64) 0) (byte % 64)) 1 ≡ true
full_holds byte small =
    ap (λ (w : ℕ). eqb (bit_at w (byte % 64)) 1) (get_or-replicate 4 (byte / 64) 18446744073709551615 0 (omega arith)) ∙ ap (λ (n : ℕ). eqb n 1) (bit_at_ones 64 (byte % 64) (omega arith))

-- the bytes from start on below the last place are those up to the end
pub range_done : (b start end place : ℕ) → end + 1 ≤ place → place ≤ max start (end + 1) → (leb start b && ltb b place) ≡ (leb start b && leb b end)
range_done b start end place past within = elim (cases_lt b start) [
  | inl lt ↦ let e : leb start b ≡ false = grind (arith, nat_tests) in rw e refl
  | inr ge ↦ ap (λ (t : Bool). leb start b && t) (let e : ltb b place ≡ leb b end = grind (arith, nat_tests) in e)
]
