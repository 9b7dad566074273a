-- Decimal digits: how they are written, and that they tell a number.
use Rattle.std.proofs.Common.{◌≡◌, ℕ, zero, suc, ◌+◌, ◌-◌, ◌*◌, ◌/◌, ◌%◌, ◌^◌, ◌<◌, ◌≤◌, false}
use Rattle.std.proofs.Common.{List, [], ◌∷◌, ◌++◌, length, refl, sym, ap, ◌∙◌, append_assoc, append-nil, length-append, arith}
use Rattle.std.specs.Prelude.{replicate}
use Rattle.std.proofs.Math.Nat.{div-one, div-div-eq-div-mul, pow-succ', sub-zero, zero-div}
use Rattle.std.proofs.lemmas.Fmt.{decimal_by_steps}
use Rattle.std.specs.Fmt.{decimal, styled_decimal, padded_integral, char_count, format_spec}
use Rattle.demo_tree.specs.Demo.{digits_of}

-- the last digit apart
pub digits_push : (n k : ℕ) → digits_of n (suc k) ≡ digits_of (n / 10) k ++ (48 + n % 10) ∷ []
digits_push n zero = ap (λ m. (48 + m % 10) ∷ []) (div-one n)
digits_push n (suc k) = λ i. (48 + over i % 10) ∷ digits_push n k i
  where
    over : n / 10 ^ suc k ≡ n / 10 / 10 ^ k
    over = ap (λ m. n / m) (pow-succ' 10 k) ∙ sym (div-div-eq-div-mul n 10 (10 ^ k))

zeros : (k : ℕ) → digits_of 0 k ≡ replicate k 48
zeros zero = refl
zeros (suc k) = λ i. (48 + none i) ∷ zeros k i
  where
    none : 0 / 10 ^ k % 10 ≡ 0
    none = ap (λ m. m % 10) (zero-div (10 ^ k))

-- filled up with zeros
pub digits_filled : (n k : ℕ) → 0 < k → n < 10 ^ k → n < 2 ^ 64 → replicate (k - length (decimal n)) 48 ++ decimal n ≡ digits_of n k
digits_filled n k some small fits = decimal_by_steps (λ m ds. (j : ℕ) → 0 < j → m < 10 ^ j
    → replicate (j - length ds) 48 ++ ds ≡ digits_of m j) one more n fits k some small
  where
    one : (m : ℕ) → m < 10 → (j : ℕ) → 0 < j → m < 10 ^ j → replicate (j - length ((48 + m) ∷ [])) 48 ++ (48 + m) ∷ [] ≡ digits_of m j
    one m low zero some small = absurd (omega arith)
    one m low (suc j) some small =
        let less : suc j - 1 ≡ j = omega arith in
        let front : m / 10 ≡ 0 = omega arith in
        let last : m % 10 ≡ m = omega arith in
        ap (λ l. replicate l 48 ++ (48 + m) ∷ []) less
        ∙ (λ i. sym (zeros j) i ++ (48 + sym last i) ∷ [])
        ∙ ap (λ f. digits_of f j ++ (48 + m % 10) ∷ []) (sym front)
        ∙ sym (digits_push m j)

    more : (m : ℕ) (ds : List ℕ) → 10 ≤ m → ((j : ℕ) → 0 < j → m / 10 < 10 ^ j → replicate (j - length ds) 48 ++ ds ≡ digits_of (m / 10) j)
        → (j : ℕ) → 0 < j → m < 10 ^ j → replicate (j - length (ds ++ (48 + m % 10) ∷ [])) 48 ++ (ds ++ (48 + m % 10) ∷ []) ≡ digits_of m j
    more m ds high shorter zero some small = absurd (omega arith)
    more m ds high shorter (suc zero) some small = absurd (omega arith)
    more m ds high shorter (suc (suc j)) some small =
        let last = (48 + m % 10) ∷ [] in
        let bound : m < 10 * 10 ^ suc j = rw (← (pow-succ' 10 (suc j))) small in
        let below : m / 10 < 10 ^ suc j = omega arith in
        let less : suc (suc j) - length (ds ++ last) ≡ suc j - length ds = omega (arith, length-append ds last) in
        ap (λ l. replicate l 48 ++ (ds ++ last)) less
        ∙ sym (append_assoc (replicate (suc j - length ds) 48) ds last)
        ∙ ap (λ (front : List ℕ). front ++ last) (shorter (suc j) (omega arith) below)
        ∙ sym (digits_push m (suc j))

-- what a hole writes that fills up with zeros
pub digits_written : (n k : ℕ) → 0 < k → n < 10 ^ k → n < 2 ^ 64 → padded_integral (format_spec 32 0 4 k (2 ^ 64 - 1)) false [] (decimal n) ≡ digits_of n k
unfolding padded_integral char_count
digits_written n k some small fits =
    ap (λ l. replicate l 48 ++ (decimal n ++ [])) (sub-zero (k - length (decimal n) - 0) ∙ sub-zero (k - length (decimal n)))
    ∙ ap (λ ds. replicate (k - length (decimal n)) 48 ++ ds) (append-nil (decimal n))
    ∙ digits_filled n k some small fits

pub two_digits : (n : ℕ) → n < 100 → styled_decimal (format_spec 32 0 4 2 (2 ^ 64 - 1)) n ≡ digits_of n 2
two_digits n small = digits_written n 2 (omega arith) (omega arith) (omega arith)

pub eight_digits : (n : ℕ) → n < 100000000 → styled_decimal (format_spec 32 0 4 8 (2 ^ 64 - 1)) n ≡ digits_of n 8
eight_digits n small = digits_written n 8 (omega arith) (omega arith) (omega arith)

-- ---- digits tell a number

push_same : (xs ys : List ℕ) (x y : ℕ) → xs ++ x ∷ [] ≡ ys ++ y ∷ [] → (xs ≡ ys) × (x ≡ y)
push_same [] [] x y e = (refl, cc)
push_same [] (b ∷ []) x y e = cc
push_same [] (b ∷ next ∷ ys) x y e = cc
push_same (a ∷ []) [] x y e = cc
push_same (a ∷ next ∷ xs) [] x y e = cc
push_same (a ∷ xs) (b ∷ ys) x y e =
    let first : a ≡ b = cc in
    let (rest, last) = push_same xs ys x y (cc) in
    ((λ i. first i ∷ rest i), last)

pub digits_tell : (k m n : ℕ) → m < 10 ^ k → n < 10 ^ k → digits_of m k ≡ digits_of n k → m ≡ n
digits_tell zero m n low lower e = omega arith
digits_tell (suc k) m n low lower e =
    let (front, last) = push_same (digits_of (m / 10) k) (digits_of (n / 10) k) (48 + m % 10) (48 + n % 10) (sym (digits_push m k) ∙ e ∙ digits_push n k) in
    let bound : m < 10 * 10 ^ k = rw (← (pow-succ' 10 k)) low in
    let other : n < 10 * 10 ^ k = rw (← (pow-succ' 10 k)) lower in
    let same : m / 10 ≡ n / 10 = digits_tell k (m / 10) (n / 10) (omega arith) (omega arith) front in
    omega arith
