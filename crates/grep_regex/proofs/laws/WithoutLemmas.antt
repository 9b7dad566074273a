-- Ranges without a number are sorted ranges.
use Rattle.std.proofs.Common.{◌≡◌, ℕ, ◌+◌, ◌-◌, ◌<◌, ◌≤◌, nat_lt, min, max, true, false, List, [], ◌∷◌, ◌++◌, inl, inr, refl, sym, subst, arith}
use Rattle.std.specs.Char.{IsScalar}
use Rattle.std.specs.List.{AllByRecursion}
use Rattle.std.proofs.lemmas.Bool.{cases_lt}
use Rattle.std.proofs.lemmas.Bool.Decides.{nat_tests}
use Rattle.std.proofs.lemmas.List.Elements.{All-from_recursion, recursion_from_All}
use Rattle.hir_tree.specs.Ranges.{StartsPast, AreApart, AreByteRanges, AreCharRanges, next_byte, next_char}
use Rattle.grep_regex.specs.Stripping.{beside, without}
use Rattle.hir_tree.proofs.ListLemmas.{All-flat_map}

-- what is left of a range, in its four cases
beside-both : (b : ℕ) (r : ℕ × ℕ) → r.0 < b → b < r.1 → beside b r ≡ (r.0, min r.1 (b - 1)) ∷ (max r.0 (b + 1), r.1) ∷ []
beside-both b r low high =
    let first : nat_lt r.0 b ≡ true = grind (arith, nat_tests) in
    let second : nat_lt b r.1 ≡ true = grind (arith, nat_tests) in
    rw (first, second) refl

beside-low : (b : ℕ) (r : ℕ × ℕ) → r.0 < b → r.1 ≤ b → beside b r ≡ (r.0, min r.1 (b - 1)) ∷ []
beside-low b r low high =
    let first : nat_lt r.0 b ≡ true = grind (arith, nat_tests) in
    let second : nat_lt b r.1 ≡ false = grind (arith, nat_tests) in
    rw (first, second) refl

beside-high : (b : ℕ) (r : ℕ × ℕ) → b ≤ r.0 → b < r.1 → beside b r ≡ (max r.0 (b + 1), r.1) ∷ []
beside-high b r low high =
    let first : nat_lt r.0 b ≡ false = grind (arith, nat_tests) in
    let second : nat_lt b r.1 ≡ true = grind (arith, nat_tests) in
    rw (first, second) refl

beside-none : (b : ℕ) (r : ℕ × ℕ) → b ≤ r.0 → r.1 ≤ b → beside b r ≡ []
beside-none b r low high =
    let first : nat_lt r.0 b ≡ false = grind (arith, nat_tests) in
    let second : nat_lt b r.1 ≡ false = grind (arith, nat_tests) in
    rw (first, second) refl

past-weaker : (m n : ℕ) (rs : List (ℕ × ℕ)) → m ≤ n → StartsPast n rs → StartsPast m rs
past-weaker m n [] le h = tt
past-weaker m n (r ∷ rs) le h = omega arith

module _ (next : ℕ → ℕ) (grows : (x : ℕ) → x < next x) (b : ℕ)
    (near : (x : ℕ) → x < b → next x ≤ b) where
  past-without : (m : ℕ) (rs : List (ℕ × ℕ)) → AreApart next rs → StartsPast m rs → StartsPast m (without b rs)
  past-without m [] apart past = tt
  past-without m (r ∷ rs) apart past = elim (cases_lt r.0 b) [
    | inl low ↦ elim (cases_lt b r.1) [
      | inl high ↦ subst (λ (xs : List (ℕ × ℕ)). StartsPast m (xs ++ without b rs)) (sym (beside-both b r low high)) past
      | inr high ↦ subst (λ (xs : List (ℕ × ℕ)). StartsPast m (xs ++ without b rs)) (sym (beside-low b r low high)) past
    ]
    | inr low ↦ elim (cases_lt b r.1) [
      | inl high ↦
          let after : m < max r.0 (b + 1) = omega arith in
          subst (λ (xs : List (ℕ × ℕ)). StartsPast m (xs ++ without b rs)) (sym (beside-high b r low high)) after
      | inr high ↦
          subst (λ (xs : List (ℕ × ℕ)). StartsPast m (xs ++ without b rs)) (sym (beside-none b r low high))
          (past-without m rs apart.2 (past-weaker m (next r.1) rs (omega (arith, grows r.1, apart.0)) apart.1))
    ]
  ]

  -- what is left below the number ends no later
  lower : (r : ℕ × ℕ) → r.0 < b → r.1 ≤ b → next (min r.1 (b - 1)) ≤ next r.1
  lower r low high = elim (cases_lt r.1 b) [
    | inl less ↦ let e : min r.1 (b - 1) ≡ r.1 = omega arith in rw e (omega arith)
    | inr same ↦ omega (arith, near (min r.1 (b - 1)) (omega arith), grows r.1)
  ]

  pub apart-without : (rs : List (ℕ × ℕ)) → AreApart next rs → AreApart next (without b rs)
  apart-without [] apart = tt
  apart-without (r ∷ rs) apart =
      let rest = apart-without rs apart.2 in
      let past = past-without (next r.1) rs apart.2 apart.1 in
      elim (cases_lt r.0 b) [
        | inl low ↦ elim (cases_lt b r.1) [
          | inl high ↦
              let order : r.0 ≤ min r.1 (b - 1) = omega arith in
              let gap : next (min r.1 (b - 1)) < max r.0 (b + 1) = omega (arith, near (min r.1 (b - 1)) (omega arith)) in
              let order2 : max r.0 (b + 1) ≤ r.1 = omega (arith, apart.0) in
              subst (λ (xs : List (ℕ × ℕ)). AreApart next (xs ++ without b rs)) (sym (beside-both b r low high)) (order, gap, (order2, past, rest))
          | inr high ↦
              let order : r.0 ≤ min r.1 (b - 1) = omega (arith, apart.0) in
              subst (λ (xs : List (ℕ × ℕ)). AreApart next (xs ++ without b rs)) (sym (beside-low b r low high))
              (order, past-weaker (next (min r.1 (b - 1))) (next r.1) (without b rs) (lower r low high) past, rest)
        ]
        | inr low ↦ elim (cases_lt b r.1) [
          | inl high ↦
              let order : max r.0 (b + 1) ≤ r.1 = omega (arith, apart.0) in
              subst (λ (xs : List (ℕ × ℕ)). AreApart next (xs ++ without b rs)) (sym (beside-high b r low high)) (order, past, rest)
          | inr high ↦ subst (λ (xs : List (ℕ × ℕ)). AreApart next (xs ++ without b rs)) (sym (beside-none b r low high)) rest
        ]
      ]

-- what holds of a range and its parts
parts-are : (P : ℕ × ℕ → Type 0) (b : ℕ) → ((r : ℕ × ℕ) → P r → b < r.1 → P (max r.0 (b + 1), r.1)) → ((r : ℕ × ℕ) → P r → r.0 < b → P (r.0, min r.1 (b - 1)))
    → (rs : List (ℕ × ℕ)) → AllByRecursion P rs → AllByRecursion P (without b rs)
parts-are P b up down rs h = All-flat_map P P (beside b) rs h one
  where
    one : (r : ℕ × ℕ) → P r → AllByRecursion P (beside b r)
    one r p = elim (cases_lt r.0 b) [
      | inl low ↦ elim (cases_lt b r.1) [
        | inl high ↦ subst (AllByRecursion P) (sym (beside-both b r low high)) (down r p low, (up r p high, tt))
        | inr high ↦ subst (AllByRecursion P) (sym (beside-low b r low high)) (down r p low, tt)
      ]
      | inr low ↦ elim (cases_lt b r.1) [
        | inl high ↦ subst (AllByRecursion P) (sym (beside-high b r low high)) (up r p high, tt)
        | inr high ↦ subst (AllByRecursion P) (sym (beside-none b r low high)) tt
      ]
    ]

pub bytes-without : (b : ℕ) (rs : List (ℕ × ℕ)) → AreByteRanges rs → AreByteRanges (without b rs)
bytes-without b rs h = (
  apart-without next_byte (λ x. omega arith) b (λ x lt. omega arith) rs h.0,
  All-from_recursion _ _ (parts-are (λ r. r.1 < 256) b (λ r p lt. p) (λ r p lt. omega arith) rs (recursion_from_All _ _ h.1)),
)

next_char-grows : (x : ℕ) → x < next_char x
next_char-grows x = grind (arith, nat_tests)

next_char-near : (b x : ℕ) → b < 128 → x < b → next_char x ≤ b
next_char-near b x small lt = grind (arith, nat_tests)

low-scalar : (n : ℕ) → n < 0xD800 → IsScalar n
low-scalar n low = grind (arith, nat_tests)

pub chars-without : (b : ℕ) (rs : List (ℕ × ℕ)) → b < 128 → AreCharRanges rs → AreCharRanges (without b rs)
chars-without b rs small h = (
  apart-without next_char next_char-grows b (λ x lt. next_char-near b x small lt) rs h.0,
  All-from_recursion _ _ (parts-are (λ r. IsScalar r.0 × IsScalar r.1) b up down rs (recursion_from_All _ _ h.1)),
)
  where
    up : (r : ℕ × ℕ) → IsScalar r.0 × IsScalar r.1 → b < r.1 → IsScalar (max r.0 (b + 1)) × IsScalar r.1
    up r p lt = elim (cases_lt r.0 (b + 1)) [
      | inl low ↦ let e : b + 1 ≡ max r.0 (b + 1) = omega arith in (subst IsScalar e (low-scalar (b + 1) (omega arith)), p.1)
      | inr high ↦ let e : r.0 ≡ max r.0 (b + 1) = omega arith in (subst IsScalar e p.0, p.1)
    ]

    down : (r : ℕ × ℕ) → IsScalar r.0 × IsScalar r.1 → r.0 < b → IsScalar r.0 × IsScalar (min r.1 (b - 1))
    down r p lt = (p.0, low-scalar (min r.1 (b - 1)) (omega arith))
