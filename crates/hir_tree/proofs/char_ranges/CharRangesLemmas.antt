-- Characters and their numbers.
use Rattle.std.proofs.Common.{◌≡◌, ◌↔◌, ◌⊎◌, ℕ, zero, suc, ◌+◌, ◌-◌, ◌<◌, ◌≤◌, All, List, [], ◌∷◌, map, subst, inl, inr, arith}
use Rattle.std.proofs.lemmas.Bool.{cases_lt}
use Rattle.std.proofs.lemmas.Bool.Decides.{nat_tests}
use Rattle.std.specs.Char.{IsScalar}
use Rattle.hir_tree.specs.Ranges.{IsWithin, Holds, StartsPast, AreApart, AreCharRanges, next_byte, next_char, nth_char, chars_between}

-- one more
next_nth : (n : ℕ) → next_char (nth_char n) ≡ nth_char (n + 1)
next_nth n = grind (arith, nat_tests)

nth_less : (m n : ℕ) → m < n → nth_char m < nth_char n
nth_less m n less = grind (arith, nat_tests)

nth_le : (m n : ℕ) → m ≤ n → nth_char m ≤ nth_char n
nth_le m n le = grind (arith, nat_tests)

nth_le_from : (m n : ℕ) → nth_char m ≤ nth_char n → m ≤ n
nth_le_from m n le = grind (arith, nat_tests)

nth_scalar : (n : ℕ) → n < 0x10F800 → IsScalar (nth_char n)
nth_scalar n under = grind (arith, nat_tests)

-- each character has a number
low_number : (c : ℕ) → c < 0xD800 → nth_char c ≡ c
low_number c low = grind (arith, nat_tests)

high_number : (c : ℕ) → IsScalar c → 0xD800 ≤ c → nth_char (c - 0x800) ≡ c
high_number c scalar high = grind (arith, nat_tests)

number : (c : ℕ) → IsScalar c → (n : ℕ) × (nth_char n ≡ c)
number c scalar = elim (cases_lt c 0xD800) [
  | inl low ↦ (c, low_number c low)
  | inr high ↦ (c - 0x800, high_number c scalar high)
]

chars_within : (range : ℕ × ℕ) (n : ℕ) → IsWithin (chars_between range) (nth_char n) ↔ IsWithin range n
chars_within range n = (
  (λ w. (nth_le_from range.0 n w.0, nth_le_from n range.1 w.1)),
  (λ w. (nth_le range.0 n w.0, nth_le n range.1 w.1)),
)

-- the ranges hold a character where they hold its number
chars_held : (rs : List (ℕ × ℕ)) (n : ℕ) → Holds (map chars_between rs) (nth_char n) ↔ Holds rs n
chars_held [] n = ((λ never. never), (λ never. never))
chars_held (r ∷ rest) n =
    let first = chars_within r n in
    let later = chars_held rest n in (
      (λ held. elim held [ inl w ↦ inl (first.0 w) | inr there ↦ inr (later.0 there) ]),
      (λ held. elim held [ inl w ↦ inl (first.1 w) | inr there ↦ inr (later.1 there) ]),
    )

chars_past : (n : ℕ) (rs : List (ℕ × ℕ)) → StartsPast (next_byte n) rs → StartsPast (next_char (nth_char n)) (map chars_between rs)
chars_past n [] past = tt
chars_past n (r ∷ rest) past = rw (next_nth n) (nth_less (n + 1) r.0 past)

chars_apart : (rs : List (ℕ × ℕ)) → AreApart next_byte rs → AreApart next_char (map chars_between rs)
chars_apart [] apart = tt
chars_apart (r ∷ rest) apart = (nth_le r.0 r.1 apart.0, chars_past r.1 rest apart.1, chars_apart rest apart.2)

chars_scalar : (rs : List (ℕ × ℕ)) → AreApart next_byte rs → All (λ range. range.1 < 0x10F800) rs
    → All (λ range. IsScalar range.0 × IsScalar range.1) (map chars_between rs)
chars_scalar [] apart below k d h = absurd (omega arith)
chars_scalar (r ∷ rest) apart below zero d h =
    let end : r.1 < 0x10F800 = below 0 r (omega arith) in
    (nth_scalar r.0 (omega (arith, end, apart.0)), nth_scalar r.1 end)
chars_scalar (r ∷ rest) apart below (suc k) d h =
    chars_scalar rest apart.2 (λ j e i. below (suc j) e (omega arith)) k d (omega arith)

-- ranges of numbers are ranges of characters
pub chars_are_ranges : (rs : List (ℕ × ℕ)) → AreApart next_byte rs → All (λ range. range.1 < 0x10F800) rs → AreCharRanges (map chars_between rs)
chars_are_ranges rs apart below = (chars_apart rs apart, chars_scalar rs apart below)

-- and are united as they are
pub chars_united : (rs ss cs : List (ℕ × ℕ)) (start end first last : ℕ)
    → map chars_between rs ≡ cs → nth_char start ≡ first → nth_char end ≡ last
    → ((n : ℕ) → Holds ss n ↔ (Holds rs n ⊎ IsWithin (start, end) n))
    → (c : ℕ) → IsScalar c → Holds (map chars_between ss) c ↔ (Holds cs c ⊎ IsWithin (first, last) c)
chars_united rs ss cs start end first last same starts ends both c scalar =
    let United : ℕ → Type 0 = λ d. Holds (map chars_between ss) d ↔ (Holds (map chars_between rs) d ⊎ IsWithin (nth_char start, nth_char end) d) in
    let n = (number c scalar).0 in
    let new = chars_held ss n in
    let old = chars_held rs n in
    let within = chars_within (start, end) n in
    let here : United c = subst United (number c scalar).1 (
      (λ held. elim ((both n).0 (new.0 held)) [ inl there ↦ inl (old.1 there) | inr w ↦ inr (within.1 w) ]),
      (λ held. elim held [ inl there ↦ new.1 ((both n).1 (inl (old.0 there))) | inr w ↦ new.1 ((both n).1 (inr (within.0 w))) ]),
    ) in
    rw (← same, ← starts, ← ends) here
