-- Ranges that stand apart are determined by what they hold.
use Rattle.std.proofs.Common.{◌≡◌, ◌↔◌, ℕ, zero, suc, ◌<◌, ◌≤◌, All, List, [], ◌∷◌, refl, ap, ◌∙◌, inl, inr, arith}
use Rattle.std.proofs.lemmas.Bool.{cases_lt}
use Rattle.std.proofs.lemmas.Bool.Decides.{nat_tests}
use Rattle.std.specs.Char.{IsScalar}
use Rattle.hir_tree.specs.Ranges.{Holds, StartsPast, AreApart, AreByteRanges, AreCharRanges, next_byte, next_char}

-- `next` gives the least member past a member
record IsNext (next : ℕ → ℕ) (Member : ℕ → Type 0) : Type 0 where
  pub grows : (m : ℕ) → m < next m
  pub least : (m n : ℕ) → Member m → Member n → m < n → Member (next m) × (next m ≤ n)

-- both ends of each range are members
abbrev AreMembers : (ℕ → Type 0) → List (ℕ × ℕ) → Type 0
AreMembers Member rs = All (λ range. Member range.0 × Member range.1) rs

-- what is held lies past a number that the ranges start past
past_held : (next : ℕ → ℕ) (Member : ℕ → Type 0) → IsNext next Member → (m : ℕ) (rs : List (ℕ × ℕ)) → StartsPast m rs → AreApart next rs
    → (n : ℕ) → Holds rs n → m < n
past_held next Member steps m [] past apart n held = absurd held
past_held next Member steps m (r ∷ rest) past apart n held = elim held [
  | inl w ↦ omega (arith, past, w.0)
  | inr later ↦ omega (arith, past, apart.0, steps.grows r.1, past_held next Member steps (next r.1) rest apart.1 apart.2 n later)
]

-- nor does it lie before the first range
start_held : (next : ℕ → ℕ) (Member : ℕ → Type 0) → IsNext next Member → (r : ℕ × ℕ) (rest : List (ℕ × ℕ)) → AreApart next (r ∷ rest)
    → (n : ℕ) → Holds (r ∷ rest) n → r.0 ≤ n
start_held next Member steps r rest apart n held = elim held [
  | inl w ↦ w.0
  | inr later ↦ omega (arith, apart.0, steps.grows r.1, past_held next Member steps (next r.1) rest apart.1 apart.2 n later)
]

-- of two lists that start alike, the first range of one doesn't end before that of the other
end_reached : (next : ℕ → ℕ) (Member : ℕ → Type 0) → IsNext next Member → (r s : ℕ × ℕ) (xs ys : List (ℕ × ℕ)) → AreApart next (r ∷ xs)
    → Member r.1 → Member s.1 → s.0 ≤ r.0
    → ((n : ℕ) → Member n → Holds (s ∷ ys) n → Holds (r ∷ xs) n)
    → s.1 ≤ r.1
end_reached next Member steps r s xs ys apart first second start held =
    elim (cases_lt r.1 s.1) [
      | inl less ↦
          let least = steps.least r.1 s.1 first second less in
          let grows = steps.grows r.1 in
          let n = next r.1 in
          elim (held n least.0 (inl (omega (arith, apart.0, grows, start), least.1))) [
            | inl w ↦ absurd (omega (arith, w.1, grows))
            | inr later ↦ absurd (omega (arith, past_held next Member steps n xs apart.1 apart.2 n later))
          ]
      | inr reached ↦ reached
    ]

-- what the rest holds, the other rest holds
rest_held : (next : ℕ → ℕ) (Member : ℕ → Type 0) → IsNext next Member → (r s : ℕ × ℕ) (xs ys : List (ℕ × ℕ)) → AreApart next (r ∷ xs) → s.1 ≤ r.1
    → ((n : ℕ) → Member n → Holds (r ∷ xs) n → Holds (s ∷ ys) n)
    → (n : ℕ) → Member n → Holds xs n → Holds ys n
rest_held next Member steps r s xs ys apart reached held n member there =
    elim (held n member (inr there)) [
      | inl w ↦ absurd (omega (arith, w.1, reached, steps.grows r.1, past_held next Member steps (next r.1) xs apart.1 apart.2 n there))
      | inr later ↦ later
    ]

same_ends : (r s : ℕ × ℕ) → r.0 ≡ s.0 → r.1 ≡ s.1 → r ≡ s
same_ends r s start end = ap (λ a. (a, r.1)) start ∙ ap (λ b. (s.0, b)) end

same_cons : (r s : ℕ × ℕ) (xs ys : List (ℕ × ℕ)) → r ≡ s → xs ≡ ys → r ∷ xs ≡ s ∷ ys
same_cons r s xs ys head rest = ap (λ x. x ∷ xs) head ∙ ap (λ zs. s ∷ zs) rest

-- two lists that hold the same members are the same
same_ranges : (next : ℕ → ℕ) (Member : ℕ → Type 0) → IsNext next Member → (xs ys : List (ℕ × ℕ)) → AreApart next xs → AreApart next ys
    → AreMembers Member xs → AreMembers Member ys
    → ((n : ℕ) → Member n → Holds xs n → Holds ys n) → ((n : ℕ) → Member n → Holds ys n → Holds xs n)
    → xs ≡ ys
same_ranges next Member steps [] [] ax ay mx my to from = refl
same_ranges next Member steps [] (s ∷ ys) ax ay mx my to from =
    let there = my 0 s (omega arith) in absurd (from s.0 there.0 (inl (omega arith, ay.0)))
same_ranges next Member steps (r ∷ xs) [] ax ay mx my to from =
    let there = mx 0 r (omega arith) in absurd (to r.0 there.0 (inl (omega arith, ax.0)))
same_ranges next Member steps (r ∷ xs) (s ∷ ys) ax ay mx my to from =
    let first = mx 0 r (omega arith) in
    let second = my 0 s (omega arith) in
    let low : s.0 ≤ r.0 = start_held next Member steps s ys ay r.0 (to r.0 first.0 (inl (omega arith, ax.0))) in
    let back : r.0 ≤ s.0 = start_held next Member steps r xs ax s.0 (from s.0 second.0 (inl (omega arith, ay.0))) in
    let high = end_reached next Member steps r s xs ys ax first.1 second.1 low from in
    let over = end_reached next Member steps s r ys xs ay second.1 first.1 back to in
    same_cons r s xs ys (same_ends r s (omega (arith, low, back)) (omega (arith, high, over)))
    (same_ranges next Member steps xs ys ax.2 ay.2 (λ k d h. mx (suc k) d (omega arith)) (λ k d h. my (suc k) d (omega arith))
    (rest_held next Member steps r s xs ys ax high to) (rest_held next Member steps s r ys xs ay over from))

byte_steps : IsNext next_byte (λ b. b < 256)
byte_steps = record {
  grows = λ m. omega arith;
  least = λ m n first second less. (omega arith, omega arith);
}

char_grows : (m : ℕ) → m < next_char m
char_grows m = grind (arith, nat_tests)

char_least : (m n : ℕ) → IsScalar m → IsScalar n → m < n → IsScalar (next_char m) × (next_char m ≤ n)
char_least m n first second less = (grind (arith, nat_tests), grind (arith, nat_tests))

char_steps : IsNext next_char IsScalar
char_steps = record { grows = char_grows; least = char_least }

byte_members : (rs : List (ℕ × ℕ)) → AreApart next_byte rs → All (λ range. range.1 < 256) rs → AreMembers (λ b. b < 256) rs
byte_members [] apart below k d h = absurd (omega arith)
byte_members (r ∷ rest) apart below zero d h = let end : r.1 < 256 = below 0 r (omega arith) in (omega (arith, apart.0, end), end)
byte_members (r ∷ rest) apart below (suc k) d h = byte_members rest apart.2 (λ j e i. below (suc j) e (omega arith)) k d (omega arith)

pub same_bytes : (xs ys : List (ℕ × ℕ)) → AreByteRanges xs → AreByteRanges ys → ((b : ℕ) → Holds xs b ↔ Holds ys b) → xs ≡ ys
same_bytes xs ys first second same =
    same_ranges next_byte (λ b. b < 256) byte_steps xs ys first.0 second.0 (byte_members xs first.0 first.1) (byte_members ys second.0 second.1)
    (λ n member. (same n).0) (λ n member. (same n).1)

pub same_chars : (xs ys : List (ℕ × ℕ)) → AreCharRanges xs → AreCharRanges ys → ((c : ℕ) → IsScalar c → Holds xs c ↔ Holds ys c) → xs ≡ ys
same_chars xs ys first second same =
    same_ranges next_char IsScalar char_steps xs ys first.0 second.0 first.1 second.1
    (λ n member. (same n member).0) (λ n member. (same n member).1)
