-- Which numbers sorted ranges hold.
use Rattle.std.proofs.Common.{◌≡◌, ℕ, zero, suc, ◌+◌, ◌<◌, ◌≤◌, Bool, true, false, List, [], ◌∷◌, length, map, drop, get_or, drop-cons, add-one, refl, sym, ap, ap₂, ◌∙◌, arith}
use Rattle.std.specs.Prelude.{◌&&◌, ◌||◌, nat_le, nat_lt}
use Rattle.std.proofs.Math.Bool.{or-false}
use Rattle.std.proofs.lemmas.Bool.Decides.{nat_tests}
use Rattle.std.specs.List.{prefix_len}
use Rattle.std.specs.List.Sorted.{IsPartitionedBy, IsPartitionPoint}
use Rattle.std.proofs.lemmas.List.Sums.{prefix_len_is}
use Rattle.hir_tree.specs.Ranges.{AreApart, StartsPast, chars_between, next_byte, nth_char}
use Rattle.hir_tree.specs.Runs.{in_set}

-- the range has the number
abbrev has : ℕ × ℕ → ℕ → Bool
has range n = nat_le range.0 n && nat_le n range.1

has_not_yet : (range : ℕ × ℕ) (n : ℕ) → n < range.0 → has range n ≡ false
has_not_yet range n less = grind (arith, nat_tests)

has_no_more : (range : ℕ × ℕ) (n : ℕ) → range.1 < n → has range n ≡ false
has_no_more range n less = grind (arith, nat_tests)

has_until : (range : ℕ × ℕ) (n : ℕ) → n ≤ range.1 → has range n ≡ nat_le range.0 n
has_until range n le = grind (arith, nat_tests)

-- sorted ranges that start past a number don't have it
in_set-past : (xs : List (ℕ × ℕ)) (m n : ℕ) → n ≤ m → StartsPast m xs → AreApart next_byte xs → in_set xs n ≡ false
in_set-past [] m n le past apart = refl
in_set-past (r ∷ rest) m n le past apart =
    ap (λ b. b || in_set rest n) (has_not_yet r n (omega (arith, past))) ∙ in_set-past rest (next_byte r.1) n (omega (arith, past, apart.0)) apart.1 apart.2

-- only the first range that does not end before a number can have it
in_set-first : (r : ℕ × ℕ) (rest : List (ℕ × ℕ)) (n : ℕ) → n ≤ r.1 → AreApart next_byte (r ∷ rest) → in_set (r ∷ rest) n ≡ nat_le r.0 n
in_set-first r rest n le apart =
    ap₂ (λ a b. a || b) (has_until r n le) (in_set-past rest (next_byte r.1) n (omega (arith, le)) apart.1 apart.2) ∙ or-false (nat_le r.0 n)

-- the same where ranges before it were passed
module _ (xs : List (ℕ × ℕ)) (i : ℕ) (d : ℕ × ℕ) (n : ℕ) (within : i < length xs) where
  here : drop i xs ≡ get_or xs i d ∷ drop (i + 1) xs
  here = rw add-one (drop-cons xs i d within)

  pub in_set-here : n ≤ (get_or xs i d).1 → AreApart next_byte (drop i xs) → in_set (drop i xs) n ≡ nat_le (get_or xs i d).0 n
  in_set-here le apart = ap (λ ys. in_set ys n) here ∙ in_set-first (get_or xs i d) (drop (i + 1) xs) n le (rw here at apart)

  pub in_set-later : (get_or xs i d).1 < n → in_set (drop i xs) n ≡ in_set (drop (i + 1) xs) n
  in_set-later less = ap (λ ys. in_set ys n) here ∙ ap (λ b. b || in_set (drop (i + 1) xs) n) (has_no_more (get_or xs i d) n less)

  pub apart_later : AreApart next_byte (drop i xs) → AreApart next_byte (drop (i + 1) xs)
  apart_later apart = (rw here at apart).2

-- ranges of characters have a character where the ranges of their numbers have its number
same_le : (m n : ℕ) → nat_le (nth_char m) (nth_char n) ≡ nat_le m n
same_le m n = grind (arith, nat_tests)

pub in_set-chars : (xs : List (ℕ × ℕ)) (n : ℕ) → in_set (map chars_between xs) (nth_char n) ≡ in_set xs n
in_set-chars [] n = refl
in_set-chars (r ∷ rest) n = ap₂ (λ a b. a || b) (ap₂ (λ a b. a && b) (same_le r.0 n) (same_le n r.1)) (in_set-chars rest n)

-- the ends of sorted ranges rise
starts_past_end : (xs : List (ℕ × ℕ)) (n j : ℕ) (d : ℕ × ℕ) → StartsPast n xs → AreApart next_byte xs → j < length xs → n < (get_or xs j d).1
starts_past_end [] n j d past apart within = absurd (omega arith)
starts_past_end (r ∷ rest) n zero d past apart within = omega (arith, past, apart.0)
starts_past_end (r ∷ rest) n (suc j) d past apart within =
    let later = starts_past_end rest (next_byte r.1) j d apart.1 apart.2 (omega (arith, within)) in omega (arith, past, apart.0, later)

ends_rise : (xs : List (ℕ × ℕ)) (i j : ℕ) (d : ℕ × ℕ) → AreApart next_byte xs → i ≤ j → j < length xs → (get_or xs i d).1 ≤ (get_or xs j d).1
ends_rise [] i j d apart order within = absurd (omega arith)
ends_rise (r ∷ rest) zero zero d apart order within = omega arith
ends_rise (r ∷ rest) zero (suc j) d apart order within = let later = starts_past_end rest (next_byte r.1) j d apart.1 apart.2 (omega (arith, within)) in omega (arith, later)
ends_rise (r ∷ rest) (suc i) zero d apart order within = absurd (omega (arith, order))
ends_rise (r ∷ rest) (suc i) (suc j) d apart order within = ends_rise rest i j d apart.2 (omega (arith, order)) (omega (arith, within))

-- those that end before a start stand before the others
pub ends_parted : (xs : List (ℕ × ℕ)) (start : ℕ) → AreApart next_byte xs → IsPartitionedBy (λ (r : ℕ × ℕ). nat_lt (r.1 + 1) start) xs
ends_parted xs start apart i j d order within later = let rise = ends_rise xs i j d apart order within in grind (arith, nat_tests)

-- a place of parting is the number of those at the front that pass
pub parted_at : (xs : List (ℕ × ℕ)) (p : ℕ × ℕ → Bool) (n : ℕ) → n ≤ length xs → IsPartitionPoint (λ r. p r ≡ true) (λ r. p r ≡ false) xs n → n ≡ prefix_len p xs
parted_at xs p n bound point = sym (prefix_len_is p xs n (0, 0) bound (λ k less. point.0 k (0, 0) (omega arith) less) (λ less. point.1 n (0, 0) (omega arith) less))
