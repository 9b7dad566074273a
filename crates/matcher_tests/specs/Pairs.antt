-- A byte and the one after it, which is group 1: the matcher of the tests.
use Rattle.std.specs.Prelude.{◌≡◌, ℕ, ◌+◌, ◌<◌, ◌≤◌, Bool, true, false, List, [], ◌∷◌, length, slice_index, Option, Some, None, nat_lt, ◌==◌, if◌then◌else◌}
use Rattle.std.proofs.Common.{arith, refl, zero, suc, ap}
use Rattle.std.proofs.lemmas.Bool.Decides.{nat_tests}
use Rattle.grep_matcher.specs.Span.{Span}
use Rattle.grep_matcher.specs.Cover.{IsLawful}
use Rattle.grep_matcher.specs.Groups.{AreGroups, group_at}
use Rattle.grep_matcher.specs.Replaced.{LiesWithin}

-- the end of a pair at a place: there stands its first byte, and one more
abbrev pub end_of_pair : List ℕ → ℕ → ℕ → Option ℕ
end_of_pair haystack first place = if nat_lt (place + 1) (length haystack) then (if slice_index haystack place == first then Some (place + 2) else None) else None

-- a span by its start and its length
abbrev pub span_of : ℕ → ℕ → Span
span_of start size = record { start = start; end = start + size }

-- the whole pair, and its second byte
abbrev pub groups_of_pair : ℕ → List (Option Span)
groups_of_pair place = Some (span_of place 2) ∷ Some (span_of (place + 1) 1) ∷ []

pub two_tests : (b c : Bool) (e end : ℕ) → (if b then (if c then Some e else None) else None) ≡ Some end → (b ≡ true) × (c ≡ true) × (end ≡ e)
two_tests true true e end h = (refl, refl, cc)
two_tests true false e end h = absurd (cc)
two_tests false c e end h = absurd (cc)

pub pair_end : (haystack : List ℕ) (first place end : ℕ) → end_of_pair haystack first place ≡ Some end → (place + 1 < length haystack) × (slice_index haystack place ≡ first) × (end ≡ place + 2)
pair_end haystack first place end h =
    let tests = two_tests (nat_lt (place + 1) (length haystack)) (slice_index haystack place == first) (place + 2) end h in
    let inside = tests.0 in let equal = tests.1 in let ends = tests.2 in (grind (arith, nat_tests), grind (arith, nat_tests), ends)

pub pair_lawful : (haystack : List ℕ) (first : ℕ) → IsLawful (end_of_pair haystack first) (length haystack)
pair_lawful haystack first place end l h = let k = pair_end haystack first place end h in (omega arith, omega arith)

pub pair_groups : (haystack : List ℕ) (first place end : ℕ) → place ≤ length haystack → end_of_pair haystack first place ≡ Some end → AreGroups place end (length haystack) (groups_of_pair place)
pair_groups haystack first place end l h = let k = pair_end haystack first place end h in ((span_of place 2, refl, refl, (let e = k.2 in omega arith)), by k)
  where
    by : (place + 1 < length haystack) × (slice_index haystack place ≡ first) × (end ≡ place + 2) → (i : ℕ) (span : Span) → group_at (groups_of_pair place) i ≡ Some span → LiesWithin (length haystack) span
    by k zero span e = let whole : Some (span_of place 2) ≡ Some span = e in let same : span_of place 2 ≡ span = cc in let starts : place ≡ span.start = ap (λ (x : Span). x.start) same in let ends : place + 2 ≡ span.end = ap (λ (x : Span). x.end) same in (omega arith, omega arith)
    by k (suc zero) span e = let whole : Some (span_of (place + 1) 1) ≡ Some span = e in let same : span_of (place + 1) 1 ≡ span = cc in let starts : place + 1 ≡ span.start = ap (λ (x : Span). x.start) same in let ends : place + 1 + 1 ≡ span.end = ap (λ (x : Span). x.end) same in (omega arith, omega arith)
    by k (suc (suc i)) span e = absurd (cc)
