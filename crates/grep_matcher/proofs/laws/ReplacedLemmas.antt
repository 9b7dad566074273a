-- Spans in turn, by recursion.
use Rattle.std.proofs.Common.{◌≡◌, ℕ, ◌+◌, ◌-◌, ◌≤◌, List, [], ◌∷◌, ◌++◌, length, drop, slice_range, arith, refl, sym, ap, ◌∙◌, All, Option, Some}
use Rattle.std.specs.List.{AllByRecursion}
use Rattle.std.proofs.lemmas.List.Elements.{recursion_from_All, All-weaker}
use Rattle.std.proofs.lemmas.List.{take-append-drop, drop-drop}
use Rattle.grep_matcher.specs.Span.{Span}
use Rattle.grep_matcher.specs.Cover.{IsInTurn, IsLawful, IsFairCover}
use Rattle.grep_matcher.specs.Replaced.{replaced_from, LiesWithin}

-- the spans stand one after another from a place on, within n
abbrev pub FromOn : ℕ → ℕ → List Span → Type 0
FromOn n at [] = at ≤ n
FromOn n at (x ∷ xs) = (at ≤ x.start) × (x.start ≤ x.end) × (x.end ≤ n) × FromOn n x.end xs

pub from_on : (n at : ℕ) (x : Span) (xs : List Span) → at ≤ x.start → IsInTurn (x ∷ xs) → AllByRecursion (LiesWithin n) (x ∷ xs) → FromOn n at (x ∷ xs)
from_on n at x [] low turn within = (low, within.0.0, within.0.1, within.0.1)
from_on n at x (y ∷ ys) low turn within = (low, within.0.0, within.0.1, from_on n x.end y ys turn.0.0 turn.1 within.1)

pub from_start : (n : ℕ) (xs : List Span) → IsInTurn xs → All (LiesWithin n) xs → FromOn n 0 xs
from_start n [] turn within = omega arith
from_start n (x ∷ xs) turn within = from_on n 0 x xs (omega arith) turn (recursion_from_All (LiesWithin n) (x ∷ xs) within)

pub within_cover : (preferred : ℕ → Option ℕ) (at n : ℕ) (spans : List Span) → IsLawful preferred n → IsFairCover preferred at n spans → All (LiesWithin n) spans
within_cover preferred at n spans lawful h = All-weaker (λ span. (at ≤ span.start) × (span.start ≤ n) × (preferred span.start ≡ Some span.end)) (LiesWithin n) (λ span g. lawful span.start span.end g.1 g.2) spans h.each_preferred

-- cut in two at a place
cut : (s : List ℕ) (at to : ℕ) → at ≤ to → slice_range s at to ++ drop to s ≡ drop at s
cut s at to le = let e : drop to s ≡ drop (to - at) (drop at s) = sym (drop-drop (to - at) at s ∙ ap (λ (k : ℕ). drop k s) (let sum : at + (to - at) ≡ to = omega arith in sum)) in rw e (take-append-drop (to - at) (drop at s))

pub own_bytes : (s : List ℕ) (at : ℕ) (spans : List Span) → FromOn (length s) at spans → replaced_from (λ span. slice_range s span.start span.end) s at spans ≡ drop at s
own_bytes s at [] h = refl
own_bytes s at (x ∷ xs) h =
    let rest : replaced_from (λ span. slice_range s span.start span.end) s x.end xs ≡ drop x.end s = own_bytes s x.end xs h.3 in
    rw (rest, cut s x.start x.end h.1) (cut s at x.start h.0)
