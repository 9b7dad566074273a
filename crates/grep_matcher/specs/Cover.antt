-- The spans that a search finds from a place on.
use Rattle.std.specs.Prelude.{◌≡◌, ◌≢◌, ℕ, ◌+◌, ◌<◌, ◌≤◌, ◌⊎◌, ⊤, List, [], ◌∷◌, Option, Some, None, All, Contains}
use Rattle.grep_matcher.specs.Span.{Span}

-- At each place of a haystack of n bytes the matcher prefers one end or none. An end lies from its place to n.
abbrev pub IsLawful : (ℕ → Option ℕ) → ℕ → Type 0
IsLawful preferred n = (place end : ℕ) → place ≤ n → preferred place ≡ Some end → (place ≤ end) × (end ≤ n)

-- a span that stands next to the one before it begins at that one's end or later, and isn't empty at that end
abbrev pub MayFollow : Span → Span → Type 0
MayFollow before span = (before.end ≤ span.start) × (span.start ≡ before.end → span.start < span.end)

-- each span may follow the one before it
abbrev pub IsInTurn : List Span → Type 0
IsInTurn [] = ⊤
IsInTurn (span ∷ []) = ⊤
IsInTurn (before ∷ span ∷ spans) = MayFollow before span × IsInTurn (span ∷ spans)

-- the place is where the span starts, or strictly inside it, or is its end and prefers itself
abbrev pub AccountsFor : Span → ℕ → ℕ → Type 0
AccountsFor span place end = (place ≡ span.start) ⊎ ((span.start < place) × (place < span.end)) ⊎ ((place ≡ span.end) × (end ≡ place))

-- The spans are the fair cover from the place `at` to n.
pub record IsFairCover (preferred : ℕ → Option ℕ) (at n : ℕ) (spans : List Span) : Type 0 where
  pub each_preferred : All (λ span. (at ≤ span.start) × (span.start ≤ n) × (preferred span.start ≡ Some span.end)) spans
  pub in_turn : IsInTurn spans
  pub none_missed : (place end : ℕ) → at ≤ place → place ≤ n → preferred place ≡ Some end → (span : Span) × Contains spans span × AccountsFor span place end

-- what the matcher prefers, as a relation
abbrev pub prefers : (ℕ → Option ℕ) → ℕ → ℕ → Type 0
prefers preferred place end = preferred place ≡ Some end

-- the same but for the empty span at the place `skip`
abbrev pub accepts : Option ℕ → (ℕ → Option ℕ) → ℕ → ℕ → Type 0
accepts skip preferred place end = (preferred place ≡ Some end) × (skip ≡ Some place → end ≢ place)

-- no place from the one to below the other has an end
abbrev pub NoneBetween : (ℕ → ℕ → Type 0) → ℕ → ℕ → Type 0
NoneBetween P low high = (place end : ℕ) → low ≤ place → place < high → P place end → ⊥

-- the span with the least start from `at` to n, if there is one
abbrev pub IsFirst : (ℕ → ℕ → Type 0) → ℕ → ℕ → Option Span → Type 0
IsFirst P at n None = NoneBetween P at (n + 1)
IsFirst P at n (Some span) = (at ≤ span.start) × (span.start ≤ n) × P span.start span.end × NoneBetween P at span.start

-- where a search goes on after a span
abbrev pub IsAfter : Span → ℕ → Type 0
IsAfter span from = (span.end ≤ from) × (from ≤ span.end + 1) × (span.start < span.end → from ≡ span.end) × (span.start ≡ span.end → from ≡ span.end + 1)
