-- What a search finds, and how slots hold it.
use Rattle.std.specs.Prelude.{◌≡◌, ⊤, ℕ, ◌+◌, ◌<◌, ◌≤◌, Bool, true, false, List, length, map, replicate, Option, Some, None, Result, IfOk, IfErr, if◌then◌else◌}
use Rattle.grep_matcher.specs.Span.{Span}
use Rattle.hir_tree.specs.Groups.{ends_of}
use Rattle.hir_tree.specs.PlainText.{stands_at}

-- a group that is set ends where it starts, or later
abbrev pub IsInOrder : Option (ℕ × ℕ) → Type 0
IsInOrder None = ⊤
IsInOrder (Some ends) = ends.0 ≤ ends.1

-- the span of a group that is set
abbrev pub span_of : Option (ℕ × ℕ) → Option Span
span_of None = None
span_of (Some ends) = Some (record { start = ends.0; end = ends.1 })

-- Of the places from the one to the other, each with something or nothing: what the least has that has something.
abbrev pub IsOfLeast : {A : Type 0} → (ℕ → Option A) → ℕ → ℕ → Option A → Type 0
IsOfLeast each from to None = (at : ℕ) → from ≤ at → at ≤ to → each at ≡ None
IsOfLeast each from to (Some a) =
    (least : ℕ) × (from ≤ least) × (least ≤ to) × (each least ≡ Some a) × ((at : ℕ) → from ≤ at → at < least → each at ≡ None)

-- a search of these places finds the groups of the least one that has any, as slots hold them
abbrev pub IsFound : (ℕ → Option (List (Option (ℕ × ℕ)))) → ℕ → ℕ → Bool → List (Option Span) → Type 0
IsFound each from to true slots =
    (groups : List (Option (ℕ × ℕ))) × IsOfLeast each from to (Some groups) × (slots ≡ map span_of groups)
IsFound each from to false slots = IsOfLeast each from to None × (slots ≡ replicate (length slots) None)

-- A search of these places finds the groups of the least one that has any. As many slots stay, and where it refuses they are unset.
pub record Searches {E : Type 0} (each : ℕ → Option (List (Option (ℕ × ℕ)))) (from to : ℕ) (result : Result Bool E) (old new : List (Option Span)) : Type 0 where
  pub found : IfOk result (λ found. IsFound each from to found new)
  pub kept : length new ≡ length old
  pub refused : IfErr result (λ _. new ≡ replicate (length old) None)

-- the place, where the bytes stand there
abbrev pub place_found : List ℕ → List ℕ → ℕ → Option ℕ
place_found bytes text at = if stands_at bytes text at then Some at else None

-- the span of the bytes, where they stand at the place
abbrev pub span_found : List ℕ → List ℕ → ℕ → Option Span
span_found bytes text at = if stands_at bytes text at then Some (record { start = at; end = at + length bytes }) else None

-- the span of the whole match, which is group 0, if there is a match
abbrev pub whole_span : Option (List (Option (ℕ × ℕ))) → Option Span
whole_span None = None
whole_span (Some groups) = span_of (ends_of groups 0)
