-- The groups of a match, by their numbers.
use Rattle.std.specs.Prelude.{Bool, true, false, unwrap_or, slice_get, ◌≡◌, ℕ, List, Option, Some, None, IsSome}
use Rattle.grep_matcher.specs.Span.{Span}
use Rattle.grep_matcher.specs.Cover.{IsFirst}
use Rattle.grep_matcher.specs.Replaced.{LiesWithin}

-- what the captures calls prefer: nothing where the matcher doesn't capture
abbrev pub captured : Bool → (ℕ → Option ℕ) → ℕ → Option ℕ
captured true preferred place = preferred place
captured false preferred place = None

-- a group by its number
abbrev pub group_at : List (Option Span) → ℕ → Option Span
group_at groups i = unwrap_or (slice_get groups i) None

-- each group that is set lies in a haystack of n bytes
abbrev pub EachLiesWithin : ℕ → List (Option Span) → Type 0
EachLiesWithin n groups = (i : ℕ) (span : Span) → group_at groups i ≡ Some span → LiesWithin n span

-- group 0 is the span from the place to the end, and each group that is set lies in the haystack
abbrev pub AreGroups : ℕ → ℕ → ℕ → List (Option Span) → Type 0
AreGroups place end n groups = ((span : Span) × (group_at groups 0 ≡ Some span) × (span.start ≡ place) × (span.end ≡ end)) × EachLiesWithin n groups

-- the groups of a match: group 0 is set, and each group that is set lies in the haystack
abbrev pub AreOfMatch : ℕ → List (Option Span) → Type 0
AreOfMatch n groups = IsSome (group_at groups 0) × EachLiesWithin n groups

-- the groups of the first span from `at` to n, if there is one
abbrev pub HasFirst : (ℕ → ℕ → Type 0) → ℕ → ℕ → (ℕ → List (Option Span)) → List (Option Span) → Bool → Type 0
HasFirst P at n groups_of groups true = (span : Span) × IsFirst P at n (Some span) × (groups ≡ groups_of span.start)
HasFirst P at n groups_of groups false = IsFirst P at n None
