-- What the groups of a match hold.
use Rattle.std.specs.Prelude.{◌≡◌, ℕ, ◌≤◌, List, Option, Some, None, option_map, slice_get, unwrap_or}

-- where the group with an index begins and ends, if it is set
abbrev pub ends_of : List (Option (ℕ × ℕ)) → ℕ → Option (ℕ × ℕ)
ends_of groups index = unwrap_or (slice_get groups index) None

-- where the match begins: the start of group 0
abbrev pub start_of : List (Option (ℕ × ℕ)) → Option ℕ
start_of groups = option_map (λ ends. ends.0) (ends_of groups 0)

-- each group that is set ends where it begins or later, within a text of n bytes
abbrev pub EachLiesWithin : ℕ → List (Option (ℕ × ℕ)) → Type 0
EachLiesWithin n groups = (index : ℕ) (ends : ℕ × ℕ) → ends_of groups index ≡ Some ends → (ends.0 ≤ ends.1) × (ends.1 ≤ n)

-- each group that is set begins at a place or after it
abbrev pub EachLiesFrom : ℕ → List (Option (ℕ × ℕ)) → Type 0
EachLiesFrom at groups = (index : ℕ) (ends : ℕ × ℕ) → ends_of groups index ≡ Some ends → at ≤ ends.0
