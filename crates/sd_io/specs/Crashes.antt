-- What a crash may have left since some moment: clauses for those who work through any disk.
use Rattle.std.specs.Prelude.{◌≡◌, ◌≢◌, ◌⊎◌, ◌≤◌, ℕ, Option, Some, IsSome}
use Rattle.sd_io.specs.Tree.{NameList, Content, file_at}
use Rattle.sd_io.specs.Outcomes.{Leaves, own_of, content_at}
use Rattle.sd_io.specs.Disk.{DiskState, outcomes_now}

-- From `old` on, a crash at any moment up to `new` leaves at each place what one at `old` could have left there, or one of the new contents of
-- the place; at a loose place it may leave anything.
pub record LeavesSince (contents : NameList → Content → Type 0) (loose : NameList → Type 0) (old new : DiskState) : Type 0 where
  pub later : old.clock ≤ new.clock
  pub before : (k : ℕ) → k ≤ old.clock → new.outcomes k ≡ old.outcomes k
  pub each : (k : ℕ) → old.clock ≤ k → k ≤ new.clock → (q : NameList) (found : Option Content) → Leaves (new.outcomes k q) found
      → Leaves (outcomes_now old q) found ⊎ ((content : Content) × (found ≡ Some content) × contents q content) ⊎ loose q

-- From `new` on, until the next change, a crash leaves the new content of each place that has one, and at every other what one at `old` could
-- have left there.
pub record IsDurable (contents : NameList → Content → Type 0) (old new : DiskState) : Type 0 where
  pub there : (q : NameList) (content : Content) → contents q content → (found : Option Content) → Leaves (outcomes_now new q) found → found ≡ Some content
  pub elsewhere : (q : NameList) → ((content : Content) → contents q content → ⊥) → (found : Option Content) → Leaves (outcomes_now new q) found
      → Leaves (outcomes_now old q) found

-- each own outcome of what stands there leaves it as it is
abbrev pub IsSettledAt : DiskState → NameList → Type 0
IsSettledAt state q = (found : Option Content) → Leaves (own_of (outcomes_now state q)) found → found ≡ content_at state.tree q

-- what was settled is so still, but at one place
abbrev pub SettledBut : NameList → DiskState → DiskState → Type 0
SettledBut place old new = (q : NameList) → q ≢ place → IsSettledAt old q → IsSettledAt new q

-- each file that was settled is so still, the same one or another
abbrev pub KeepsSettled : DiskState → DiskState → Type 0
KeepsSettled old new = (q : NameList) → IsSome (file_at old.tree q) → IsSettledAt old q → IsSettledAt new q
