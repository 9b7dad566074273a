-- What is asked of a closure that is called at what a search finds.
use Rattle.std.specs.Prelude.{ℕ, List, Option}
use Rattle.grep_matcher.specs.Span.{Span}
use Rattle.grep_matcher.specs.Replaced.{LiesWithin}
use Rattle.grep_matcher.specs.Groups.{AreOfMatch}

-- a closure may be called at each span of a haystack of n bytes
abbrev pub TakesSpans : {F : Type 0} → (F → Span → Type 0) → ℕ → F → Type 0
TakesSpans may_call n f = (span : Span) → LiesWithin n span → may_call f span

-- and at all captures that hold the groups of a match in it
abbrev pub TakesCaptures : {F C : Type 0} → (F → C → Type 0) → (C → List (Option Span)) → ℕ → F → Type 0
TakesCaptures {F} {C} may_call groups_of n f = (caps : C) → AreOfMatch n (groups_of caps) → may_call f caps

-- a call that answers `more` leaves a closure that may be called as before
abbrev pub StaysCallable : {F A R : Type 0} → (F → Type 0) → (F → A → R → F → Type 0) → R → Type 0
StaysCallable {F} {A} takes step more = (f g : F) (x : A) → takes f → step f x more g → takes g
