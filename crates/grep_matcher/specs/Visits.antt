-- The calls of a closure at the items that a search finds.
use Rattle.std.specs.Prelude.{◌≡◌, ◌≢◌, ◌⊎◌, ℕ, List, [], ◌∷◌, Option, ⊤, Bool, Result, Ok, Err}
use Rattle.grep_matcher.specs.Span.{Span}
use Rattle.grep_matcher.specs.Cover.{IsFairCover}

-- how a series of calls ends: with the list, at an answer other than "go on", or before a further call
pub data End (R : Type 0) : Type 0 where
  at_the_end : End R
  at_answer : R → End R
  broken_off : End R

-- From the state f on, a closure is called at the items in order while it answers `more`. The calls end so, and leave the state `last`.
abbrev pub Visits : {F A R : Type 0} → (F → A → R → F → Type 0) → R → F → List A → End R → F → Type 0
Visits step more f [] end last = ((end ≡ at_the_end) ⊎ (end ≡ broken_off)) × (last ≡ f)
Visits {F} {A} {R} step more f (x ∷ xs) end last =
    ((end ≡ broken_off) × (last ≡ f))
    ⊎ ((r : R) × (r ≢ more) × (end ≡ at_answer r) × step f x r last)
    ⊎ ((g : F) × step f x more g × Visits step more g xs end last)

-- the calls went on to the list's end, or to an answer
abbrev pub IsStopped : {R : Type 0} → End R → Type 0
IsStopped at_the_end = ⊤
IsStopped (at_answer r) = ⊤
IsStopped broken_off = ⊥

-- the answer of a call whose closure may fail: an error is the closure's last answer
abbrev pub IsAnswered : {E : Type 0} → End (Result Bool E) → Result (Unit {0}) E → Type 0
IsAnswered at_the_end (Ok unit) = ⊤
IsAnswered (at_answer (Ok go)) (Ok unit) = ⊤
IsAnswered (at_answer (Err e)) (Err d) = d ≡ e
IsAnswered at_the_end (Err d) = ⊥
IsAnswered (at_answer (Ok go)) (Err d) = ⊥
IsAnswered (at_answer (Err e)) (Ok unit) = ⊥
IsAnswered broken_off answer = ⊥

-- the closure is called so at the members of the fair cover from `at` to n
pub record VisitsCover {F R : Type 0} (step : F → Span → R → F → Type 0) (more : R) (preferred : ℕ → Option ℕ) (n at : ℕ) (f : F) (end : End R) (last : F) : Type 0 where
  pub spans : List Span
  pub cover : IsFairCover preferred at n spans
  pub visits : Visits step more f spans end last

-- a call at a span, with captures that hold the groups of that span
abbrev pub WithGroups : {F C R : Type 0} → (F → C → R → F → Type 0) → (C → List (Option Span)) → (ℕ → List (Option Span)) → F → Span → R → F → Type 0
WithGroups {F} {C} call groups_of groups_at f span r g = (caps : C) × (groups_of caps ≡ groups_at span.start) × call f caps r g

-- the same of a closure that also appends
abbrev pub AppendsWithGroups : {F C D R : Type 0} → (F → C → D → R → D → F → Type 0) → (C → List (Option Span)) → (ℕ → List (Option Span)) → F → Span → D → R → D → F → Type 0
AppendsWithGroups {F} {C} call groups_of groups_at f span before r after g = (caps : C) × (groups_of caps ≡ groups_at span.start) × call f caps before r after g
