-- Laws of runs.
use Rattle.std.specs.Prelude.{◌≡◌, ℕ, ◌+◌, ◌≤◌, Bool, List, [], ◌++◌, length, map, All, Some, slice_set, option_map}
use Rattle.std.specs.List.{flat_map}
use Rattle.hir_tree.specs.Core.{Core, choice}
use Rattle.hir_tree.specs.Runs.{Run, Step, begin, visit, rounds_or_end, after, runs, first, preferred}

-- each run of a core ends at its place or after it, within the text
abbrev pub RunsGoForward : Type 0
RunsGoForward = (text : List ℕ) (core : Core) (n : ℕ) (r : Run) → r.at ≤ length text
    → All (λ s. (r.at ≤ s.at) × (s.at ≤ length text)) (runs text core n r)

-- a round of the plus with number n
abbrev pub round : List ℕ → Core → ℕ → Step
round text body n = runs text body (n + 2)

-- what follows a round
abbrev pub after_round : List ℕ → Bool → Core → ℕ → Step
after_round text greedy body n = after greedy (n + 1) (round text body n) (length text + 1)

-- What follows a round of a plus is one more round and what follows that, or an end, unless the again spot was seen. So the
-- count of rounds cuts nothing off.
abbrev pub RoundsAreNotCutOff : Type 0
RoundsAreNotCutOff = (text : List ℕ) (greedy : Bool) (body : Core) (n : ℕ) (r : Run) → r.at ≤ length text
    → after_round text greedy body n r
    ≡ visit (n + 1) (λ s. rounds_or_end greedy (flat_map (after_round text greedy body n) (round text body n s)) s) r

-- a run without what was seen
abbrev pub forget : Run → Run
forget r = record { at = r.at; groups = r.groups; seen = [] }

-- where nothing was seen, a core has the same runs at whichever number it stands
abbrev pub NumbersDoNotMatter : Type 0
NumbersDoNotMatter = (text : List ℕ) (core : Core) (n m at groups : ℕ)
    → map forget (runs text core n (begin at groups)) ≡ map forget (runs text core m (begin at groups))

-- where nothing was seen, a choice has the runs of its first part, and then those of its second
abbrev pub ChoicesJoinRuns : Type 0
ChoicesJoinRuns = (text : List ℕ) (a b : Core) (n at groups : ℕ)
    → map forget (runs text (choice a b) n (begin at groups))
    ≡ map forget (runs text a n (begin at groups)) ++ map forget (runs text b n (begin at groups))

-- the preferred match is the first run of the core, with group 0 from the place to its end
abbrev pub PreferredIsTheFirstRun : Type 0
PreferredIsTheFirstRun = (core : Core) (groups : ℕ) (text : List ℕ) (at n : ℕ)
    → preferred core groups text at
    ≡ option_map (λ r. slice_set r.groups 0 (Some (at, r.at))) (first (runs text core n (begin at groups)))
