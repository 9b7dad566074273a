-- Worked examples of preferred matches.
use Rattle.std.specs.Prelude.{◌≡◌, ℕ, true, false, List, [], ◌∷◌, Some, None}
use Rattle.hir_tree.specs.Core.{Core, repeat}
use Rattle.hir_tree.specs.Runs.{preferred}

-- `a*`
abbrev pub star : Core → Core
star = repeat 0 None true

-- `a*?`
abbrev pub lazy_star : Core → Core
lazy_star = repeat 0 None false

-- `a?`
abbrev pub maybe : Core → Core
maybe = repeat 0 (Some 1) true

-- `a??`
abbrev pub lazy_maybe : Core → Core
lazy_maybe = repeat 0 (Some 1) false

-- the preferred match of a core without groups goes from one place to the other
abbrev pub Matches : Core → List ℕ → ℕ → ℕ → Type 0
Matches core text from to = preferred core 0 text from ≡ Some (Some (from, to) ∷ [])

-- a core has no match from a place
abbrev pub MatchesNone : Core → List ℕ → ℕ → Type 0
MatchesNone core text from = preferred core 0 text from ≡ None
