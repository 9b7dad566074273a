-- Stamps of spots, which say at which place a spot was visited.
use Rattle.std.specs.Prelude.{ℕ, ◌≤◌, ◌==◌, Bool, List, map}
use Rattle.std.specs.List.{AllByRecursion}

-- the spots with the stamp of the place were visited there
abbrev pub visited_at : ℕ → List ℕ → List Bool
visited_at now stamps = map (λ stamp. stamp == now) stamps

-- no stamp is greater
abbrev pub AllUpTo : ℕ → List ℕ → Type 0
AllUpTo now stamps = AllByRecursion (λ stamp. stamp ≤ now) stamps
