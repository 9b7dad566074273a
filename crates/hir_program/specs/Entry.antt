-- Where a search begins: behind the spots that each run of the program passes first.
use Rattle.std.specs.Prelude.{◌≡◌, ◌==◌, ◌||◌, ℕ, Bool, true, false, List, [], map}
use Rattle.hir_tree.specs.Runs.{begin}
use Rattle.hir_tree.specs.RunsLaws.{forget}
use Rattle.hir_program.specs.Program.{spot_at, way, opened, gives, ClosesFall}
use Rattle.hir_program.specs.declared.spot.Spot.{Spot}
use Rattle.hir_program.specs.declared.spot.Spot.TheVariants as spot

-- the spot goes on at the other, without a byte or behind one
abbrev pub goes_on_at : ℕ → Spot → Bool
goes_on_at p (spot.Bytes q set) = q == p
goes_on_at p (spot.Chars q set) = q == p
goes_on_at p (spot.Look l q) = q == p
goes_on_at p (spot.Jump q) = q == p
goes_on_at p (spot.Split q r) = q == p || r == p
goes_on_at p (spot.Open q) = q == p
goes_on_at p (spot.Close i q) = q == p
goes_on_at p spot.Fail = false
goes_on_at p spot.Match = false

-- no spot but the first goes on at this one
abbrev pub IsBehindFirst : List Spot → ℕ → Type 0
IsBehindFirst spots p = (q : ℕ) → goes_on_at p (spot_at spots q) ≡ true → q ≡ 0

-- A search may begin at this spot, with group 0 begun, in the place of the first spot: the runs are the same, but for what they saw.
abbrev pub IsEntry : List Spot → ℕ → Type 0
IsEntry spots q = ClosesFall spots → (text : List ℕ) (at groups : ℕ)
    → map forget (gives text spots 0 (way [] (begin at groups))) ≡ map forget (gives text spots q (opened (way [] (begin at groups))))
