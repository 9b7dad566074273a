-- What the search by a stack of alternatives keeps true.
use Rattle.std.specs.Prelude.{◌≡◌, ⊤, ℕ, zero, suc, ◌+◌, ◌^◌, ◌<◌, ◌≤◌, Bool, false, List, [], ◌∷◌, ◌++◌, map, reverse, length, Option, Some, None, if◌then◌else◌, slice_index_or}
use Rattle.std.specs.List.{flat_map, sum_by, AllByRecursion}
use Rattle.hir_tree.specs.Looks.{holds}
use Rattle.hir_tree.specs.Runs.{Run, begin, byte_size, char_size, take_size, first}
use Rattle.hir_tree.specs.RunsLaws.{forget}
use Rattle.hir_program.specs.Program.{Way, way, opened, closed, rank, gives}
use Rattle.hir_core.specs.declared.seen.Seen.{Seen}
use Rattle.hir_program.specs.declared.spot.Spot.{Spot}
use Rattle.hir_program.specs.declared.spot.Spot.TheVariants as spot
use Rattle.hir_core.specs.declared.stack_search.Alternative.{Alternative}

-- the spot is a member of the set
abbrev pub has : Seen → ℕ → Bool
has set q = slice_index_or set.bits.items q false

-- the members below n, the greatest first
abbrev pub members_below : Seen → ℕ → List ℕ
members_below set zero = []
members_below set (suc n) = if has set n then n ∷ members_below set n else members_below set n

-- the members of a set
unfoldable pub members : Seen → List ℕ
members set = members_below set (length set.bits.items)

-- a spot that is to be tried, and the way to it
abbrev pub Place : Type 0
Place = ℕ × Way

-- where an alternative stands
abbrev pub place_of : Alternative → Place
place_of a = (a.spot, way (reverse a.starts.items) (record { at = a.at; groups = a.groups.items; seen = members a.seen }))

-- the run of an alternative, without what was seen
abbrev pub run_of : Alternative → Run
run_of a = forget (place_of a).1.run

-- where the alternatives of a stack stand, the first to be tried last
abbrev pub places_of : List Alternative → List Place
places_of stack = map place_of stack

-- where a spot leads, the preferred first
abbrev pub leads : List ℕ → Spot → Way → List Place
leads text (spot.Bytes q set) w = map (λ r. (q, way w.starts r)) (take_size (byte_size set text) w.run)
leads text (spot.Chars q set) w = map (λ r. (q, way w.starts r)) (take_size (char_size set text) w.run)
leads text (spot.Look l q) w = if holds l text w.run.at then (q, w) ∷ [] else []
leads text (spot.Jump q) w = (q, w) ∷ []
leads text (spot.Split p q) w = (p, w) ∷ (q, w) ∷ []
leads text (spot.Open q) w = (q, opened w) ∷ []
leads text (spot.Close i q) w = (q, closed i w) ∷ []
leads text spot.Fail w = []
leads text spot.Match w = []

-- a group that is set lies before this place
abbrev pub LiesBefore : ℕ → Option (ℕ × ℕ) → Type 0
LiesBefore at None = ⊤
LiesBefore at (Some span) = (span.0 ≤ span.1) × (span.1 ≤ at)

-- A way stands within the text. The groups that it is in began before it, and what its so many groups hold lies there.
pub record IsSound (text : List ℕ) (count : ℕ) (w : Way) : Type 0 where
  pub within : w.run.at ≤ length text
  pub begun : AllByRecursion (λ start. start ≤ w.run.at) w.starts
  pub ended : AllByRecursion (LiesBefore w.run.at) w.run.groups
  pub counted : length w.run.groups ≡ count

-- each way is sound
abbrev pub AllSound : List ℕ → ℕ → List Place → Type 0
AllSound text count places = AllByRecursion (λ (p : Place). IsSound text count p.1) places

module _ (text : List ℕ) (spots : List Spot) where
  -- what a spot gives to a way, without what was seen
  abbrev pub gives_at : Place → List Run
  gives_at p = map forget (gives text spots p.0 p.1)

  -- the first run from a place of the text, with groups up to this index
  abbrev pub first_at : ℕ → ℕ → Option Run
  first_at groups at = first (gives_at (0, way [] (begin at groups)))

  -- what the places of a stack give, the last one first
  unfoldable pub pending : List Place → List Run
  pending places = flat_map gives_at (reverse places)

  -- a number that falls with each step
  unfoldable pub weight : List Place → ℕ
  weight places = sum_by (λ p. 3 ^ rank text spots p.0 p.1) places

  -- A step from a place, with a stack below it: it is a match, or what it leads to stands in its place.
  abbrev pub Advances : Place → List Place → Option Run → List Place → Type 0
  Advances p below None new =
      (gives_at p ++ pending below ≡ pending new) × (weight new < weight below + 3 ^ rank text spots p.0 p.1)
      × ((count : ℕ) → IsSound text count p.1 → AllSound text count below → AllSound text count new)
  Advances p below (Some found) new = (gives_at p ≡ found ∷ []) × (found ≡ forget p.1.run)
