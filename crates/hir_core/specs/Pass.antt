-- The pass of a search over a text: what its threads give, and what it answers.
use Rattle.std.specs.Prelude.{◌≡◌, ℕ, zero, suc, ◌+◌, ◌-◌, ◌<◌, ◌≤◌, Bool, true, false, not, ◌&&◌, nat_lt, ◌⊎◌, List, [], ◌∷◌, ◌++◌, length, map, Option, Some, None, if◌then◌else◌, slice_index_or, slice_set, option_map}
use Rattle.std.specs.Option.{option_or}
use Rattle.std.specs.List.{flat_map, sum_by, AllByRecursion}
use Rattle.sd_base.specs.Steps.{IsTicked}
use Rattle.sd_base.specs.declared.steps.Steps.{Steps}
use Rattle.hir_tree.specs.Looks.{holds}
use Rattle.hir_tree.specs.Runs.{Run, begin, moved, byte_size, char_size, first}
use Rattle.hir_tree.specs.RunsLaws.{forget}
use Rattle.hir_program.specs.Program.{spot_at, some_run, Way, way, opened, closed, gives}
use Rattle.hir_program.specs.declared.spot.Spot.{Spot}
use Rattle.hir_program.specs.declared.spot.Spot.TheVariants as spot
use Rattle.hir_core.specs.Trails.{Stop, way_of, stops_on}
use Rattle.hir_core.specs.declared.trail.Trail.{Trail}
use Rattle.hir_core.specs.declared.closure.Turn.{Turn}
use Rattle.hir_core.specs.declared.closure.Turn.TheVariants as turn
use Rattle.hir_core.specs.declared.pass.Best.{Best}

-- the way of one of which nothing is known but its place
abbrev pub fresh : ℕ → Way
fresh at = way [] (record { at = at; groups = []; seen = [] })

-- the first run, without what it saw
abbrev pub first_of : List Run → Option Run
first_of runs = first (map forget runs)

-- where a spot leads without a byte, the preferred first
abbrev pub leads : List ℕ → Spot → Way → List Stop
leads text (spot.Look l q) w = if holds l text w.run.at then (q, w) ∷ [] else []
leads text (spot.Jump q) w = (q, w) ∷ []
leads text (spot.Split p q) w = (p, w) ∷ (q, w) ∷ []
leads text (spot.Open q) w = (q, opened w) ∷ []
leads text (spot.Close i q) w = (q, closed i w) ∷ []
leads text _ w = []

-- on by bytes to another spot, if any are taken
abbrev pub taken : Option ℕ → ℕ → Way → List Stop
taken None q w = []
taken (Some bytes) q w = (q, way w.starts (moved bytes w.run)) ∷ []

-- where a spot leads by bytes
abbrev pub leads_on : List ℕ → Spot → Way → List Stop
leads_on text (spot.Bytes q set) w = taken (byte_size set text w.run.at) q w
leads_on text (spot.Chars q set) w = taken (char_size set text w.run.at) q w
leads_on text _ w = []

-- What a thread leads to at a place, where the spot was visited or not: what comes onto the stack, and what is kept for
-- later places.
abbrev pub comes : List ℕ → Spot → Bool → Way → List Stop
comes text s visited w = if visited then [] else leads text s w

abbrev pub keeps : List ℕ → Spot → Bool → Way → List Stop
keeps text s visited w = if visited then [] else leads_on text s w

-- the spot was visited
abbrev pub was_visited : List Bool → ℕ → Bool
was_visited visited q = slice_index_or visited q false

-- the spot ends a match
abbrev pub ends_match : Spot → Bool
ends_match spot.Match = true
ends_match _ = false

-- with this spot visited, unless it ends a match
abbrev pub visiting : Spot → ℕ → List Bool → List Bool
visiting s q visited = if ends_match s then visited else slice_set visited q true

-- A visit of the spot is counted: it takes bytes, looks, goes on both ways, or ends a group other than the whole match.
abbrev pub is_counted : Spot → Bool
is_counted (spot.Bytes q set) = true
is_counted (spot.Chars q set) = true
is_counted (spot.Look l q) = true
is_counted (spot.Split p q) = true
is_counted (spot.Close i q) = nat_lt 0 i
is_counted _ = false

-- the ticks of a visit, where the spot was visited or not
abbrev pub visit_ticks : Spot → Bool → ℕ
visit_ticks s visited = if is_counted s && not visited then 1 else 0

-- how many spots have counted visits
abbrev pub counted : List Spot → ℕ
counted spots = sum_by (λ s. if is_counted s then 1 else 0) spots

-- how many of the spots that were visited have counted visits
abbrev pub counted_visits : List Spot → List Bool → ℕ
counted_visits [] visited = 0
counted_visits (s ∷ spots) [] = 0
counted_visits (s ∷ spots) (v ∷ visited) = (if is_counted s && v then 1 else 0) + counted_visits spots visited

-- each visit that was counted is a tick
pub record CountsVisits {L : Type 0} (noted : L → L) (spots : List Spot) (visited visited' : List Bool) (old new : Steps L) : Type 0 where
  pub taken : ℕ
  pub more : counted_visits spots visited + taken ≡ counted_visits spots visited'
  pub ticked : IsTicked noted taken old new

-- each stops after a place
abbrev pub AllLater : List ℕ → ℕ → List Stop → Type 0
AllLater text at stops = AllByRecursion (λ (p : Stop). (at < p.1.run.at) × (p.1.run.at ≤ length text)) stops

-- each stops at a place, or after it
abbrev pub AllFrom : List ℕ → ℕ → List Stop → Type 0
AllFrom text at stops = AllByRecursion (λ (p : Stop). (at ≤ p.1.run.at) × (p.1.run.at ≤ length text)) stops

-- the run of the best match so far, if there is one
abbrev pub best_in : Best → Option Run
best_in best = option_map (λ at. record { at = at; groups = best.groups.items; seen = [] }) best.end

-- the run of a trail, if it is a match
abbrev pub match_of : Bool → Trail → Option Run
match_of false trail = None
match_of true trail = Some (way_of trail).run

module _ (text : List ℕ) (spots : List Spot) where
  -- what a spot gives to the way to it
  abbrev pub stop_gives : Stop → List Run
  stop_gives p = gives text spots p.0 p.1

  -- what stops give, in order
  abbrev pub stops_give : List Stop → List Run
  stops_give stops = flat_map stop_gives stops

  -- what the program gives to a run that begins at a place, with groups up to this index
  abbrev pub begins : ℕ → ℕ → List Run
  begins groups at = gives text spots 0 (way [] (begin at groups))

  -- what the groups of the first of these runs hold
  abbrev pub groups_found : ℕ → ℕ → Option (List (Option (ℕ × ℕ)))
  groups_found groups at = option_map (λ r. r.groups) (first (begins groups at))

  -- the first run of the least of so many places, from this one on, that has a run
  abbrev pub first_from : ℕ → ℕ → ℕ → Option Run
  first_from groups zero at = None
  first_from groups (suc places) at = option_or (first_of (begins groups at)) (first_from groups places (at + 1))

  -- The answer of a search at a place: the first run of its threads, or else the best match so far, or else what begins later.
  abbrev pub answer : ℕ → ℕ → List Run → Option Run → Option Run
  answer groups at runs best = option_or (first_of runs) (option_or best (first_from groups (length text + 1 - at) at))

  -- what begins at a place, as long as nothing was found
  abbrev pub begins_unless : ℕ → ℕ → Option Run → List Run
  begins_unless groups at None = begins groups at
  begins_unless groups at (Some best) = []

  -- where every spot that was visited gives nothing from this place, whatever the groups, unless something was found
  abbrev pub Spent : ℕ → List Bool → Bool → Type 0
  Spent at visited found =
      (q : ℕ) → was_visited visited q ≡ true → (found ≡ true) ⊎ (gives text spots q (fresh at) ≡ [])

  -- What was to be followed at a place has been: what is kept gives the first run of what was kept and what was to be
  -- followed, or else it is the run of the match that was found.
  abbrev pub Followed : ℕ → List Run → Option Run → List Bool → List Stop → List Stop → Type 0
  Followed at runs None visited old new =
      Spent at visited (some_run (stops_give new)) × (first_of (stops_give new) ≡ first_of (stops_give old ++ runs))
  Followed at runs (Some m) visited old new = option_or (first_of (stops_give new)) (Some m) ≡ first_of (stops_give old ++ runs)

  -- others come in the place of one, and some are kept
  abbrev pub TurnedTo : Stop → List Bool → List Bool → List Stop → List Stop → List Stop → List Stop → Type 0
  TurnedTo p visited visited' stack stack' kept kept' =
      let s = spot_at spots p.0 in
      let seen = was_visited visited p.0 in
      (stack' ≡ comes text s seen p.1 ++ stack)
      × (kept' ≡ kept ++ keeps text s seen p.1)
      × (visited' ≡ visiting s p.0 visited)
      × ((s ≡ spot.Match) → ⊥)

  -- one turn of a thread, after which the trail is this one: it is a match, or others come in its place
  abbrev pub Turned : Turn → Stop → Trail → List Bool → List Bool → List Stop → List Stop → List Stop → Type 0
  Turned (turn.On q) p trail visited visited' stack kept kept' = TurnedTo p visited visited' stack (stops_on q trail) kept kept'
  Turned turn.Match p trail visited visited' stack kept kept' =
      (way_of trail ≡ p.1) × (spot_at spots p.0 ≡ spot.Match) × (kept' ≡ kept) × (visited' ≡ visited)
