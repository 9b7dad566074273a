-- The search of a block of places, in which a spot is tried once at each place.
use Rattle.std.specs.Prelude.{◌≡◌, ℕ, ◌+◌, ◌-◌, ◌*◌, Bool, true, ◌&&◌, ◌⊎◌, nat_le, nat_lt, List, [], ◌∷◌, ◌++◌, length, Option, Some, None, if◌then◌else◌}
use Rattle.std.specs.Option.{option_or}
use Rattle.hir_tree.specs.Runs.{Run}
use Rattle.hir_program.specs.Masks.{IsDead}
use Rattle.hir_core.specs.Pass.{comes, first_of, fresh, keeps, stops_give, visiting, was_visited}
use Rattle.hir_program.specs.Program.{Way, closed, gives, spot_at, some_run}
use Rattle.hir_core.specs.Trails.{Stop, stops_on, way_of}
use Rattle.hir_core.specs.declared.closure.Turn.{Turn}
use Rattle.hir_core.specs.declared.closure.Turn.TheVariants as turn
use Rattle.hir_program.specs.declared.spot.Spot.{Spot}
use Rattle.hir_program.specs.declared.spot.Spot.TheVariants as spot
use Rattle.hir_core.specs.declared.trail.Trail.{Trail}

-- which mark is that of a spot at a place: there is a row of so many marks for each place from the first one on
abbrev pub mark_of : ℕ → ℕ → ℕ → ℕ → ℕ
mark_of count begin at q = (at - begin) * count + q

-- the spot was tried at the place
abbrev pub was_tried : ℕ → ℕ → List Bool → ℕ → ℕ → Bool
was_tried count begin marks at q = nat_le begin at && (nat_lt q count && was_visited marks (mark_of count begin at q))

-- there are as many marks, and each that was set stays so: what was tried in a block isn't tried there again
pub record KeepsMarks (old new : List Bool) : Type 0 where
  pub room : length new ≡ length old
  pub stay : (mark : ℕ) → was_visited old mark ≡ true → was_visited new mark ≡ true

module _ (text : List ℕ) (spots : List Spot) (begin : ℕ) where
  -- the marks, with that of a spot at a place, if it leaves one
  abbrev pub trying : ℕ → ℕ → List Bool → List Bool
  trying at q marks = if nat_lt q (length spots) then visiting (spot_at spots q) (mark_of (length spots) begin at q) marks else marks

  -- where every spot that was tried gives nothing from where it was tried, whatever the groups, unless something was found
  abbrev pub AreSpent : List Bool → Bool → Type 0
  AreSpent marks found =
      (at q : ℕ) → was_tried (length spots) begin marks at q ≡ true → (found ≡ true) ⊎ (gives text spots q (fresh at) ≡ [])

  -- What was to be followed in a block has been: what is kept gives the first run of what was kept and what was to be followed, or
  -- else it is the run of the match that was found.
  abbrev pub IsFollowed : List Run → Option Run → List Bool → List Stop → List Stop → Type 0
  IsFollowed runs None marks old new =
      AreSpent marks (some_run (stops_give text spots new)) × (first_of (stops_give text spots new) ≡ first_of (stops_give text spots old ++ runs))
  IsFollowed runs (Some m) marks old new = option_or (first_of (stops_give text spots new)) (Some m) ≡ first_of (stops_give text spots old ++ runs)

  -- All are left of these stops, or all but the first, or but the second, which is at the place of the first: from that no way gives a run.
  abbrev pub AreLeft : List Stop → List Stop → Type 0
  AreLeft all left =
      (left ≡ all)
      ⊎ (((p : Stop) × (all ≡ p ∷ left) × IsDead text spots p.1.run.at p.0)
      ⊎ ((p : Stop) × (q : Stop) × (rest : List Stop) × (all ≡ p ∷ q ∷ rest) × (left ≡ p ∷ rest) × (q.1.run.at ≡ p.1.run.at)
      × IsDead text spots q.1.run.at q.0))

  -- others come in the place of one, at its place or after bytes from there, but for one of two from which no way gives a run
  abbrev pub GivesWayTo : Stop → List Bool → List Bool → List Stop → List Stop → Type 0
  GivesWayTo p marks marks' stack stack' =
      let s = spot_at spots p.0 in
      let tried = was_visited marks (mark_of (length spots) begin p.1.run.at p.0) in
      AreLeft ((comes text s tried p.1 ++ keeps text s tried p.1) ++ stack) stack'
      × (marks' ≡ trying p.1.run.at p.0 marks)
      × ((s ≡ spot.Match) → ⊥)

  -- A match ends at the stop, and this is its way: at once, or with the group ended that ends there.
  abbrev pub ComesToMatch : Stop → Way → Type 0
  ComesToMatch p w =
      ((w ≡ p.1) × (spot_at spots p.0 ≡ spot.Match))
      ⊎ ((i : ℕ) × (f : ℕ) × (spot_at spots p.0 ≡ spot.Close i f) × (spot_at spots f ≡ spot.Match) × (w ≡ closed i p.1))

  -- one turn of a thread, after which the trail is this one: it comes to a match, or others come in its place
  abbrev pub TurnedAt : Turn → Stop → Trail → List Bool → List Bool → List Stop → Type 0
  TurnedAt (turn.On q) p trail marks marks' stack = GivesWayTo p marks marks' stack (stops_on q trail)
  TurnedAt turn.Match p trail marks marks' stack = ComesToMatch p (way_of trail) × (marks' ≡ marks)
