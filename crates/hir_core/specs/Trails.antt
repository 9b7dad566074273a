-- The thread of a search that is followed, and the alternatives at its place.
use Rattle.std.specs.Prelude.{◌≡◌, ℕ, List, [], ◌∷◌, drop, reverse, Option, Some, None, slice_set}
use Rattle.hir_program.specs.Program.{Way, way}
use Rattle.hir_core.specs.declared.trail.Frame.{Frame}
use Rattle.hir_core.specs.declared.trail.Frame.TheVariants as frame
use Rattle.hir_core.specs.declared.trail.Trail.{Trail}

-- a spot that is still to be tried, and the way to it
abbrev pub Stop : Type 0
Stop = ℕ × Way

-- the way of the thread, which has seen nothing at its place
abbrev pub way_of : Trail → Way
way_of t = way (reverse t.starts.items) (record { at = t.at; groups = t.groups.items; seen = [] })

-- the same way, but at this place of the text
abbrev pub placed_at : ℕ → Way → Way
placed_at at w = way w.starts (record { at = at; groups = w.run.groups; seen = [] })

-- starts, with that of an inner group put back, if it had one
abbrev pub put_back : Option ℕ → List ℕ → List ℕ
put_back None starts = starts
put_back (Some start) starts = start ∷ starts

-- a way, with what the frame says undone
abbrev pub undone : Frame → Way → Way
undone (frame.Try q at) w = w
undone frame.Begun w = way (drop 1 w.starts) w.run
undone (frame.Ended i start before) w =
    way (put_back start w.starts) (record { at = w.run.at; groups = slice_set w.run.groups i before; seen = w.run.seen })

-- the alternatives that frames stand for, the next one first, on the way back from this one
abbrev pub alternatives : List Frame → Way → List Stop
alternatives [] w = []
alternatives (frame.Try q at ∷ fs) w = (q, placed_at at w) ∷ alternatives fs w
alternatives (frame.Begun ∷ fs) w = alternatives fs (undone frame.Begun w)
alternatives (frame.Ended i start before ∷ fs) w = alternatives fs (undone (frame.Ended i start before) w)

-- the alternatives of a trail, the next one first
abbrev pub stops_of : Trail → List Stop
stops_of t = alternatives (reverse t.frames.items) (way_of t)

-- the alternatives of a trail, before them the spot at which the thread goes on, if it does
abbrev pub stops_on : Option ℕ → Trail → List Stop
stops_on None t = stops_of t
stops_on (Some q) t = (q, way_of t) ∷ stops_of t

-- The search came back to the first of the old alternatives, by this way, or there was none.
abbrev pub ComesBack : Option ℕ → List Stop → Way → List Stop → Type 0
ComesBack None old w new = old ≡ []
ComesBack (Some q) old w new = old ≡ (q, w) ∷ new
