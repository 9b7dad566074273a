-- Spots that surely end a match.
use Rattle.std.proofs.Common.{◌≡◌, ℕ, List, ap, ◌∙◌}
use Rattle.hir_program.specs.Loops.{EndsSurely}
use Rattle.hir_program.specs.Program.{spot_at, closed, some_run}
use Rattle.hir_program.specs.declared.spot.Spot.{Spot}
use Rattle.hir_program.specs.declared.spot.Spot.TheVariants as spot
use Rattle.hir_program.proofs.PlacedLemmas.{gives-at, gives-close}

-- the end of a match does
pub EndsSurely-match : (spots : List Spot) (q : ℕ) → spot_at spots q ≡ spot.Match → EndsSurely spots q
EndsSurely-match spots q k falls text w = ap some_run (gives-at text spots falls q spot.Match w k)

-- the end of a group does, where what follows it does
pub EndsSurely-close : (spots : List Spot) (q i f : ℕ) → spot_at spots q ≡ spot.Close i f → EndsSurely spots f → EndsSurely spots q
EndsSurely-close spots q i f k sure falls text w = ap some_run (gives-close text spots falls q i f w k) ∙ sure falls text (closed i w)
