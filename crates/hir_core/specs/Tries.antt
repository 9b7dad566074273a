-- The spots that are tried in a block of places, each once at each place.
use Rattle.std.specs.Prelude.{ℕ, zero, suc, ◌-◌, Bool, List, [], ◌++◌}
use Rattle.sd_base.specs.declared.steps.Steps.{Steps}
use Rattle.hir_core.specs.Pass.{CountsVisits}
use Rattle.hir_program.specs.declared.spot.Spot.{Spot}

-- the spots of so many places, place by place, as they are marked in a block
abbrev pub spots_over : ℕ → List Spot → List Spot
spots_over zero spots = []
spots_over (suc places) spots = spots ++ spots_over places spots

-- each visit that was counted in a block of the places from the first one to before the end is a tick
abbrev pub CountsTries : {L : Type 0} → (L → L) → List Spot → ℕ → ℕ → List Bool → List Bool → Steps L → Steps L → Type 0
CountsTries noted spots begin end marks marks' old new = CountsVisits noted (spots_over (end - begin) spots) marks marks' old new
