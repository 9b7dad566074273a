-- Walks of the examples.
use Rattle.std.specs.Prelude.{◌≡◌, Bool, false, Option}
use Rattle.walk_rest.specs.Plan.{Item}
use Rattle.walk_rest.specs.Rest.{IsStep, Rest, Skips}

-- whether a directory was entered just now, and what is left of the walk
abbrev pub Course : Type 0
Course = Bool × Rest

abbrev pub has_entered : Course → Bool
has_entered course = course.0

-- a step without cuts
abbrev pub Gives : Course → Option Item → Course → Type 0
Gives old answer new = IsStep 0 old.1 answer new.1

abbrev pub SkipsDirectory : Course → Course → Type 0
SkipsDirectory old new = (new.0 ≡ false) × Skips old.1 new.1
