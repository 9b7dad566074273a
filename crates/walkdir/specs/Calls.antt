-- Several calls of a walk, one after another.
use Rattle.std.specs.Prelude.{◌+◌, ◌≤◌, ℕ, Bool, List, [], ◌∷◌, Some, None}
use Rattle.sd_io.specs.Disk.{DiskState, SameLists, SameTree}
use Rattle.walk_rest.specs.Plan.{Comparison, Item}
use Rattle.walk_steps.specs.declared.inside.Inside.{Inside}
use Rattle.walk_steps.specs.Causes.{faults_told}
use Rattle.walk_steps.specs.Listed.{gives_below}
use Rattle.walk_steps.specs.Promises.{GivesNext, SkipsTop}

-- how many counted faults these items tell
abbrev pub all_told : Bool → List Item → ℕ
all_told tells [] = 0
all_told tells (item ∷ items) = faults_told tells (Some item) + all_told tells items

-- how many entries below the root these items give
abbrev pub all_below : List Item → ℕ
all_below [] = 0
all_below (item ∷ items) = gives_below (Some item) + all_below items

-- another call on the disk leaves its tree and its lists
pub record Asks (old new : DiskState) : Type 0 where
  pub tree : SameTree old new
  pub lists : SameLists old new
  pub faults : old.faults ≤ new.faults

module _ {S : Type 0} (tells : Bool) (sorts : S → Bool) (compares_by : S → Comparison → Type 0) where
  -- Calls of `next` gave these items in turn; between them there may be calls that gave none, skips, and other calls on the disk.
  pub data Calls : DiskState → Inside S → List Item → DiskState → Inside S → Type 0 where
    no_more : {state : DiskState} {inside : Inside S} → Calls state inside [] state inside
    gave : {old mid new : DiskState} {before between now : Inside S} {item : Item} {items : List Item}
        → GivesNext tells (sorts before.order) (compares_by before.order) old before (Some item) mid between → Calls mid between items new now
        → Calls old before (item ∷ items) new now
    gave_none : {old mid new : DiskState} {before between now : Inside S} {items : List Item}
        → GivesNext tells (sorts before.order) (compares_by before.order) old before None mid between → Calls mid between items new now
        → Calls old before items new now
    skipped : {old mid new : DiskState} {before between now : Inside S} {items : List Item}
        → SkipsTop tells (sorts before.order) old before mid between → Calls mid between items new now → Calls old before items new now
    asked : {old mid new : DiskState} {before now : Inside S} {items : List Item}
        → Asks old mid → Calls mid before items new now → Calls old before items new now

  -- Calls of `next` gave these items in turn, and then none; nothing else was called.
  pub data RunsOut : DiskState → Inside S → List Item → DiskState → Inside S → Type 0 where
    ended : {old new : DiskState} {before now : Inside S}
        → GivesNext tells (sorts before.order) (compares_by before.order) old before None new now → RunsOut old before [] new now
    went_on : {old mid new : DiskState} {before between now : Inside S} {item : Item} {items : List Item}
        → GivesNext tells (sorts before.order) (compares_by before.order) old before (Some item) mid between → RunsOut mid between items new now
        → RunsOut old before (item ∷ items) new now
