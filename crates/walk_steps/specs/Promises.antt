-- What a step of a walk promises, and a skip.
use Rattle.std.specs.Prelude.{◌≡◌, ◌≢◌, ◌⊎◌, ◌≤◌, ◌+◌, ℕ, Bool, true, false, IsTrue, Option, Some, None, Err, IfNone, []}
use Rattle.sd_io.specs.Count.{HasRisen}
use Rattle.sd_io.specs.Disk.{DiskState, SameTree}
use Rattle.walk_rest.specs.declared.error.Error.TheVariants as error
use Rattle.walk_rest.specs.Plan.{Comparison, Item}
use Rattle.walk_rest.specs.Rest.{Rest}
use Rattle.walk_steps.specs.declared.inside.Inside.{Inside}
use Rattle.walk_steps.specs.Causes.{CountsAbsent, CountsFaults, IsEnteredBy, IsLoopOf, faults_due, faults_told}
use Rattle.walk_steps.specs.Inside.{HasRest, SameWalk, chain_of, levels_of}
use Rattle.walk_steps.specs.Listed.{GivesAtOnce, GivesListed, IsToListOnTop, entered_in, gives_below, waits_in}
use Rattle.walk_steps.specs.Sound.{IsSound, SameOthers, StaysWithin, open_limit}
use Rattle.walk_steps.specs.Steps.{HasUnreadTop, SkipsTo, StepsTo}
use Rattle.walk_steps.specs.Work.{left_to_do}

module _ {S : Type 0} where
  -- ---- a step

  -- What the next item of a walk is, and what it leaves.
  pub record GivesNext (tells sorts : Bool) (ComparesBy : Comparison → Type 0) (old : DiskState) (before : Inside S) (answer : Option Item)
      (new : DiskState) (now : Inside S) : Type 0 where
    -- where the disk tells its tree: one step, or want of memory
    pub step : IsTrue tells → (by : Comparison) (rest : Rest) → ComparesBy by → HasRest old sorts by before rest
        → (answer ≡ Some (Err error.NoMemory)) ⊎ StepsTo old sorts by rest answer new now
    -- after its end there is none
    pub over : levels_of before ≡ [] → answer ≡ None
    -- at its end, and for want of memory, it holds no list
    pub ended : IfNone answer (levels_of now ≡ [])
    pub gave_up : answer ≡ Some (Err error.NoMemory) → levels_of now ≡ []
    pub sound : IsSound new sorts now
    pub same : SameWalk before now
    -- the number that falls with each item never rises
    pub not_more : left_to_do new now ≤ left_to_do old before
    pub within : StaysWithin (open_limit before.options) old (levels_of before) new (levels_of now)
    -- lists that aren't the walk's stay as they are
    pub others : SameOthers old (levels_of before) new (levels_of now)
    pub tree : SameTree old new
    pub faults : old.faults ≤ new.faults
    -- the count of listed entries never falls
    pub later : old.listed ≤ new.listed
    -- faults that were told or came to be due, of a walk whose rest is known where its disk tells its tree, were counted
    pub counted : (IsTrue tells → (by : Comparison) × (rest : Rest) × ComparesBy by × HasRest old sorts by before rest)
        → CountsFaults (faults_told tells answer) old (levels_of before) new (levels_of now)
    pub absent : CountsAbsent tells old answer new
    pub looped : IsLoopOf now.options.follow_links (chain_of now) answer
    -- `TooMany` is no item
    pub uncapped : answer ≢ Some (Err error.TooMany)
    -- a directory that lies unread on top was entered by this step
    pub entered : IsEnteredBy answer now.top
    -- each entry below the root was listed before it is given
    pub listed_each : GivesListed (gives_below answer) old (levels_of before) new (levels_of now)
    -- a walk that doesn't sort lists one entry at most, as long as no more directories are entered than lists may be open
    pub listed_once : sorts ≡ false → GivesAtOnce before.options → entered_in (levels_of before) ≤ open_limit before.options → new.listed ≤ old.listed + 1
    -- one that sorts lists the directory whole that the step before entered, and nothing else
    pub listed_whole : IsTrue tells → (by : Comparison) (count : ℕ) → ComparesBy by → sorts ≡ true → GivesAtOnce before.options
        → IsToListOnTop old.tree before.options.max_depth before.top count → (HasRisen old.faults new.faults → ⊥) → answer ≢ Some (Err error.NoMemory)
        → new.listed ≡ old.listed + count

  -- ---- a skip

  -- What a skip of the topmost directory leaves of a walk.
  pub record SkipsTop (tells sorts : Bool) (old : DiskState) (before : Inside S) (new : DiskState) (now : Inside S) : Type 0 where
    pub skipped : IsTrue tells → (by : Comparison) (rest : Rest) → HasRest old sorts by before rest → SkipsTo sorts by rest new now
    pub sound : IsSound new sorts now
    pub same : SameWalk before now
    pub within : StaysWithin 0 old (levels_of before) new (levels_of now)
    pub others : SameOthers old (levels_of before) new (levels_of now)
    pub not_more : left_to_do new now ≤ left_to_do old before
    -- what was due of that directory isn't due any more, and nothing else comes to be due
    pub waits : waits_in (levels_of now) ≤ waits_in (levels_of before)
    pub due : faults_due (levels_of now) ≤ faults_due (levels_of before)
    pub listed : new.listed ≡ old.listed
    -- where a directory lies unread on top then, nothing was taken off
    pub unread : HasUnreadTop now.top → levels_of now ≡ levels_of before
    pub tree : SameTree old new
    pub faults : new.faults ≡ old.faults
