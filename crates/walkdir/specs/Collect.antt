-- Steps one after another, and what collecting them gives.
use Rattle.std.specs.Prelude.{◌≡◌, ◌+◌, ◌<◌, ◌≤◌, ◌⊎◌, ℕ, nat_lt, Bool, false, List, [], ◌∷◌, map, Some, Result, Ok, Err, IfOk, IfErr, IsErrOf, if◌then◌else◌}
use Rattle.std.specs.Global.{Vec}
use Rattle.sd_io.specs.Disk.{DiskState, SameTree}
use Rattle.sd_io.specs.declared.meta.Ident.{Ident}
use Rattle.walk_rest.specs.declared.entry.DirEntry.{DirEntry}
use Rattle.walk_rest.specs.declared.error.Error.{Error}
use Rattle.walk_rest.specs.declared.error.Error.TheVariants as error
use Rattle.walk_rest.specs.Plan.{Comparison, Item}
use Rattle.walk_rest.specs.Rest.{Rest, HasNoFaults, IsStep, due_in}
use Rattle.walk_steps.specs.declared.inside.Inside.{Inside}
use Rattle.walk_steps.specs.Causes.{CountsFaults, FitsTree, faults_told}
use Rattle.walk_steps.specs.Inside.{levels_of}
use Rattle.walk_steps.specs.Listed.{waits_in}
use Rattle.walk_steps.specs.Promises.{GivesNext}
use Rattle.walk_steps.specs.Sound.{SameOthers, StaysWithin, open_limit}
use Rattle.walk_steps.specs.Steps.{ByEachRest}

abbrev pub entry_item : DirEntry → Item
entry_item entry = Ok entry

-- steps with so many cuts in all gave these items
abbrev pub Gives : ℕ → Rest → List Item → Rest → Type 0
Gives cuts rest [] new = (cuts ≡ 0) × (new ≡ rest)
Gives cuts rest (item ∷ items) new = (first : ℕ) × (more : ℕ) × (mid : Rest) × (first + more ≡ cuts) × IsStep first rest (Some item) mid × Gives more mid items new

-- how many of the entries lie below the root
abbrev pub below_root : List DirEntry → ℕ
below_root [] = 0
below_root (entry ∷ entries) = (if nat_lt 0 entry.depth then 1 else 0) + below_root entries

-- these are all entries that were due, and nothing else was
pub record IsAll (rest : Rest) (entries : List DirEntry) : Type 0 where
  pub faultless : HasNoFaults rest
  pub all : due_in rest ≡ map entry_item entries

-- steps gave these entries, and the next one gave this error
pub record FirstFails (rest : Rest) (failed : Error) : Type 0 where
  pub entries : List DirEntry
  pub cuts : ℕ
  pub mid : Rest
  pub gives : Gives cuts rest (map entry_item entries) mid
  pub last : ℕ
  pub new : Rest
  pub fails : IsStep last mid (Some (Err failed)) new

-- steps gave so many entries below the root
pub record GivesAsMany (rest : Rest) (cap : ℕ) : Type 0 where
  pub entries : List DirEntry
  pub cuts : ℕ
  pub new : Rest
  pub gives : Gives cuts rest (map entry_item entries) new
  pub many : below_root entries ≡ cap

-- it doesn't tell of a link that leads back
abbrev pub IsNoLoop : Error → Type 0
IsNoLoop failed = (path : List ℕ) (depth : ℕ) (ancestor : List ℕ) (ident : Ident) → failed ≡ error.Loop path depth ancestor ident → ⊥

-- why not all entries were collected
abbrev pub WhyNotAll : Rest → ℕ → Error → Type 0
WhyNotAll rest cap failed = (failed ≡ error.NoMemory) ⊎ (FirstFails rest failed ⊎ ((failed ≡ error.TooMany) × GivesAsMany rest cap))

-- ---- on any disk

module _ {S : Type 0} (tells : Bool) (sorts : S → Bool) (compares_by : S → Comparison → Type 0) where
  -- The walk's first error: `next` gives it, by its causes, after entries alone.
  pub data IsFirstError : DiskState → Inside S → Error → Type 0 where
    at_once : {old new : DiskState} {before now : Inside S} {failed : Error}
        → GivesNext tells (sorts before.order) (compares_by before.order) old before (Some (Err failed)) new now → IsFirstError old before failed
    later : {old mid : DiskState} {before between : Inside S} {entry : DirEntry} {failed : Error}
        → GivesNext tells (sorts before.order) (compares_by before.order) old before (Some (Ok entry)) mid between
        → IsFirstError mid between failed → IsFirstError old before failed

  -- why a walk isn't collected, on any disk: for want of memory, at the cap, or by its first error
  abbrev pub WhyNotCollected : DiskState → Inside S → Error → Type 0
  WhyNotCollected old before failed = (failed ≡ error.NoMemory) ⊎ ((failed ≡ error.TooMany) ⊎ IsFirstError old before failed)

  -- What collecting a walk gives, and what it leaves.
  pub record Collects (old : DiskState) (before : Inside S) (cap : ℕ) (collected : Result (Vec DirEntry) Error) (new : DiskState) : Type 0 where
    -- all entries that were due, on a disk that tells its tree
    pub all : ByEachRest tells compares_by old (sorts before.order) before (λ by rest. IfOk collected (λ (entries : Vec DirEntry). IsAll rest entries.items))
    pub few : IfOk collected (λ (entries : Vec DirEntry). below_root entries.items < cap)
    -- at the cap, so many entries were listed, but for those that waited
    pub capped : IsErrOf collected error.TooMany → cap + old.listed ≤ waits_in (levels_of before) + new.listed
    -- why it failed: where the disk tells its tree, and on any disk
    pub failed : ByEachRest tells compares_by old (sorts before.order) before (λ by rest. IfErr collected (WhyNotAll rest cap))
    pub first_error : IfErr collected (WhyNotCollected old before)
    pub unlooped : before.options.follow_links ≡ false → IfErr collected IsNoLoop
    pub counted : FitsTree tells compares_by old (sorts before.order) before
        → IfErr collected (λ (failed : Error). CountsFaults (faults_told tells (Some (Err failed))) old (levels_of before) new [])
    -- every list that the walk held is closed, and those of others stay
    pub others : SameOthers old (levels_of before) new []
    pub closed : StaysWithin (open_limit before.options) old (levels_of before) new []
    pub tree : SameTree old new
    pub faults : old.faults ≤ new.faults
