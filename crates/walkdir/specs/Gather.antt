-- What a walk gives that leaves some entries out with what lies below them, and what is gathered of that.
use Rattle.std.specs.Prelude.{◌≡◌, ◌≢◌, IsTrue, ◌⊎◌, ◌+◌, ◌<◌, ◌≤◌, ℕ, nat_lt, Bool, true, false, not, List, [], ◌∷◌, ◌++◌, filter, map, Option, Some, None, Result, Ok, Err, IfErr, IsErrOf, OnOk, if◌then◌else◌}
use Rattle.sd_io.specs.Count.{HasRisen}
use Rattle.sd_io.specs.Disk.{DiskState, SameTree}
use Rattle.sd_io.specs.Files.{LeadsNowhere}
use Rattle.sd_io.specs.Tree.{Tree}
use Rattle.walk_rest.specs.declared.entry.DirEntry.{DirEntry}
use Rattle.walk_rest.specs.declared.error.Error.{Error}
use Rattle.walk_rest.specs.declared.error.Error.TheVariants as error
use Rattle.walk_rest.specs.Plan.{Comparison, Item, Plan, done, past, into, items_of, is_directory}
use Rattle.walk_rest.specs.Rest.{Part, Rest, HasNoFaults}
use Rattle.walk_steps.specs.declared.inside.Inside.{Inside}
use Rattle.walk_steps.specs.Causes.{CountsFaults, faults_told}
use Rattle.walk_steps.specs.Inside.{HasRest, levels_of}
use Rattle.walk_steps.specs.Listed.{GivesAtOnce, IsToListOnTop, below_one, waits_in}
use Rattle.walk_steps.specs.Sound.{SameOthers, StaysWithin, open_limit}
use Rattle.walk_steps.specs.Steps.{ByEachRest}
use Rattle.walkdir.specs.Collect.{entry_item, below_root, IsNoLoop}

-- ---- plain walks

-- an item that isn't entered: an entry of no directory
abbrev pub IsPastItem : Option Item → Type 0
IsPastItem item = (entry : DirEntry) × (item ≡ Some (Ok entry)) × (is_directory entry.kind ≡ false)

-- the item of a directory that is entered
abbrev pub IsIntoItem : Option Item → Type 0
IsIntoItem item = (entry : DirEntry) × (item ≡ Some (Ok entry)) × (is_directory entry.kind ≡ true)

-- Each entry is an item, each directory is entered, and comes before its contents alone.
abbrev pub IsPlain : Plan → Type 0
IsPlain done = Unit {0}
IsPlain (past path item plan) = IsPastItem item × IsPlain plan
IsPlain (into folder before contents after plan) = IsIntoItem before × (after ≡ None) × IsPlain contents × IsPlain plan

abbrev pub IsPlainRest : Rest → Type 0
IsPlainRest [] = Unit {0}
IsPlainRest (part ∷ parts) = ((part.first ≡ None) × IsPlain part.left) × IsPlainRest parts

-- how many entries a directory has by its plan
abbrev pub width_of : Plan → ℕ
width_of done = 0
width_of (past path item plan) = 1 + width_of plan
width_of (into folder before contents after plan) = 1 + width_of plan

-- ---- what is given

-- by a test of the entries that are left out
module _ (out : DirEntry → Bool) where
  abbrev pub is_out : Item → Bool
  is_out (Ok entry) = out entry
  is_out (Err failed) = false

  -- what lies below an item, unless that is left out
  abbrev pub unless_out : {X : Type 0} → X → Option Item → X → X
  unless_out nothing None below = below
  unless_out nothing (Some item) below = if is_out item then nothing else below

  -- the items that are given where each directory that is left out is left unread
  abbrev pub given_in : Plan → List Item
  given_in done = []
  given_in (past path item plan) = items_of item ++ given_in plan
  given_in (into folder before contents after plan) = items_of before ++ (unless_out [] before (given_in contents) ++ (items_of after ++ given_in plan))

  abbrev pub given_of : Part → List Item
  given_of part = items_of part.first ++ given_in part.left

  abbrev pub given_rest : Rest → List Item
  given_rest [] = []
  given_rest (part ∷ parts) = given_rest parts ++ given_of part

  -- those that are gathered: they aren't left out
  abbrev pub gathered_of : List Item → List Item
  gathered_of items = filter (λ item. not (is_out item)) items

  -- how many entries are listed meanwhile: those of each directory that is entered and not left out
  abbrev pub to_list_in : Plan → ℕ
  to_list_in done = 0
  to_list_in (past path item plan) = to_list_in plan
  to_list_in (into folder before contents after plan) = unless_out 0 before (width_of contents + to_list_in contents) + to_list_in plan

  abbrev pub to_list_rest : Rest → ℕ
  to_list_rest [] = 0
  to_list_rest (part ∷ parts) = to_list_in part.left + to_list_rest parts

-- how many items lie below the root
abbrev pub below_items : List Item → ℕ
below_items [] = 0
below_items (Ok entry ∷ items) = (if nat_lt 0 entry.depth then 1 else 0) + below_items items
below_items (Err failed ∷ items) = below_items items

-- ---- what is gathered

-- What the entries of these items make of a gatherer in turn, by what one makes of it.
abbrev pub Gathered : {G : Type 0} → (G → DirEntry → G → Type 0) → G → List Item → G → Type 0
Gathered gathers old [] new = new ≡ old
Gathered {G} gathers old (Ok entry ∷ items) new = (mid : G) × gathers old entry mid × Gathered gathers mid items new
Gathered gathers old (Err failed ∷ items) new = Gathered gathers old items new

-- ---- steps

-- the first list is what is left of the second when some elements are gone
abbrev pub IsPart : {X : Type 0} → List X → List X → Type 0
IsPart xs [] = xs ≡ []
IsPart {X} xs (y ∷ ys) = IsPart xs ys ⊎ ((rest : List X) × (xs ≡ y ∷ rest) × IsPart rest ys)

-- An entry was given, and this is left: where nothing failed, all that was to be given after it.
pub record GivesEntry (out : DirEntry → Bool) (entry : DirEntry) (old new : Rest) : Type 0 where
  pub plain : IsPlainRest new
  pub part : IsPart (Ok entry ∷ given_rest out new) (given_rest out old)
  pub back : HasNoFaults new → HasNoFaults old × (given_rest out old ≡ Ok entry ∷ given_rest out new)

-- so many entries are listed as the topmost level is read, and with them all that is still to be listed is this rest's
pub record IsToListNext (out : DirEntry → Bool) {S : Type 0} (tree : Tree) (inside : Inside S) (old new : Rest) : Type 0 where
  pub count : ℕ
  pub on_top : IsToListOnTop tree inside.options.max_depth inside.top count
  pub ahead : HasNoFaults new → to_list_rest out old ≡ count + to_list_rest out new

-- why a plain walk of a disk that tells its tree ends early: for want of memory, or by a failure
abbrev pub StopsFor : Error → Type 0
StopsFor failed = (failed ≡ error.NoMemory) ⊎ ((path : Option (List ℕ)) × (depth : ℕ) × (failed ≡ error.Disk path depth))

module _ {S : Type 0} where
  -- an entry was given, and whether it is left out: what is left of the walk
  pub record GoesOn (out : DirEntry → Bool) (sorts : Bool) (by : Comparison) (rest : Rest) (entry : DirEntry) (left_out : Bool) (new : DiskState) (now : Inside S) : Type 0 where
    pub is_out : left_out ≡ out entry
    pub left : Rest
    pub has_left : HasRest new sorts by now left
    pub gives : GivesEntry out entry rest left
    pub lists : IsToListNext out new.tree now rest left

  -- what is left of a walk after its next entry, or its end
  abbrev pub GoesTo : (DirEntry → Bool) → Bool → Comparison → Rest → Result (Option (DirEntry × Bool)) Error → DiskState → Inside S → Type 0
  GoesTo out sorts by rest (Ok (Some given)) new now = GoesOn out sorts by rest given.0 given.1 new now
  GoesTo out sorts by rest (Ok None) new now = HasNoFaults rest × (given_rest out rest ≡ []) × (to_list_rest out rest ≡ 0)
  GoesTo out sorts by rest (Err failed) new now = StopsFor failed

-- Why not all were gathered of a plain walk of a disk that tells its tree: the walk ended early, or at the cap, or the path of an entry that it gave
-- leads nowhere.
abbrev pub WhyNotGathered : (DirEntry → Bool) → DiskState → Rest → ℕ → Error → Type 0
WhyNotGathered out old rest cap failed =
    StopsFor failed
    ⊎ (((failed ≡ error.TooMany) × ((entries : List DirEntry) × IsPart (map entry_item entries) (given_rest out rest) × (below_root entries ≡ cap)))
    ⊎ ((entry : DirEntry) × IsPart (entry_item entry ∷ []) (given_rest out rest) × LeadsNowhere old entry.path entry.followed))

-- all entries were gathered that are given and not left out, and fewer than so many were given below the root
pub record GathersAll {G : Type 0} (out : DirEntry → Bool) (gathers : G → DirEntry → G → Type 0) (rest : Rest) (cap : ℕ) (old new : G) : Type 0 where
  pub faultless : HasNoFaults rest
  pub all : Gathered gathers old (gathered_of out (given_rest out rest)) new
  pub few : below_items (given_rest out rest) < cap

-- ---- counts

-- how many counted faults the answer tells where the next entry was asked for
abbrev pub told_by : Bool → Result (Option (DirEntry × Bool)) Error → ℕ
told_by tells (Ok given) = 0
told_by tells (Err failed) = faults_told tells (Some (Err failed))

-- how many entries below the root it gives
abbrev pub below_by : Result (Option (DirEntry × Bool)) Error → ℕ
below_by (Ok None) = 0
below_by (Ok (Some given)) = below_one given.0
below_by (Err failed) = 0

-- its error isn't that of a cap, nor a loop where links aren't followed
abbrev pub IsNextError : Bool → Error → Type 0
IsNextError follows failed = (failed ≢ error.TooMany) × (follows ≡ false → IsNoLoop failed)

module _ {S : Type 0} where
  -- on a disk that tells its tree, a plain rest is left of a walk over it, by a comparison that is the order's
  abbrev pub FitsPlain : Bool → (S → Comparison → Type 0) → DiskState → Bool → Inside S → Type 0
  FitsPlain tells compares_by state sorts inside =
      IsTrue tells → (by : Comparison) × (rest : Rest) × compares_by inside.order by × HasRest state sorts by inside rest × IsPlainRest rest

  -- On a disk that tells its tree, by the order's comparison: a walk that sorts and gives each entry as it comes has so many entries to list as its
  -- topmost level is read.
  abbrev pub ListsWhole : Bool → (S → Comparison → Type 0) → DiskState → Bool → Inside S → ℕ → Type 0
  ListsWhole tells compares_by state sorts inside count =
      IsTrue tells × IsTrue sorts × ((by : Comparison) × compares_by inside.order by) × GivesAtOnce inside.options × IsToListOnTop state.tree inside.options.max_depth inside.top count

-- ---- a whole walk

module _ {S G : Type 0} (tells : Bool) (sorts : S → Bool) (compares_by : S → Comparison → Type 0) (out : DirEntry → Bool) (gathers : Bool → Tree → G → DirEntry → G → Type 0) where
  -- What gathering the entries of a walk gives that aren't left out, and what it leaves.
  pub record GathersWalk (old : DiskState) (before : Inside S) (cap : ℕ) (result : Result (Unit {0}) Error) (new : DiskState) (first last : G) : Type 0 where
    -- all entries that are given and not left out, on a plain walk of a disk that tells its tree
    pub all : ByEachRest tells compares_by old (sorts before.order) before (λ by rest. IsPlainRest rest → OnOk result (GathersAll out (gathers tells old.tree) rest cap first last))
    -- some entries, on any disk
    pub some : OnOk result ((entries : List DirEntry) × Gathered (gathers tells old.tree) first (map entry_item entries) last)
    -- what is left out was left unread
    pub listed : ByEachRest tells compares_by old (sorts before.order) before (λ by rest. IsPlainRest rest → (count : ℕ)
        → ListsWhole tells compares_by old (sorts before.order) before count → (HasRisen old.faults new.faults → ⊥)
        → OnOk result (new.listed ≡ old.listed + (count + to_list_rest out rest)))
    -- why it failed, there
    pub failed : ByEachRest tells compares_by old (sorts before.order) before (λ by rest. IsPlainRest rest → IfErr result (WhyNotGathered out old rest cap))
    -- at the cap, so many entries were listed, but for those that waited
    pub capped : IsErrOf result error.TooMany → cap + old.listed ≤ waits_in (levels_of before) + new.listed
    pub unlooped : before.options.follow_links ≡ false → IfErr result IsNoLoop
    pub counted : FitsPlain tells compares_by old (sorts before.order) before
        → IfErr result (λ (failed : Error). CountsFaults (faults_told tells (Some (Err failed))) old (levels_of before) new [])
    -- every list that the walk held is closed, and those of others stay
    pub others : SameOthers old (levels_of before) new []
    pub closed : StaysWithin (open_limit before.options) old (levels_of before) new []
    pub tree : SameTree old new
    pub faults : old.faults ≤ new.faults
    -- the count of listed entries never falls
    pub later : old.listed ≤ new.listed
