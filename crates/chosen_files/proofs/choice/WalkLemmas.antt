-- What gathering a walk under rules gives, and why it is refused.
use Rattle.std.proofs.Common.{◌≡◌, ◌+◌, ◌<◌, ◌≤◌, ◌-◌, ◌^◌, ◌⊎◌, inl, inr, ℕ, Bool, true, false, cond, List, [], ◌∷◌, ◌++◌, length, map, Option, Some, None, Result, Ok, Err, refl, sym, ◌∙◌, ap, subst, arith, length-append}
use Rattle.std.specs.Prelude.{IsTrue, IsSome, IsErrAnd, All}
use Rattle.sd_io.specs.Count.{HasRisen}
use Rattle.sd_io.specs.Disk.{DiskState, OpenList, SameLists, SameTree}
use Rattle.sd_io.specs.Files.{Resolves, path_text}
use Rattle.sd_io.specs.Paths.{reached}
use Rattle.sd_io.specs.Tree.{Tree, IsTree}
use Rattle.sd_course.specs.Course.{Course, course, DiskFailed}
use Rattle.walk_rest.specs.declared.entry.DirEntry.{DirEntry}
use Rattle.walk_rest.specs.declared.error.Error.{Error}
use Rattle.walk_rest.specs.declared.error.Error.TheVariants as error
use Rattle.walk_rest.specs.declared.error.Error.TheVariants.{Disk, Absent, Loop, NoMemory, TooMany}
use Rattle.walk_rest.specs.declared.level.Level.{Level}
use Rattle.walk_rest.specs.Listing.{Beginning, ends, begins, IsBegun, IsRootPlan, beginning, first_options, manner_of}
use Rattle.walk_rest.specs.Names.{by_file_name}
use Rattle.walk_rest.specs.declared.options.Options.{Options}
use Rattle.walk_rest.specs.Plan.{Comparison, Item, Plan, done, past, into, items_of}
use Rattle.walk_rest.specs.Rest.{start}
use Rattle.walk_rest.proofs.ExistenceLemmas.{root_has_plan}
use Rattle.walk_steps.specs.declared.inside.Inside.{Inside}
use Rattle.walk_steps.specs.Inside.{HasRest}
use Rattle.walk_steps.specs.Causes.{CountsFaults, faults_due, faults_told}
use Rattle.walkdir.specs.Collect.{IsNoLoop, entry_item}
use Rattle.sd_ignore.specs.declared.rule.Rule.{Rule}
use Rattle.chosen_files.specs.declared.choice.Choice.{Choice}
use Rattle.chosen_files.specs.declared.fault.ChoiceFault.{ChoiceFault}
use Rattle.chosen_files.specs.declared.fault.ChoiceFault.TheVariants as fault
use Rattle.chosen_files.specs.declared.pick.Picking.{Picking}
use Rattle.chosen_files.specs.Choice.{ChoiceFails, Chooses, KeepFails, KeepsLists, WalkFails, fault_of}
use Rattle.chosen_files.specs.Chosen.{IsPathBelow}
use Rattle.chosen_files.specs.Picking.{PicksOn}
use Rattle.chosen_files.specs.Picks.{IsPlainWalk, Picks}
use Rattle.chosen_files.proofs.pick.PickedLemmas.{picks_all, risen_later, walk_later}
use Rattle.chosen_files.proofs.laws.PlaceLemmas.{all_from_in}
use Rattle.chosen_files.proofs.choice.BeginLemmas.{IsTopPlan, all_lead, walked_has}
use Rattle.chosen_files.specs.LeftOut.{leaves_out}
use Rattle.chosen_files.specs.Kept.{ListsKept}
use Rattle.walkdir.specs.Gather.{Gathered, GathersAll, IsPart, IsPlain, IsPlainRest, StopsFor, WhyNotGathered, below_items, gathered_of, given_in, is_out, to_list_in, to_list_rest, unless_out, width_of}
use Rattle.walkdir.proofs.NextLemmas.{plan_width}
use Rattle.chosen_files.specs.Seen.{IsSeen, HasFewerSeen, HasManySeen, ListsOnlySeen}
use Rattle.chosen_files.specs.Walked.{IsPlanAt, ListsAllSeen, WalksSeen}
use Rattle.chosen_files.proofs.choice.ListLemmas.{fewer_seen, many_seen, one_more_given, one_more_listed, part_at, seen_places}
use Rattle.chosen_files.proofs.laws.KeptLemmas.{fewer_seen_not_many, many_below}
use Rattle.chosen_files.proofs.laws.ReachedLemmas.{reached_no_link}
use Rattle.chosen_files.proofs.laws.SeenLemmas.{root_plain}
use Rattle.chosen_files.proofs.laws.WalkedLemmas.{all_seen, gives_seen, picked_kept}

-- on a plain plan each entry is given: those of the directory, and those that are listed below it
given_long : (out : DirEntry → Bool) (plan : Plan) → IsPlain plan → length (given_in out plan) ≡ width_of plan + to_list_in out plan
given_long out done plain = refl
given_long out (past path item plan) plain =
    let is = plain.0.1 in
    let one = ap (λ (i : Option Item). length (items_of i)) is in
    let all = length-append (items_of item) (given_in out plan) in
    let more = given_long out plan plain.1 in
    omega (arith, one, all, more)
given_long out (into folder before contents after plan) plain =
    let entry = plain.0.0 in
    let is = plain.0.1 in
    let none = plain.1 in
    let one = ap (λ (i : Option Item). length (items_of i)) is in
    let nothing = ap (λ (i : Option Item). length (items_of i)) none in
    let inner = given_long out contents plain.2 in
    let more = given_long out plan plain.3 in
    let first = length-append (items_of before) (unless_out out [] before (given_in out contents) ++ (items_of after ++ given_in out plan)) in
    let second = length-append (unless_out out [] before (given_in out contents)) (items_of after ++ given_in out plan) in
    let third = length-append (items_of after) (given_in out plan) in
    let below = behind before inner in
    omega (arith, one, nothing, more, first, second, third, below)
  where
    behind : (item : Option Item) → length (given_in out contents) ≡ width_of contents + to_list_in out contents
        → length (unless_out out [] item (given_in out contents)) ≡ unless_out out 0 item (width_of contents + to_list_in out contents)
    behind None e = e
    behind (Some item) e = by (is_out out item)
      where
        by : (b : Bool) → length (cond b [] (given_in out contents)) ≡ cond b 0 (width_of contents + to_list_in out contents)
        by true = refl
        by false = e

-- the root's plan has one entry
root_width : (tree : Tree) (top : List ℕ) (plan : Plan) → IsTopPlan tree top plan → width_of plan ≡ 1
root_width tree top plan planned = at (beginning tree first_options top) planned
  where
    at : (b : Beginning) → IsBegun tree (manner_of tree first_options true by_file_name top) top b plan → width_of plan ≡ 1
    at (ends failed) h = ap width_of h
    at (begins entry) h = plan_width tree (manner_of tree first_options true by_file_name top) [] (entry ∷ []) plan h

goes_plainly : IsPlainWalk first_options
goes_plainly = record { from_root = refl; contents_last = refl; no_links = refl; all_devices = refl }

module _ (state : DiskState) (root top : List ℕ) (rules : List Rule) (cap : ℕ) (plan : Plan) (is : IsTree state.tree) (resolves : Resolves state root top) (planned : IsTopPlan state.tree top plan) where
  at_place : IsPlanAt state.tree first_options resolves.place plan
  at_place = subst (λ (p : List ℕ). IsRootPlan state.tree (manner_of state.tree first_options true by_file_name p) p plan) resolves.text_is planned

  -- the walk is plain
  pub plain_start : IsPlainRest (start plan)
  plain_start =
      let at = reached_no_link state.tree root resolves.place is resolves.leads.place_reached in
      ((refl, root_plain state.tree resolves.place first_options at.node plan is goes_plainly at.stands at.no_link at_place), tt)

  given_is : given_in (leaves_out rules top) plan ≡ given_in (leaves_out rules (path_text resolves.place)) plan
  given_is = ap (λ (p : List ℕ). given_in (leaves_out rules p) plan) resolves.text_is

  -- what it gives, where that is less than so much below the top
  walks_seen : below_items (given_in (leaves_out rules top) plan) < cap → cap ≤ 2 ^ 64 - 1
      → WalksSeen state.tree first_options root resolves.place rules (given_in (leaves_out rules (path_text resolves.place)) plan)
  walks_seen below fit =
      let seen = gives_seen state.tree first_options root resolves.place rules plan is goes_plainly resolves.leads.place_reached at_place in
      let bound = one_more_given state.tree resolves.place rules seen.places (given_in (leaves_out rules (path_text resolves.place)) plan) seen.entries
      (all_from_in (λ q. (q ≡ resolves.place) ⊎ IsSeen state.tree resolves.place rules q) seen.places seen.sound) seen.in_order in
      let few = subst (λ (xs : List Item). below_items xs < cap) given_is below in
      record {
        is_plain = goes_plainly;
        leads = resolves.leads.place_reached;
        plan = plan;
        planned = at_place;
        same = refl;
        few = omega (arith, bound, few, fit);
      }

  lists_seen : below_items (given_in (leaves_out rules top) plan) < cap → cap ≤ 2 ^ 64 - 1 → ListsAllSeen state.tree resolves.place rules (given_in (leaves_out rules (path_text resolves.place)) plan)
  lists_seen below fit = all_seen state.tree first_options root resolves.place rules (given_in (leaves_out rules (path_text resolves.place)) plan) is (walks_seen below fit)

  pub few_seen : below_items (given_in (leaves_out rules top) plan) < cap → cap ≤ 2 ^ 64 - 1 → HasFewerSeen cap state.tree root rules
  few_seen below fit =
      fewer_seen state.tree resolves.place rules cap root (given_in (leaves_out rules (path_text resolves.place)) plan) resolves.leads.place_reached (lists_seen below fit) (subst (λ (xs : List Item). below_items xs < cap) given_is below)

  pub kept_of_picks : (globs : List (List ℕ)) (paths : List (List ℕ)) → below_items (given_in (leaves_out rules top) plan) < cap → cap ≤ 2 ^ 64 - 1
      → Picks state.tree root top globs (gathered_of (leaves_out rules top) (given_in (leaves_out rules top) plan)) paths → ListsKept state.tree root globs rules paths
  kept_of_picks globs paths below fit picks =
      picked_kept state.tree first_options root resolves.place globs rules (given_in (leaves_out rules (path_text resolves.place)) plan) paths is (walks_seen below fit)
      (subst (λ (p : List ℕ). Picks state.tree root p globs (gathered_of (leaves_out rules p) (given_in (leaves_out rules p) plan)) paths) resolves.text_is picks)

  -- so many entries are listed as are seen
  pub only_seen : (before after : ℕ) → below_items (given_in (leaves_out rules top) plan) < cap → cap ≤ 2 ^ 64 - 1 → after ≡ before + to_list_in (leaves_out rules top) plan
      → ListsOnlySeen state.tree root rules before after
  only_seen before after below fit listed =
      let items = given_in (leaves_out rules (path_text resolves.place)) plan in
      let lists = lists_seen below fit in
      let seen = seen_places state.tree resolves.place rules root items resolves.leads.place_reached lists in
      let long = seen.2 in
      let whole = one_more_listed state.tree resolves.place rules items lists in
      let wide = given_long (leaves_out rules top) plan plain_start.0.1 in
      let same = ap length given_is in
      let one = root_width state.tree top plan planned in
      (seen.0, seen.1, omega (arith, listed, long, whole, wide, same, one))

-- why not all, on a disk that tells its tree
abbrev pub WhyTold : List Rule → ℕ → Tree → List ℕ → Error → Type 0
WhyTold rules cap tree root failed = StopsFor failed ⊎ ((failed ≡ error.TooMany) × HasManySeen cap tree root rules)

pub why_told : (state : DiskState) (root top : List ℕ) (rules : List Rule) (cap : ℕ) (plan : Plan) (failed : Error) → IsTree state.tree → Resolves state root top → IsTopPlan state.tree top plan
    → WhyNotGathered (leaves_out rules top) state (start plan) cap failed → WhyTold rules cap state.tree root failed
why_told state root top rules cap plan failed is resolves planned (inl stops) = inl stops
why_told state root top rules cap plan failed is resolves planned (inr (inl (e, (entries, part, many)))) =
    let seen = gives_seen state.tree first_options root resolves.place rules plan is goes_plainly resolves.leads.place_reached (at_place state root top rules cap plan is resolves planned) in
    inr (
      e,
      many_seen state.tree resolves.place rules cap root seen.places (given_in (leaves_out rules (path_text resolves.place)) plan) entries resolves.leads.place_reached seen.entries seen.sound seen.in_order
          (subst (λ (xs : List Item). IsPart (map entry_item entries) xs) (given_is state root top rules cap plan is resolves planned) part) many,
    )
-- the path of an entry that was given leads somewhere
why_told state root top rules cap plan failed is resolves planned (inr (inr (entry, part, nowhere))) =
    let seen = gives_seen state.tree first_options root resolves.place rules plan is goes_plainly resolves.leads.place_reached (at_place state root top rules cap plan is resolves planned) in
    let given = given_in (leaves_out rules (path_text resolves.place)) plan in
    let p = part_at state.tree resolves.place rules seen.places given (entry ∷ []) seen.entries
    (subst (λ (xs : List Item). IsPart (entry_item entry ∷ []) xs) (given_is state root top rules cap plan is resolves planned) part) in
    let somewhere = (all_lead state.tree resolves.place p.found (entry ∷ []) is p.at).0 in
    absurd (cc (somewhere, nowhere))

-- ---- why it is refused

risen : (old new : DiskState) (levels : List Level) → faults_due levels ≡ 0 → CountsFaults 1 old levels new [] → HasRisen old.faults new.faults
risen old new levels none (inl h) = inl (omega (arith, none, h))
risen old new levels none (inr h) = inr h

never_told : IsTrue false → ⊥
never_told e = cc e

pub refused_for : (root : List ℕ) (rules : List Rule) (cap : ℕ) (tells : Bool) (old new : DiskState) (levels : List Level) (failed : Error) → (IsTrue tells → WhyTold rules cap old.tree root failed)
    → faults_due levels ≡ 0 → CountsFaults (faults_told tells (Some (Err failed))) old levels new [] → (failed ≡ error.TooMany → old.listed + cap ≤ new.listed)
    → IsNoLoop failed → KeepFails root rules cap (course tells old new) (fault_of failed)
refused_for root rules cap tells old new levels (Disk path depth) told none counted many loops = risen old new levels none counted
refused_for root rules cap true old new levels (Absent path depth) told none counted many loops = absurd (by (told refl))
  where
    by : WhyTold rules cap old.tree root (Absent path depth) → ⊥
    by (inl (inl e)) = cc e
    by (inl (inr (p, d, e))) = cc e
    by (inr (e, m)) = cc e
refused_for root rules cap false old new levels (Absent path depth) told none counted many loops = (never_told, risen old new levels none counted)
refused_for root rules cap tells old new levels (Loop path depth ancestor ident) told none counted many loops = loops path depth ancestor ident refl
refused_for root rules cap tells old new levels NoMemory told none counted many loops = tt
refused_for root rules cap tells old new levels TooMany told none counted many loops = ((λ tells_it. by (told tells_it)), (λ no. many refl))
  where
    by : WhyTold rules cap old.tree root TooMany → HasManySeen cap old.tree root rules
    by (inl (inl e)) = absurd (cc e)
    by (inl (inr (p, d, e))) = absurd (cc e)
    by (inr (e, m)) = m

-- the same from a state that is the one at the start
pub refused_from : (root : List ℕ) (rules : List Rule) (cap : ℕ) (tells : Bool) (old begun new : DiskState) (levels : List Level) (failed : Error) → begun ≡ old → (IsTrue tells → WhyTold rules cap begun.tree root failed)
    → faults_due levels ≡ 0 → CountsFaults (faults_told tells (Some (Err failed))) begun levels new [] → (failed ≡ error.TooMany → begun.listed + cap ≤ new.listed)
    → IsNoLoop failed → KeepFails root rules cap (course tells old new) (fault_of failed)
refused_from root rules cap tells old begun new levels failed same told none counted many loops =
    subst (λ (s : DiskState). KeepFails root rules cap (course tells s new) (fault_of failed)) same (refused_for root rules cap tells begun new levels failed told none counted many loops)

-- ---- the whole choice

pub keep_later : (root : List ℕ) (rules : List Rule) (cap : ℕ) (tells : Bool) (old mid new : DiskState) (failed : ChoiceFault) → SameTree old mid → old.faults ≤ mid.faults → mid.listed ≡ old.listed
    → KeepFails root rules cap (course tells mid new) failed → KeepFails root rules cap (course tells old new) failed
keep_later root rules cap tells old mid new (fault.BadGlob place) same le listed h = h
keep_later root rules cap tells old mid new fault.RootMissing same le listed h = (
  (λ told. subst (λ (t : Tree). reached t root true ≡ None) same.tree (h.0 told)),
  (λ off. walk_later tells old mid new (Disk None 0) le (h.1 off)),
)
keep_later root rules cap tells old mid new (fault.Walk failed) same le listed h = walk_later tells old mid new failed le h
keep_later root rules cap tells old mid new fault.TooMany same le listed h = (
  (λ told. subst (λ (t : Tree). HasManySeen cap t root rules) same.tree (h.0 told)),
  (λ off. let many = h.1 off in omega (arith, many, listed)),
)
keep_later root rules cap tells old mid new fault.NoMemory same le listed h = h

-- where nothing else stands in the way, it is refused for want of memory
pub only_memory : (root : List ℕ) (rules : List Rule) (cap : ℕ) (tells : Bool) (old new : DiskState) (failed : ChoiceFault) → IsTrue tells → IsSome (reached old.tree root true)
    → HasFewerSeen cap old.tree root rules → (DiskFailed (course tells old new) → ⊥) → KeepFails root rules cap (course tells old new) failed → failed ≡ fault.NoMemory
only_memory root rules cap tells old new (fault.BadGlob place) told leads few unfailed h = absurd h
only_memory root rules cap tells old new fault.RootMissing told leads few unfailed h = let none = h.0 told in absurd (cc (leads, none))
only_memory root rules cap tells old new (fault.Walk failed) told leads few unfailed h = absurd (by failed h)
  where
    by : (e : Error) → WalkFails (course tells old new) e → ⊥
    by (Disk path depth) h = unfailed h
    by (Absent path depth) h = unfailed h.1
    by (Loop path depth ancestor ident) h = h
    by NoMemory h = h
    by TooMany h = h
only_memory root rules cap tells old new fault.TooMany told leads few unfailed h = absurd (fewer_seen_not_many cap old.tree root rules few (h.0 told))
only_memory root rules cap tells old new fault.NoMemory told leads few unfailed h = refl

-- ---- what a walk of the top begins with, on a disk that tells its tree

pub record Planned {S : Type 0} (begun : DiskState) (root top : List ℕ) (inside : Inside S) : Type 0 where
  pub is : IsTree begun.tree
  pub to : Resolves begun root top
  pub plan : Plan
  pub planned : IsTopPlan begun.tree top plan
  pub has : HasRest begun true by_file_name inside (start plan)

pub walk_planned : {S : Type 0} (old begun : DiskState) (options : Options) (from root top : List ℕ) (inside : Inside S) → begun ≡ old → IsTree begun.tree → Resolves old root top
    → ((by : Comparison) (plan : Plan) → IsRootPlan old.tree (manner_of old.tree options true by from) from plan → HasRest old true by inside (start plan))
    → options ≡ first_options → from ≡ top → Planned begun root top inside
walk_planned old begun options from root top inside same is to rest how whence =
    let plan = root_has_plan begun.tree (manner_of begun.tree first_options true by_file_name top) top is in
    record {
      is = is;
      to = subst (λ (s : DiskState). Resolves s root top) (sym same) to;
      plan = plan.0;
      planned = plan.1;
      has = walked_has old begun options from top inside plan.0 same rest how whence plan.1;
    }

module _ {S : Type 0} (begun : DiskState) (root top : List ℕ) (rules : List Rule) (cap : ℕ) (inside : Inside S) (p : Planned begun root top inside) where
  pub planned_plain : IsPlainRest (start p.plan)
  planned_plain = plain_start begun root top rules cap p.plan p.is p.to p.planned

  pub planned_told : (failed : Error) → WhyNotGathered (leaves_out rules top) begun (start p.plan) cap failed → WhyTold rules cap begun.tree root failed
  planned_told failed why = why_told begun root top rules cap p.plan failed p.is p.to p.planned why

  pub planned_few : (gathers : Picking → DirEntry → Picking → Type 0) (first last : Picking) → cap ≤ 2 ^ 64 - 1 → GathersAll (leaves_out rules top) gathers (start p.plan) cap first last → HasFewerSeen cap begun.tree root rules
  planned_few gathers first last fit all = few_seen begun root top rules cap p.plan p.is p.to p.planned all.few fit

  pub planned_kept : (globs paths : List (List ℕ)) (first last : Picking) → cap ≤ 2 ^ 64 - 1 → GathersAll (leaves_out rules top) (PicksOn true begun.tree) (start p.plan) cap first last
      → first.root.now ≡ root → first.top.now ≡ top → first.globs.now ≡ globs → first.paths.items ≡ [] → last.paths.items ≡ paths → ListsKept begun.tree root globs rules paths
  planned_kept globs paths first last fit all from on by none are =
      let items = gathered_of (leaves_out rules top) (given_in (leaves_out rules top) p.plan) in
      let picked = picks_all true begun.tree first last items all.all in
      let same : picked.more ≡ paths = sym (ap (λ (ps : List (List ℕ)). ps ++ picked.more) none) ∙ sym picked.added ∙ are in
      kept_of_picks begun root top rules cap p.plan p.is p.to p.planned globs paths all.few fit
      (subst (λ (r : List ℕ). Picks begun.tree r top globs items paths) from
      (subst (λ (t : List ℕ). Picks begun.tree first.root.now t globs items paths) on
      (subst (λ (gs : List (List ℕ)). Picks begun.tree first.root.now first.top.now gs items paths) by
      (subst (λ (ps : List (List ℕ)). Picks begun.tree first.root.now first.top.now first.globs.now items ps) same (picked.picks refl)))))

  pub planned_listed : (gathers : Picking → DirEntry → Picking → Type 0) (first last : Picking) (before after : ℕ) → cap ≤ 2 ^ 64 - 1 → GathersAll (leaves_out rules top) gathers (start p.plan) cap first last
      → after ≡ before + (0 + to_list_rest (leaves_out rules top) (start p.plan)) → ListsOnlySeen begun.tree root rules before after
  planned_listed gathers first last before after fit all listed = only_seen begun root top rules cap p.plan p.is p.to p.planned before after all.few fit (omega (arith, listed))

-- ---- how a choice ends

-- the paths that were picked lie below the root, on any disk
pub picked_below : (tells : Bool) (tree : Tree) (root : List ℕ) (entries : List DirEntry) (first last : Picking) → Gathered (PicksOn tells tree) first (map entry_item entries) last
    → first.root.now ≡ root → first.paths.items ≡ [] → All (IsPathBelow root) last.paths.items
picked_below tells tree root entries first last gathered from none =
    let picked = picks_all tells tree first last (map entry_item entries) gathered in
    subst (All (IsPathBelow root)) (sym (picked.added ∙ ap (λ (ps : List (List ℕ)). ps ++ picked.more) none))
    (subst (λ (r : List ℕ). All (IsPathBelow r) picked.more) from picked.below_root)

pub lists_same : (more : ℕ) (old new : DiskState) → SameLists old new → KeepsLists more old new
lists_same more old new same =
    let most = same.open_most in
    record { open_list = λ number opened. ap (λ (lists : ℕ → Option OpenList). lists number) same.open_list; open_count = same.open_count; open_most = omega (arith, most) }

pub lists_on : (more : ℕ) (old mid new : DiskState) → SameLists old mid → KeepsLists more mid new → KeepsLists more old new
lists_on more old mid new same kept =
    let most = kept.open_most in
    let count = same.open_count in
    let was = same.open_most in
    record {
      open_list = λ number opened. (let was : mid.open_list number ≡ old.open_list number = ap (λ (lists : ℕ → Option OpenList). lists number) same.open_list in
          kept.open_list number (opened.0, was ∙ opened.1) ∙ was);
      open_count = kept.open_count ∙ same.open_count;
      open_most = omega (arith, most, count, was);
    }

pub chooses_fails : (root : List ℕ) (globs : List (List ℕ)) (rules : List Rule) (cap : ℕ) (tells : Bool) (old new : DiskState) (result : Result Choice ChoiceFault) (failed : ChoiceFault)
    → IsErrAnd result (λ x. x ≡ failed) → KeepFails root rules cap (course tells old new) failed → SameTree old new → KeepsLists 10 old new → old.faults ≤ new.faults
    → old.listed ≤ new.listed → Chooses root globs rules cap (course tells old new) result
chooses_fails root globs rules cap tells old new (Ok choice) failed is fails tree lists faults later = absurd is
chooses_fails root globs rules cap tells old new (Err other) failed is fails tree lists faults later = record {
  kept = λ told. tt;
  below_root = tt;
  few = λ told. tt;
  listed = λ told quiet. tt;
  refused = subst (KeepFails root rules cap (course tells old new)) (sym is) fails;
  complete = λ told leads few unfailed. is ∙ only_memory root rules cap tells old new failed told leads few unfailed fails;
  tree = tree;
  lists = lists;
  faults = faults;
  later = later;
}

-- without rules it fails as a choice of all files does
pub fails_for_none : (root : List ℕ) (cap : ℕ) (d : Course DiskState) (failed : ChoiceFault) → KeepFails root [] cap d failed → ChoiceFails root cap d failed
fails_for_none root cap d (fault.BadGlob place) h = h
fails_for_none root cap d fault.RootMissing h = h
fails_for_none root cap d (fault.Walk failed) h = h
fails_for_none root cap d fault.TooMany h = ((λ told. many_below cap d.old.tree root (h.0 told)), h.1)
fails_for_none root cap d fault.NoMemory h = h

pub quiet_later : (a b c : ℕ) → a ≤ b → (HasRisen a c → ⊥) → HasRisen b c → ⊥
quiet_later a b c le quiet risen = quiet (risen_later a b c le risen)
