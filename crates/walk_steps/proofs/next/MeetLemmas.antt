-- What is left of a walk once an entry was met.
use Rattle.std.proofs.Common.{◌≡◌, ◌+◌, ◌≤◌, ◌⊎◌, ℕ, Bool, true, false, cond, List, [], ◌∷◌, ◌++◌, length, map, Option, Some, None, Ok, Err, refl, sym, subst, ◌∙◌, ap, arith, inl, inr, append-nil}
use Rattle.std.specs.Prelude.{◌↔◌, ◌&&◌, nat_eq, nat_lt, option_map}
use Rattle.std.specs.declared.cmp.Ordering.{Ordering}
use Rattle.sd_io.specs.Count.{HasRisen}
use Rattle.sd_io.specs.Tree.{Node, Tree, is_directory_content}
use Rattle.sd_io.specs.Disk.{DiskState, SameLists, SameTree}
use Rattle.walk_rest.specs.declared.entry.DirEntry.{DirEntry}
use Rattle.walk_rest.specs.declared.error.Error.{Error}
use Rattle.walk_rest.specs.declared.error.Error.TheVariants as error
use Rattle.walk_rest.specs.declared.level.Folder.{Folder}
use Rattle.walk_rest.specs.declared.level.Due.{Due}
use Rattle.walk_rest.specs.declared.level.Level.{Level}
use Rattle.walk_rest.specs.declared.level.Entries.{Entries}
use Rattle.walk_rest.specs.declared.level.Entries.TheVariants.{Unread, Open, Kept}
use Rattle.walk_rest.specs.Plan.{Item, Plan, done, past, into, Manner, IsPlan, IsPast, IsInto, Seen, fails, stays, enters, seen, seen_by, seen_directory, seen_root_link, seen_unfollowed, seen_link, seen_target, followed_entry, folder_of, is_foreign, is_directory, is_link, ident_of, ancestor_with, is_shown, item_where}
use Rattle.walk_rest.specs.Listing.{manner_of, device_to}
use Rattle.walk_rest.specs.Rest.{Fault, Part, Rest, Comes, none, cut, come, IsCutTo, past_gone, into_gone, entered, IsNextGone, IsFaultIn}
use Rattle.walk_rest.specs.Level.{IsDue, AllSameReads, chain_above, with_folder, fault_of, item_of}
use Rattle.walk_rest.proofs.MoveLemmas.{cut_none, parts_snoc, entered_unread}
use Rattle.walk_steps.specs.declared.inside.Inside.{Inside}
use Rattle.walk_steps.specs.Inside.{HasRest, IsRead, SameWalk, chain_of, entries_in, entries_due, levels_of, with_top, top_levels}
use Rattle.walk_steps.specs.Sound.{AreApart, AreShallow, AreSound, AreRead, IsFresh, IsReadable, IsSound, IsTopFresh, KeepsWalk, SameOtherThan, depth_below, held_limit, open_in, open_limit, opens}
use Rattle.walk_steps.specs.Work.{left_to_do, weight_all, weight_first, weight_in, weight_root}
use Rattle.walk_steps.specs.Steps.{HasTaken, HasUnreadTop, IsNextInto, StepsTo, TurnsTo, Enters}
use Rattle.walk_steps.specs.Seen.{IsFailureAt, FailsAsSeen}
use Rattle.walk_steps.proofs.leave.SoundLemmas.{all_same_reads, clear_unread, opens_snoc, read_join, sound_kept, sound_relevel, sound_unread, weight_kept, weight_snoc}
use Rattle.walk_steps.proofs.leave.WithinLemmas.{within_fewer}
use Rattle.walk_steps.proofs.leave.OthersLemmas.{apart_relevel, apart_same, apart_unread, others_levels, others_lists, shallow_relevel, shallow_unread}
use Rattle.walk_steps.proofs.see.SightLemmas.{chain_snoc}
use Rattle.walk_steps.proofs.next.StepLemmas.{allowed_none, allowed_one, parts_later, past_not_into, rest_of}

-- ---- where an entry that is entered lies

-- what is entered has this path
abbrev pub EntersAt : List ℕ → Seen → Type 0
EntersAt path (fails failed) = Unit {0}
EntersAt path (stays entry) = Unit {0}
EntersAt path (enters entry folder) = folder.path ≡ path

pick : (path : List ℕ) (b : Bool) (x y : Seen) → EntersAt path x → EntersAt path y → EntersAt path (cond b x y)
pick path true x y h k = h
pick path false x y h k = k

directory_at : (manner : Manner) (entry : DirEntry) (node : Option Node) → EntersAt entry.path (seen_directory manner entry node)
directory_at manner entry node =
    pick entry.path (manner.options.same_file_system && nat_lt 0 entry.depth && is_foreign manner node) (stays entry) (enters entry (folder_of manner.options entry node)) tt refl

root_link_at : (manner : Manner) (entry : DirEntry) (node : Option Node) → EntersAt entry.path (seen_root_link manner entry node)
root_link_at manner entry None = tt
root_link_at manner entry (Some at) = pick entry.path (is_directory_content at.content) (enters entry (folder_of manner.options entry (Some at))) (stays entry) refl tt

unfollowed_at : (manner : Manner) (entry : DirEntry) (node : Option Node) → EntersAt entry.path (seen_unfollowed manner entry node)
unfollowed_at manner entry node =
    let root = is_link entry.kind && nat_eq entry.depth 0 && manner.options.follow_root_links in
    pick entry.path (is_directory entry.kind) (seen_directory manner entry node) (cond root (seen_root_link manner entry node) (stays entry)) (directory_at manner entry node)
    (pick entry.path root (seen_root_link manner entry node) (stays entry) (root_link_at manner entry node) tt)

target_at : (manner : Manner) (entry : DirEntry) (node : Node) (ancestor : Option Folder) → EntersAt entry.path (seen_target manner entry node ancestor)
target_at manner entry node (Some folder) = tt
target_at manner entry node None = directory_at manner (followed_entry entry node) (Some node)

link_at : (manner : Manner) (chain : List Folder) (entry : DirEntry) (node : Option Node) → EntersAt entry.path (seen_link manner chain entry node)
link_at manner chain entry None = tt
link_at manner chain entry (Some at) = pick entry.path (is_directory_content at.content) (seen_target manner entry at (ancestor_with (ident_of at) chain)) (stays (followed_entry entry at)) (target_at manner entry at (ancestor_with (ident_of at) chain)) tt

pub seen_at : (manner : Manner) (chain : List Folder) (entry : DirEntry) (node : Option Node) → EntersAt entry.path (seen_by manner chain entry node)
seen_at manner chain entry node = pick entry.path (manner.options.follow_links && is_link entry.kind) (seen_link manner chain entry node) (seen_unfollowed manner entry node) (link_at manner chain entry node) (unfollowed_at manner entry node)

pub into_at : (manner : Manner) (path : List ℕ) (s : Seen) (folder : Folder) (before after : Option Item) → EntersAt path s → IsInto manner s folder before after → folder.path ≡ path
into_at manner path (fails failed) folder before after h k = absurd k
into_at manner path (stays entry) folder before after h k = absurd k
into_at manner path (enters entry f) folder before after h k = ap (λ (x : Folder). x.path) k.0 ∙ h

-- ---- what is due of a list that was read

pub due_of_plan : (s : DiskState) (m : Manner) (root : List ℕ) (chain : List Folder) (folder : Option Folder) (e : Entries) (plan : Plan) → IsRead e → IsReadable s folder e → IsPlan s.tree m chain (entries_in s folder e) plan → IsDue s m root chain folder e plan
due_of_plan s m root chain folder Unread plan r k h = absurd r
due_of_plan s m root chain None (Open list) plan r k h = absurd k
due_of_plan s m root chain (Some f) (Open list) plan r k h = h
due_of_plan s m root chain None (Kept kept) plan r k h = h
due_of_plan s m root chain (Some f) (Kept kept) plan r k h = h

pub plan_of_due : (s : DiskState) (m : Manner) (root : List ℕ) (chain : List Folder) (folder : Option Folder) (e : Entries) (plan : Plan) → IsRead e → IsReadable s folder e → IsDue s m root chain folder e plan → IsPlan s.tree m chain (entries_in s folder e) plan
plan_of_due s m root chain folder Unread plan r k h = absurd r
plan_of_due s m root chain None (Open list) plan r k h = absurd k
plan_of_due s m root chain (Some f) (Open list) plan r k h = h
plan_of_due s m root chain None (Kept kept) plan r k h = h
plan_of_due s m root chain (Some f) (Kept kept) plan r k h = h

-- the lists are as before
pub others_same : (s now : DiskState) (e : Entries) → now.open_list ≡ s.open_list → SameOtherThan s e now
others_same s now e same = λ k apart. ap (λ (lists : ℕ → _). lists k) same

pub reads_all : (s now : DiskState) (levels : List Level) → now.open_list ≡ s.open_list → AllSameReads s now levels
reads_all s now levels same = all_same_reads s now Unread levels (clear_unread levels) (others_same s now Unread same)

-- ---- the next entry is gone

abbrev pub NextPlan : Tree → Manner → List Folder → List DirEntry → Plan → List ℕ → Type 0
NextPlan tree m chain entries plan path = (left : Plan) × IsPlan tree m chain entries left × IsNextGone plan path left × IsCutTo plan left

pub next_gone : (tree : Tree) (m : Manner) (chain : List Folder) (entry : DirEntry) (entries : List DirEntry) (plan : Plan) → IsPlan tree m chain (entry ∷ entries) plan → NextPlan tree m chain entries plan entry.path
next_gone tree m chain entry entries done h = absurd h
next_gone tree m chain entry entries (past path item plan) h = (plan, h.2, (h.0, refl), past_gone (cut_none plan))
next_gone tree m chain entry entries (into folder before contents after plan) h =
    (plan, h.2, (into_at m entry.path (seen tree m chain entry) folder before after (seen_at m chain entry _) h.0, refl), into_gone (cut_none plan))

fault_met : (folder given : Option Folder) (path : Option (List ℕ)) (entry : List ℕ) (depth : ℕ) (plan left : Plan) → given ≡ folder → ((path ≡ Some entry) ⊎ (path ≡ None)) → depth ≡ depth_below folder
    → IsNextGone plan entry left → IsCutTo plan left → IsFaultIn given (record { path = path; depth = depth }) plan left
fault_met None given path entry depth plan left e (inl p) d next c = rw (e, p, d) (inl (entry, refl, next))
fault_met None given path entry depth plan left e (inr p) d next c = rw (e, p, d) (inr (entry, refl, next))
fault_met (Some folder) given path entry depth plan left e (inl p) d next c = rw (e, p, d) (inr (inr (entry, refl, next)))
fault_met (Some folder) given path entry depth plan left e (inr p) d next c = rw (e, p, d) (inr (inl (refl, c)))

pub back_lists : (s now : DiskState) (levels : List Level) → SameLists s now → AreSound s levels → AreSound now levels
back_lists s now levels same h = sound_kept s now Unread levels h (clear_unread levels) (others_same s now Unread same.open_list)

pub first_small : (f : Option DirEntry) → weight_first f ≤ 1
first_small None = omega arith
first_small (Some e) = omega arith

fresh_opened : (e : Entries) (first : Option DirEntry) (faults : List Due) → first ≡ None → faults ≡ [] → IsFresh e first faults
fresh_opened Unread first faults empty faultless = (empty, faultless)
fresh_opened (Open list) first faults empty faultless = tt
fresh_opened (Kept kept) first faults empty faultless = tt

-- a level that was read doesn't lie unread on top
pub read_top : (level : Level) → IsRead level.entries → HasUnreadTop (Some level) → ⊥
read_top level read has = let is : level ≡ has.level = cc has.on_top in subst IsRead (ap (λ (l : Level). l.entries) is ∙ has.unread) read

module _ {S : Type 0} where
  pub came : (s now : DiskState) (sorts : Bool) (by : DirEntry → DirEntry → Ordering) (rest new : Rest) (item : Option Item) (inside : Inside S) → Comes rest item new → HasRest now sorts by inside new → s.faults ≤ now.faults
      → ((entry : DirEntry) → item ≡ Some (Ok entry) → IsNextInto rest ↔ HasUnreadTop inside.top) → TurnsTo s sorts by rest item now inside
  came s now sorts by rest new None inside c h le lies = record { cuts = 0; new = new; moves = come none c; left = h; allowed = allowed_none s.faults now.faults le }
  came s now sorts by rest new (Some item) inside c h le lies =
      record { cuts = 0; new = new; is_step = record { mid = rest; moves = none; answers = inr c }; left = h; allowed = allowed_none s.faults now.faults le; enters = lies }

  -- where the level goes back on top
  pub record PutsBack (s now : DiskState) (sorts : Bool) (by : DirEntry → DirEntry → Ordering) (inside : Inside S) (level : Level) (entry : DirEntry) (rest : Rest) : Type 0 where
    pub taken : HasTaken s sorts by inside level entry rest
    pub first : level.first ≡ None
    pub faultless : level.faults.items ≡ []
    pub read : IsRead level.entries
    pub readable : IsReadable s level.folder level.entries
    pub lists : now.open_list ≡ s.open_list
    pub tree : now.tree ≡ s.tree
    pub faults : s.faults ≤ now.faults

  taken_rest : (s now : DiskState) (sorts : Bool) (by : DirEntry → DirEntry → Ordering) (inside : Inside S) (level : Level) (entry : DirEntry) (rest : Rest) (left : Plan) (p : PutsBack s now sorts by inside level entry rest)
      → IsPlan s.tree (manner_of s.tree inside.options sorts by inside.root) (with_folder level.folder (chain_above [] inside.stack.items)) (entries_due s level) left
      → HasRest now sorts by (with_top inside level) (p.taken.below ++ record p.taken.part { left = left } ∷ [])
  taken_rest s now sorts by inside level entry rest left p h =
      let t = p.taken in
      let m = manner_of s.tree inside.options sorts by inside.root in
      let part : Part = record t.part { left = left } in
      let chain = with_folder level.folder (chain_above [] inside.stack.items) in
      let parts = parts_snoc s m inside.root [] inside.stack.items level t.below part t.lower (record {
        folder = t.folder;
        first = t.first ∙ sym (ap (option_map item_of) p.first);
        due = due_of_plan s m inside.root chain level.folder level.entries left p.read p.readable h;
        faults = t.faultless ∙ sym (ap (map fault_of) p.faultless);
      }) in
      record {
        parts = parts_later s now inside.options sorts by inside.root (inside.stack.items ++ level ∷ []) (t.below ++ part ∷ []) p.tree (reads_all s now (inside.stack.items ++ level ∷ []) p.lists) parts;
        device = λ on. inr (t.device on ∙ ap (λ tree. device_to tree inside.root) (sym p.tree));
      }

  -- an entry that isn't entered
  pub met_past : (s now : DiskState) (sorts : Bool) (by : DirEntry → DirEntry → Ordering) (inside : Inside S) (level : Level) (entry : DirEntry) (rest : Rest) (item : Option Item) (p : PutsBack s now sorts by inside level entry rest)
      → ((i : Option Item) → IsPast (manner_of s.tree inside.options sorts by inside.root) (seen s.tree (manner_of s.tree inside.options sorts by inside.root) (with_folder level.folder (chain_above [] inside.stack.items)) entry) i → i ≡ item)
      → ((f : Folder) (b a : Option Item) → IsInto (manner_of s.tree inside.options sorts by inside.root) (seen s.tree (manner_of s.tree inside.options sorts by inside.root) (with_folder level.folder (chain_above [] inside.stack.items)) entry) f b a → ⊥)
      → TurnsTo s sorts by rest item now (with_top inside level)
  met_past s now sorts by inside level entry rest item p is out = at p.taken.part.left refl p.taken.planned
    where
      m : Manner
      m = manner_of s.tree inside.options sorts by inside.root

      chain : List Folder
      chain = with_folder level.folder (chain_above [] inside.stack.items)

      at : (plan : Plan) → p.taken.part.left ≡ plan → IsPlan s.tree m chain (entry ∷ entries_due s level) plan → TurnsTo s sorts by rest item now (with_top inside level)
      at done e h = absurd h
      at (past path i plan) e h =
          let t = p.taken in
          let new : Rest = t.below ++ record t.part { left = plan } ∷ [] in
          let same : i ≡ item = is i h.1 in
          came s now sorts by rest new item (with_top inside level)
          (record { below = t.below; part = t.part; was = t.was; faultless = t.faultless; comes = rw (t.first, e, same) (refl, refl) })
          (taken_rest s now sorts by inside level entry rest plan p h.2) p.faults
          (λ other given. (λ next. absurd (past_not_into t.below t.part path i plan rest t.was e next), λ unread. absurd (read_top level p.read unread)))
      at (into folder before contents after plan) e h = absurd (out folder before after h.0)

  -- a call on it failed
  pub met_failure : (s now : DiskState) (sorts : Bool) (by : DirEntry → DirEntry → Ordering) (inside : Inside S) (level : Level) (entry : DirEntry) (rest : Rest) (failed : Error) (p : PutsBack s now sorts by inside level entry rest)
      → entry.depth ≡ depth_below level.folder → IsFailureAt entry failed → HasRisen s.faults now.faults → StepsTo s sorts by rest (Some (Err failed)) now (with_top inside level)
  met_failure s now sorts by inside level entry rest failed p depth failure risen = by_path failure
    where
      m : Manner
      m = manner_of s.tree inside.options sorts by inside.root

      chain : List Folder
      chain = with_folder level.folder (chain_above [] inside.stack.items)

      at : (path : Option (List ℕ)) → ((path ≡ Some entry.path) ⊎ (path ≡ None)) → failed ≡ error.Disk path entry.depth → NextPlan s.tree m chain (entries_due s level) p.taken.part.left entry.path
          → StepsTo s sorts by rest (Some (Err failed)) now (with_top inside level)
      at path which is n =
          let t = p.taken in
          let fault : Fault = record { path = path; depth = entry.depth } in
          let met : Part = record t.part { left = n.0; faults = t.part.faults ++ fault ∷ [] } in
          let answered : Part = record t.part { left = n.0; faults = t.part.faults ++ [] } in
          let same : answered ≡ record t.part { left = n.0 } = ap (λ faults. record t.part { left = n.0; faults = faults }) (append-nil t.part.faults) in
          record {
            cuts = 1;
            new = t.below ++ answered ∷ [];
            is_step = record {
              mid = t.below ++ met ∷ [];
              moves = cut none (record { below = t.below; part = t.part; above = []; left = n.0; fault = fault; was = t.was; met = fault_met level.folder t.part.folder path entry.path entry.depth t.part.left n.0 t.folder which depth n.2 n.3; now = refl });
              answers = inl (record { below = t.below; part = met; above = []; before = t.part.faults; fault = fault; after = []; was = refl; due = refl; given = ap (λ (f : Error). Err f) is; now = refl });
            };
            left = let P : Part → Type 0 = λ q. HasRest now sorts by (with_top inside level) (t.below ++ q ∷ []) in subst P (sym same) (taken_rest s now sorts by inside level entry rest n.0 p n.1);
            allowed = allowed_one s.faults now.faults risen;
            enters = λ other given. absurd (cc given);
          }

      by_path : IsFailureAt entry failed → StepsTo s sorts by rest (Some (Err failed)) now (with_top inside level)
      by_path (inl e) = at (Some entry.path) (inl refl) e (next_gone s.tree m chain entry (entries_due s level) p.taken.part.left p.taken.planned)
      by_path (inr e) = at None (inr refl) e (next_gone s.tree m chain entry (entries_due s level) p.taken.part.left p.taken.planned)

  -- a directory that is entered
  pub met_enters : (s now : DiskState) (sorts : Bool) (by : DirEntry → DirEntry → Ordering) (inside new : Inside S) (level : Level) (entry met : DirEntry) (folder : Folder) (given : Option DirEntry) (rest : Rest) (p : PutsBack s now sorts by inside level entry rest)
      → seen s.tree (manner_of s.tree inside.options sorts by inside.root) (with_folder level.folder (chain_above [] inside.stack.items)) entry ≡ enters met folder
      → Enters inside level met folder new given → SameWalk inside new → new.device ≡ inside.device → TurnsTo s sorts by rest (option_map item_of given) now new
  met_enters s now sorts by inside new level entry met folder given rest p is e same device = at p.taken.part.left refl p.taken.planned
    where
      m : Manner
      m = manner_of s.tree inside.options sorts by inside.root

      chain : List Folder
      chain = with_folder level.folder (chain_above [] inside.stack.items)

      at : (plan : Plan) → p.taken.part.left ≡ plan → IsPlan s.tree m chain (entry ∷ entries_due s level) plan → TurnsTo s sorts by rest (option_map item_of given) now new
      at done e h = absurd h
      at (past path i plan) left h = let P : Seen → Type 0 = λ x. IsPast m x i in absurd (subst P is h.1)
      at (into f before contents after plan) left h =
          let t = p.taken in
          let P : Seen → Type 0 = λ x. IsInto m x f before after in
          let in_it = subst P is h.0 in
          let outer : Part = record t.part { first = after; left = plan } in
          let xs = inside.stack.items in
          let raised_folder : e.raised.folder ≡ level.folder = ap (λ (l : Level). l.folder) e.raised_is in
          let raised_entries : e.raised.entries ≡ level.entries = ap (λ (l : Level). l.entries) e.raised_is in
          let raised_faults : e.raised.faults.items ≡ level.faults.items = ap (λ (l : Level). l.faults.items) e.raised_is in
          let raised_chain : with_folder e.raised.folder (chain_above [] xs) ≡ chain = ap (λ fo. with_folder fo (chain_above [] xs)) raised_folder in
          let due = due_of_plan s m inside.root chain level.folder level.entries plan p.read p.readable h.2 in
          let lower = parts_snoc s m inside.root [] xs e.raised t.below outer t.lower (record {
            folder = t.folder ∙ sym raised_folder;
            first = in_it.2 ∙ sym e.after;
            due = rw (raised_chain, raised_folder, raised_entries) due;
            faults = t.faultless ∙ sym (ap (map fault_of) (raised_faults ∙ p.faultless));
          }) in
          let on_top : chain_above [] (xs ++ e.raised ∷ []) ≡ chain = chain_snoc [] xs e.raised ∙ raised_chain in
          let Q : List Folder → Type 0 = λ c. IsPlan s.tree m (f ∷ c) h.1.0 contents in
          let parts = entered_unread s m inside.root [] (xs ++ e.raised ∷ []) (t.below ++ outer ∷ []) f e.opened contents lower (e.folder_is ∙ ap (λ x. Some x) (sym in_it.0)) e.first e.unread e.faultless
          (h.1.0, h.1.1, subst Q (sym on_top) h.1.2) in
          let levels : levels_of new ≡ (xs ++ e.raised ∷ []) ++ e.opened ∷ [] = ap (λ (o : Option Level). new.stack.items ++ top_levels o) e.top ∙ ap (λ (ys : List Level). ys ++ e.opened ∷ []) e.stack in
          let later = parts_later s now inside.options sorts by inside.root ((xs ++ e.raised ∷ []) ++ e.opened ∷ []) ((t.below ++ outer ∷ []) ++ entered f contents ∷ []) p.tree (reads_all s now _ p.lists) parts in
          let has = rest_of now sorts by inside new ((xs ++ e.raised ∷ []) ++ e.opened ∷ []) ((t.below ++ outer ∷ []) ++ entered f contents ∷ []) same levels later
          (λ on. inr (device ∙ (t.device on ∙ ap (λ tree. device_to tree inside.root) (sym p.tree)))) in
          came s now sorts by rest ((t.below ++ outer ∷ []) ++ entered f contents ∷ []) (option_map item_of given) new
          (record { below = t.below; part = t.part; was = t.was; faultless = t.faultless; comes = rw (t.first, left) (e.before ∙ sym in_it.1, refl) }) has p.faults
          (λ other is. (
            λ next. record { level = e.opened; folder = folder; on_top = e.top; folder_is = e.folder_is; unread = e.unread },
            λ unread. record { below = t.below; part = t.part; is = t.was; first = t.first; folder = f; before = before; contents = contents; after = after; plan = plan; next = left },
          ))

  -- ---- what see tells

  pub seen_here : (tree : Tree) (m : Manner) (inside : Inside S) (level : Level) (entry : DirEntry) (x : Seen) → x ≡ seen tree m (chain_of (with_top inside level)) entry → seen tree m (with_folder level.folder (chain_above [] inside.stack.items)) entry ≡ x
  seen_here tree m inside level entry x e = sym (e ∙ ap (λ chain. seen tree m chain entry) (chain_snoc [] inside.stack.items level))

  pub met_stays : (s now : DiskState) (sorts : Bool) (by : DirEntry → DirEntry → Ordering) (inside : Inside S) (level : Level) (entry other : DirEntry) (rest : Rest) (item : Option Item) → PutsBack s now sorts by inside level entry rest
      → stays other ≡ seen s.tree (manner_of s.tree inside.options sorts by inside.root) (chain_of (with_top inside level)) entry → item_where (is_shown inside.options other.depth) other ≡ item
      → TurnsTo s sorts by rest item now (with_top inside level)
  met_stays s now sorts by inside level entry other rest item p e same =
      let m = manner_of s.tree inside.options sorts by inside.root in
      let is = seen_here s.tree m inside level entry (stays other) e in
      met_past s now sorts by inside level entry rest item p
      (λ i past_it. let P : Seen → Type 0 = λ x. IsPast m x i in subst P is past_it ∙ same)
      (λ f b a into_it. let P : Seen → Type 0 = λ x. IsInto m x f b a in subst P is into_it)

  pub met_error : (s now : DiskState) (sorts : Bool) (by : DirEntry → DirEntry → Ordering) (inside : Inside S) (level : Level) (entry : DirEntry) (rest : Rest) (failed : Error) → PutsBack s now sorts by inside level entry rest
      → entry.depth ≡ depth_below level.folder → (failed ≡ error.NoMemory → ⊥)
      → FailsAsSeen s.faults now.faults entry (seen s.tree (manner_of s.tree inside.options sorts by inside.root) (chain_of (with_top inside level)) entry) failed
      → StepsTo s sorts by rest (Some (Err failed)) now (with_top inside level)
  met_error s now sorts by inside level entry rest failed p depth named (inl e) = absurd (named e)
  met_error s now sorts by inside level entry rest failed p depth named (inr (inl f)) = met_failure s now sorts by inside level entry rest failed p depth f.0 f.1
  met_error s now sorts by inside level entry rest failed p depth named (inr (inr e)) =
      let m = manner_of s.tree inside.options sorts by inside.root in
      let is = seen_here s.tree m inside level entry (fails failed) (sym e) in
      met_past s now sorts by inside level entry rest (Some (Err failed)) p
      (λ i past_it. let P : Seen → Type 0 = λ x. IsPast m x i in subst P is past_it)
      (λ f b a into_it. let P : Seen → Type 0 = λ x. IsInto m x f b a in subst P is into_it)

  -- ---- the lists, where a call left them as they were

  pub back_sound : (s now : DiskState) (sorts : Bool) (inside : Inside S) → SameLists s now → IsSound s sorts inside → IsSound now sorts inside
  back_sound s now sorts inside same h = record { lists = back_lists s now (levels_of inside) same h.lists; read = h.read; rooted = h.rooted; few = h.few; shallow = h.shallow; fresh = h.fresh }

  pub back_keeps : (s now : DiskState) (inside : Inside S) → SameLists s now → SameTree s now → s.faults ≤ now.faults → AreSound s (levels_of inside) → KeepsWalk s inside now inside
  back_keeps s now inside same tree faults h =
      let n = same.open_count in
      let l = same.listed in
      record {
        lists = back_lists s now (levels_of inside) same h;
        within = within_fewer (open_limit inside.options) s now (levels_of inside) (levels_of inside) (omega (arith, n)) same.open_most;
        others = others_lists s now (levels_of inside) (levels_of inside) (λ number. ap (λ (lists : ℕ → _). lists number) same.open_list) (λ number apart. apart);
        same = record { options = refl; order = refl; root = refl };
        tree = tree;
        faults = faults;
        later = omega (arith, l);
      }

  pub back_work : (s now : DiskState) (inside : Inside S) → SameLists s now → left_to_do now inside ≡ left_to_do s inside
  back_work s now inside same =
      let w = weight_kept s now Unread (levels_of inside) (clear_unread (levels_of inside)) (others_same s now Unread same.open_list) in
      let l = same.listed in
      omega (arith, w, l)

  -- ---- a directory that was entered

  pub enters_levels : (inside new : Inside S) (level : Level) (met : DirEntry) (folder : Folder) (given : Option DirEntry) → (e : Enters inside level met folder new given)
      → levels_of new ≡ (inside.stack.items ++ e.raised ∷ []) ++ e.opened ∷ []
  enters_levels inside new level met folder given e = ap (λ (o : Option Level). new.stack.items ++ top_levels o) e.top ∙ ap (λ (ys : List Level). ys ++ e.opened ∷ []) e.stack

  enters_lists : (s : DiskState) (inside new : Inside S) (level : Level) (met : DirEntry) (folder : Folder) (given : Option DirEntry) → Enters inside level met folder new given → AreSound s (inside.stack.items ++ level ∷ []) → AreSound s (levels_of new)
  enters_lists s inside new level met folder given e h =
      let raised_folder : e.raised.folder ≡ level.folder = ap (λ (l : Level). l.folder) e.raised_is in
      let raised_entries : e.raised.entries ≡ level.entries = ap (λ (l : Level). l.entries) e.raised_is in
      subst (AreSound s) (sym (enters_levels inside new level met folder given e))
      (sound_unread s (inside.stack.items ++ e.raised ∷ []) e.opened (sound_relevel s inside.stack.items level e.raised raised_folder raised_entries h) e.unread)

  enters_opens : (inside new : Inside S) (level : Level) (met : DirEntry) (folder : Folder) (given : Option DirEntry) → Enters inside level met folder new given → opens (levels_of new) ≡ opens (inside.stack.items ++ level ∷ [])
  enters_opens inside new level met folder given e =
      let raised_entries : e.raised.entries ≡ level.entries = ap (λ (l : Level). l.entries) e.raised_is in
      let a = ap opens (enters_levels inside new level met folder given e) in
      let b = opens_snoc (inside.stack.items ++ e.raised ∷ []) e.opened in
      let c = opens_snoc inside.stack.items e.raised in
      let d = opens_snoc inside.stack.items level in
      let f = ap open_in raised_entries in
      let h = ap open_in e.unread in
      omega (arith, a, b, c, d, f, h)

  pub enters_sound : (s : DiskState) (sorts : Bool) (inside new : Inside S) (level : Level) (met : DirEntry) (folder : Folder) (given : Option DirEntry) → Enters inside level met folder new given → SameWalk inside new → IsRead level.entries
      → IsSound s sorts (with_top inside level) → IsSound s sorts new
  enters_sound s sorts inside new level met folder given e same read h =
      let raised_entries : e.raised.entries ≡ level.entries = ap (λ (l : Level). l.entries) e.raised_is in
      record {
        lists = enters_lists s inside new level met folder given e h.lists;
        read = subst AreRead (sym e.stack) (read_join inside.stack.items e.raised h.read (subst IsRead (sym raised_entries) read));
        rooted = λ none. absurd (let f : Some e.opened ≡ None = sym e.top ∙ none in cc f);
        few = let a = enters_opens inside new level met folder given e in let f = h.few in let o = ap (held_limit sorts) same.options in omega (arith, a, f, o);
        shallow = rw same.options (subst (AreShallow inside.options.max_depth) (sym (enters_levels inside new level met folder given e))
            (shallow_unread inside.options.max_depth (inside.stack.items ++ e.raised ∷ []) e.opened e.unread (shallow_relevel inside.options.max_depth inside.stack.items level e.raised (ap (λ (l : Level). l.folder) e.raised_is) raised_entries h.shallow)));
        fresh = subst IsTopFresh (sym e.top) (fresh_opened e.opened.entries e.opened.first e.opened.faults.items e.first e.faultless);
      }

  pub enters_keeps : (s : DiskState) (inside new : Inside S) (level : Level) (met : DirEntry) (folder : Folder) (given : Option DirEntry) → Enters inside level met folder new given → SameWalk inside new
      → AreSound s (inside.stack.items ++ level ∷ []) → KeepsWalk s (with_top inside level) s new
  enters_keeps s inside new level met folder given e same h =
      let a = enters_opens inside new level met folder given e in
      record {
        lists = enters_lists s inside new level met folder given e h;
        within = within_fewer (open_limit inside.options) s s (inside.stack.items ++ level ∷ []) (levels_of new) (omega (arith, a)) refl;
        others = others_levels s (inside.stack.items ++ level ∷ []) (levels_of new)
            (λ number apart. subst (AreApart number) (sym (enters_levels inside new level met folder given e))
            (apart_unread number (inside.stack.items ++ e.raised ∷ []) e.opened e.unread (apart_relevel number inside.stack.items level e.raised (ap (λ (l : Level). l.entries) e.raised_is) apart)));
        same = record { options = same.options; order = same.order; root = same.root };
        tree = record { tree = refl; clock = refl; outcomes = refl };
        faults = omega arith;
        later = omega arith;
      }

  pub enters_work : (s : DiskState) (inside new : Inside S) (level : Level) (met : DirEntry) (folder : Folder) (given : Option DirEntry) → Enters inside level met folder new given → left_to_do s new ≤ left_to_do s (with_top inside level) + 4
  enters_work s inside new level met folder given e =
      let raised_entries : e.raised.entries ≡ level.entries = ap (λ (l : Level). l.entries) e.raised_is in
      let raised_faults : e.raised.faults.items ≡ level.faults.items = ap (λ (l : Level). l.faults.items) e.raised_is in
      let a = ap (weight_all s) (enters_levels inside new level met folder given e) in
      let b = weight_snoc s (inside.stack.items ++ e.raised ∷ []) e.opened in
      let c = weight_snoc s inside.stack.items e.raised in
      let d = weight_snoc s inside.stack.items level in
      let f = ap (weight_in s) raised_entries in
      let raised_folder : e.raised.folder ≡ level.folder = ap (λ (l : Level). l.folder) e.raised_is in
      let r : weight_root e.raised.entries e.raised.folder ≡ weight_root level.entries level.folder = rw (raised_entries, raised_folder) refl in
      let u : weight_root e.opened.entries e.opened.folder ≡ 0 = rw (e.unread, e.folder_is) refl in
      let h = ap (weight_in s) e.unread in
      let i = ap weight_first e.first in
      let j = ap length e.faultless in
      let k = ap length raised_faults in
      let l = first_small e.raised.first in
      omega (arith, a, b, c, d, f, r, u, h, i, j, k, l)

  -- the level stands on top again, with another item to come first
  pub refused_keeps : (s : DiskState) (inside new : Inside S) (level kept : Level) → levels_of new ≡ inside.stack.items ++ kept ∷ [] → kept.folder ≡ level.folder → kept.entries ≡ level.entries → SameWalk inside new
      → AreSound s (inside.stack.items ++ level ∷ []) → KeepsWalk s (with_top inside level) s new
  refused_keeps s inside new level kept e folder entries same h =
      let a = ap opens e in
      let b = opens_snoc inside.stack.items kept in
      let c = opens_snoc inside.stack.items level in
      let d = ap open_in entries in
      record {
        lists = subst (AreSound s) (sym e) (sound_relevel s inside.stack.items level kept folder entries h);
        within = within_fewer (open_limit inside.options) s s (inside.stack.items ++ level ∷ []) (levels_of new) (omega (arith, a, b, c, d)) refl;
        others = others_levels s (inside.stack.items ++ level ∷ []) (levels_of new) (λ number apart. apart_same number (inside.stack.items ++ kept ∷ []) (levels_of new) e (apart_relevel number inside.stack.items level kept entries apart));
        same = record { options = same.options; order = same.order; root = same.root };
        tree = record { tree = refl; clock = refl; outcomes = refl };
        faults = omega arith;
        later = omega arith;
      }
