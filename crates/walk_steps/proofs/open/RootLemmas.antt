-- The root is looked at.
use Rattle.std.proofs.Common.{◌≡◌, ◌⊎◌, ◌<◌, ◌≤◌, ℕ, zero, suc, Bool, true, false, cond, List, [], ◌∷◌, ◌++◌, length, map, Option, Some, None, Err, refl, sym, subst, ap, ◌∙◌, inl, inr, arith, append-nil}
use Rattle.std.specs.Prelude.{IsTrue, option_map}
use Rattle.std.specs.Option.{option_map_or}
use Rattle.std.specs.declared.cmp.Ordering.{Ordering}
use Rattle.sd_io.specs.Tree.{Node, Tree}
use Rattle.sd_io.specs.Disk.{DiskState, SameLists, SameTree}
use Rattle.walk_rest.specs.declared.entry.DirEntry.{DirEntry}
use Rattle.walk_rest.specs.declared.error.Error.{Error}
use Rattle.walk_rest.specs.declared.error.Error.TheVariants as error
use Rattle.walk_rest.specs.declared.options.Options.{Options}
use Rattle.walk_rest.specs.declared.level.Folder.{Folder}
use Rattle.walk_rest.specs.declared.level.Entries.{Entries}
use Rattle.walk_rest.specs.declared.level.Entries.TheVariants.{Unread, Open, Kept}
use Rattle.walk_rest.specs.declared.level.Level.{Level}
use Rattle.walk_rest.specs.Plan.{Item, Plan, done, past, into, Manner, IsPlan, node_to}
use Rattle.walk_rest.specs.Listing.{Beginning, ends, begins, begins_with, beginning, device_to, manner_of, IsBegun, IsRootPlan}
use Rattle.walk_rest.specs.Rest.{Fault, Part, Rest, none, cut, ComesIn, IsNextGone, IsFaultIn}
use Rattle.walk_rest.specs.Level.{IsDue, chain_above, with_folder, fault_of, item_of}
use Rattle.walk_rest.proofs.MoveLemmas.{parts_snoc}
use Rattle.walk_steps.specs.declared.inside.Inside.{Inside}
use Rattle.walk_steps.specs.Inside.{HasRest, IsRead, IsUnbegun, IsUntaken, SameWalk, entries_in, levels_of, with_top}
use Rattle.walk_steps.specs.Sound.{AreSound, AllAt, IsApart, IsReadable, IsShallow, IsSound, IsSoundBelow, KeepsWalk, held_limit, open_in, open_limit}
use Rattle.walk_steps.specs.Work.{left_to_do, weight_first, weight_in, weight_root}
use Rattle.walk_steps.specs.Steps.{CannotBegin, LiesUnread, MovesTo, StepsTo}
use Rattle.walk_steps.proofs.leave.SoundLemmas.{clear_unread, weight_kept}
use Rattle.walk_steps.proofs.leave.WithinLemmas.{work_snoc}
use Rattle.walk_steps.proofs.open.OpenLemmas.{clear_from, is_sound_top, keeps_none, keeps_top, no_top, sound_on, sound_top}
use Rattle.walk_steps.proofs.next.StepLemmas.{allowed_none, allowed_one, parts_later, rest_of, top_parts}
use Rattle.walk_steps.proofs.next.MeetLemmas.{came, due_of_plan, next_gone, reads_all}

-- ---- the root's path

abbrev AtRoot : List ℕ → Beginning → Type 0
AtRoot root (ends failed) = Unit {0}
AtRoot root (begins entry) = entry.path ≡ root

with_at : (root : List ℕ) (node : Option Node) → AtRoot root (begins_with root node)
with_at root None = tt
with_at root (Some node) = refl

by_at : (root : List ℕ) (b : Bool) (followed unfollowed : Option Node)
    → AtRoot root (cond b (option_map_or (λ (node : Node). begins_with root unfollowed) followed (ends (error.Absent root 0))) (begins_with root unfollowed))
by_at root false followed unfollowed = with_at root unfollowed
by_at root true None unfollowed = tt
by_at root true (Some node) unfollowed = with_at root unfollowed

begins_at : (tree : Tree) (options : Options) (root : List ℕ) → AtRoot root (beginning tree options root)
begins_at tree options root = by_at root options.same_file_system (node_to tree root true) (node_to tree root false)

none_planned : (tree : Tree) (m : Manner) (chain : List Folder) (plan : Plan) → IsPlan tree m chain [] plan → plan ≡ done
none_planned tree m chain done h = refl
none_planned tree m chain (past path item plan) h = absurd h
none_planned tree m chain (into folder before contents after plan) h = absurd h

-- the root is gone, with all below it
root_gone : (tree : Tree) (m : Manner) (root : List ℕ) (b : Beginning) (plan : Plan) → AtRoot root b → IsBegun tree m root b plan → IsNextGone plan root done
root_gone tree m root (ends failed) plan at h = let P : Plan → Type 0 = λ p. IsNextGone p root done in subst P (sym h) (refl, refl)
root_gone tree m root (begins entry) plan at h =
    let n = next_gone tree m [] entry [] plan h in
    let P : Plan → Type 0 = λ left. IsNextGone plan entry.path left in
    let Q : List ℕ → Type 0 = λ path. IsNextGone plan path done in
    subst Q at (subst P (none_planned tree m [] n.0 n.1) n.2)

-- ---- its depth

pub at_root_none : AllAt 0 []
at_root_none k d less = absurd (omega (arith, less))

pub at_root_one : (entry : DirEntry) → entry.depth ≡ 0 → AllAt 0 (entry ∷ [])
at_root_one entry h zero d less = h
at_root_one entry h (suc k) d less = absurd (omega (arith, less))

-- ---- what was due of the root

root_due : (s : DiskState) (m : Manner) (root : List ℕ) (chain : List Folder) (given : Option Folder) (e : Entries) (plan : Plan) → given ≡ None → e ≡ Unread
    → IsDue s m root (with_folder given chain) given e plan → (chain ≡ []) × IsRootPlan s.tree m root plan
root_due s m root chain given e plan is unread h =
    let P : Option Folder → Type 0 = λ g. IsDue s m root (with_folder g chain) g e plan in
    let Q : Entries → Type 0 = λ x. IsDue s m root chain None x plan in
    subst Q unread (subst P is h)

root_planned : (s now : DiskState) (o : Options) (sorts : Bool) (by : DirEntry → DirEntry → Ordering) (root : List ℕ) (chain : List Folder) (given : Option Folder) (e : Entries) (plan : Plan)
    → given ≡ None → chain ≡ [] → now.tree ≡ s.tree → IsPlan s.tree (manner_of s.tree o sorts by root) [] (entries_in now None e) plan
    → IsPlan now.tree (manner_of now.tree o sorts by root) (with_folder given chain) (entries_in now given e) plan
root_planned s now o sorts by root chain given e plan is bottom tree h =
    let P : Tree → Type 0 = λ t. IsPlan t (manner_of t o sorts by root) [] (entries_in now None e) plan in
    let Q : List Folder → Type 0 = λ c. IsPlan now.tree (manner_of now.tree o sorts by root) c (entries_in now None e) plan in
    let R : Option Folder → Type 0 = λ g. IsPlan now.tree (manner_of now.tree o sorts by root) (with_folder g chain) (entries_in now g e) plan in
    subst R (sym is) (subst Q (sym bottom) (subst P (sym tree) h))

unbegun_root : (xs : List Level) (lying level : Level) → level.folder ≡ None → IsUntaken level.entries → IsUnbegun (xs ++ lying ∷ []) → IsUnbegun (xs ++ level ∷ [])
unbegun_root [] lying level folder untaken u = (folder, untaken)
unbegun_root (x ∷ []) lying level folder untaken u = u
unbegun_root (x ∷ y ∷ xs) lying level folder untaken u = u

held_most : (b : Bool) (options : Options) → held_limit b options ≤ open_limit options
held_most true options = omega arith
held_most false options = omega arith

come_past : (below : List Part) (part : Part) (path : List ℕ) (item : Option Item) (plan : Plan) → part.first ≡ None → part.left ≡ past path item plan → ComesIn below part part.first part.left item (below ++ record part { left = plan } ∷ [])
come_past below part path item plan first is =
    let P : Option Item → Type 0 = λ f. ComesIn below part f part.left item (below ++ record part { left = plan } ∷ []) in
    let Q : Plan → Type 0 = λ x. ComesIn below part None x item (below ++ record part { left = plan } ∷ []) in
    subst P (sym first) (subst Q (sym is) (refl, refl))

unheld_shallow : (n : ℕ) (folder : Option Folder) (e : Entries) → open_in e ≡ 0 → IsShallow n folder e
unheld_shallow n folder Unread shut = tt
unheld_shallow n folder (Open list) shut = absurd (omega (arith, shut))
unheld_shallow n folder (Kept kept) shut = tt

module _ {S : Type 0} where
  -- the root's level lies on top, and its entry, if it has one, is to come
  pub record LooksAt (s now : DiskState) (inside : Inside S) (lying level : Level) (new : Inside S) : Type 0 where
    pub same : SameWalk inside new
    pub levels : levels_of new ≡ inside.stack.items ++ level ∷ []
    pub lies : LiesUnread lying None
    pub folder : level.folder ≡ None
    pub first : level.first ≡ None
    pub faultless : level.faults.items ≡ []
    pub read : IsRead level.entries
    pub readable : IsReadable now level.folder level.entries
    pub lists : now.open_list ≡ s.open_list
    pub tree : now.tree ≡ s.tree
    pub faults : s.faults ≤ now.faults

  root_rest : (s now : DiskState) (sorts : Bool) (by : DirEntry → DirEntry → Ordering) (inside new : Inside S) (lying level : Level) (rest : Rest) (r : LooksAt s now inside lying level new) (h : HasRest s sorts by (with_top inside lying) rest)
      (left : Plan) → IsPlan s.tree (manner_of s.tree inside.options sorts by inside.root) [] (entries_in now None level.entries) left
      → (IsTrue inside.options.same_file_system → IsUnbegun (inside.stack.items ++ level ∷ []) ⊎ (new.device ≡ device_to s.tree inside.root))
      → HasRest now sorts by new ((top_parts s sorts by inside lying rest h).below ++ record (top_parts s sorts by inside lying rest h).part { left = left } ∷ [])
  root_rest s now sorts by inside new lying level rest r h left planned device =
      let o = inside.options in
      let root = inside.root in
      let xs = inside.stack.items in
      let chain = chain_above [] xs in
      let p = top_parts s sorts by inside lying rest h in
      let part : Part = record p.part { left = left } in
      let due = root_due s (manner_of s.tree o sorts by root) root chain lying.folder lying.entries p.part.left r.lies.folder_is r.lies.unread p.top.due in
      let plan = root_planned s now o sorts by root chain level.folder level.entries left r.folder due.0 r.tree planned in
      let lower = parts_later s now o sorts by root xs p.below r.tree (reads_all s now xs r.lists) p.lower in
      let m = manner_of now.tree o sorts by root in
      let parts = parts_snoc now m root [] xs level p.below part lower (record {
        folder = p.top.folder ∙ (r.lies.folder_is ∙ sym r.folder);
        first = p.top.first ∙ ap (option_map item_of) (r.lies.first ∙ sym r.first);
        due = due_of_plan now m root (with_folder level.folder chain) level.folder level.entries left r.read r.readable plan;
        faults = p.top.faults ∙ ap (map fault_of) (r.lies.faultless ∙ sym r.faultless);
      }) in
      rest_of now sorts by inside new (xs ++ level ∷ []) (p.below ++ part ∷ []) r.same r.levels parts
      (λ on. elim (device on) [ inl u ↦ inl u | inr k ↦ inr (k ∙ ap (λ (t : Tree). device_to t root) (sym r.tree)) ])

  root_plan : (s now : DiskState) (sorts : Bool) (by : DirEntry → DirEntry → Ordering) (inside new : Inside S) (lying level : Level) (rest : Rest) (r : LooksAt s now inside lying level new) (h : HasRest s sorts by (with_top inside lying) rest)
      → IsRootPlan s.tree (manner_of s.tree inside.options sorts by inside.root) inside.root (top_parts s sorts by inside lying rest h).part.left
  root_plan s now sorts by inside new lying level rest r h =
      let p = top_parts s sorts by inside lying rest h in
      (root_due s (manner_of s.tree inside.options sorts by inside.root) inside.root (chain_above [] inside.stack.items) lying.folder lying.entries p.part.left r.lies.folder_is r.lies.unread p.top.due).1

  -- the root's device is still not needed, or it is known
  device_on : (tree : Tree) (inside new : Inside S) (lying level : Level) → level.folder ≡ None → IsUntaken level.entries
      → (IsUnbegun (inside.stack.items ++ lying ∷ []) ⊎ (inside.device ≡ device_to tree inside.root)) → ((new.device ≡ inside.device) ⊎ (new.device ≡ device_to tree inside.root))
      → IsUnbegun (inside.stack.items ++ level ∷ []) ⊎ (new.device ≡ device_to tree inside.root)
  device_on tree inside new lying level folder untaken (inl u) d = inl (unbegun_root inside.stack.items lying level folder untaken u)
  device_on tree inside new lying level folder untaken (inr k) (inl same) = inr (same ∙ k)
  device_on tree inside new lying level folder untaken (inr k) (inr d) = inr d

  -- the root's entry is to come
  pub root_begun : (s now : DiskState) (sorts : Bool) (by : DirEntry → DirEntry → Ordering) (inside new : Inside S) (lying level : Level) (entry : DirEntry) (rest : Rest) → LooksAt s now inside lying level new
      → HasRest s sorts by (with_top inside lying) rest → entries_in now None level.entries ≡ entry ∷ [] → beginning s.tree inside.options inside.root ≡ begins entry
      → (IsTrue inside.options.same_file_system → new.device ≡ device_to s.tree inside.root) → MovesTo s sorts by rest now new
  root_begun s now sorts by inside new lying level entry rest r h entries begun device =
      let m = manner_of s.tree inside.options sorts by inside.root in
      let p = top_parts s sorts by inside lying rest h in
      let P : Beginning → Type 0 = λ b. IsBegun s.tree m inside.root b p.part.left in
      let Q : List DirEntry → Type 0 = λ es. IsPlan s.tree m [] es p.part.left in
      let R : Rest → Type 0 = λ x. HasRest now sorts by new x in
      let planned = subst Q (sym entries) (subst P begun (root_plan s now sorts by inside new lying level rest r h)) in
      record {
        cuts = 0;
        new = rest;
        moves = none;
        left = subst R (sym p.rest_is) (root_rest s now sorts by inside new lying level rest r h p.part.left planned (λ on. inr (device on)));
        allowed = allowed_none s.faults now.faults r.faults;
      }

  -- an error stands in its place
  pub root_failed : (s now : DiskState) (sorts : Bool) (by : DirEntry → DirEntry → Ordering) (inside new : Inside S) (lying level : Level) (failed : Error) (rest : Rest) → LooksAt s now inside lying level new
      → HasRest s sorts by (with_top inside lying) rest → entries_in now None level.entries ≡ [] → IsUntaken level.entries
      → (IsTrue inside.options.same_file_system → (new.device ≡ inside.device) ⊎ (new.device ≡ device_to s.tree inside.root))
      → (failed ≡ error.NoMemory → ⊥) → CannotBegin true s now inside.options inside.root failed → StepsTo s sorts by rest (Some (Err failed)) now new
  root_failed s now sorts by inside new lying level failed rest r h entries untaken device named cause = at cause
    where
      m : Manner
      m = manner_of s.tree inside.options sorts by inside.root

      nothing : IsPlan s.tree m [] (entries_in now None level.entries) done
      nothing = let Q : List DirEntry → Type 0 = λ es. IsPlan s.tree m [] es done in subst Q (sym entries) tt

      has : HasRest now sorts by new ((top_parts s sorts by inside lying rest h).below ++ record (top_parts s sorts by inside lying rest h).part { left = done } ∷ [])
      has = root_rest s now sorts by inside new lying level rest r h done nothing (λ on. device_on s.tree inside new lying level r.folder untaken (h.device on) (device on))

      at : CannotBegin true s now inside.options inside.root failed → StepsTo s sorts by rest (Some (Err failed)) now new
      at (inl e) = absurd (named e)
      at (inr (inl f)) =
          let p = top_parts s sorts by inside lying rest h in
          let fault : Fault = record { path = Some inside.root; depth = 0 } in
          let met : Part = record p.part { left = done; faults = p.part.faults ++ fault ∷ [] } in
          let answered : Part = record p.part { left = done; faults = p.part.faults ++ [] } in
          let same : answered ≡ record p.part { left = done } = ap (λ faults. record p.part { left = done; faults = faults }) (append-nil p.part.faults) in
          let gone = root_gone s.tree m inside.root (beginning s.tree inside.options inside.root) p.part.left (begins_at s.tree inside.options inside.root) (root_plan s now sorts by inside new lying level rest r h) in
          let F : Option Folder → Type 0 = λ g. IsFaultIn g fault p.part.left done in
          record {
            cuts = 1;
            new = p.below ++ answered ∷ [];
            is_step = record {
              mid = p.below ++ met ∷ [];
              moves = cut none (record {
                below = p.below;
                part = p.part;
                above = [];
                left = done;
                fault = fault;
                was = p.rest_is;
                met = subst F (sym (p.top.folder ∙ r.lies.folder_is)) (inl (inside.root, refl, gone));
                now = refl;
              });
              answers = inl (record { below = p.below; part = met; above = []; before = p.part.faults; fault = fault; after = []; was = refl; due = refl; given = ap (λ (e : Error). Err e) f.0; now = refl });
            };
            left = let P : Part → Type 0 = λ q. HasRest now sorts by new (p.below ++ q ∷ []) in subst P (sym same) has;
            allowed = allowed_one s.faults now.faults f.1;
            enters = λ entry given. absurd (cc given);
          }
      at (inr (inr f)) =
          let p = top_parts s sorts by inside lying rest h in
          let P : Beginning → Type 0 = λ b. IsBegun s.tree m inside.root b p.part.left in
          let is : p.part.left ≡ past inside.root (Some (Err failed)) done = subst P (f.1 refl) (root_plan s now sorts by inside new lying level rest r h) in
          let first : p.part.first ≡ None = p.top.first ∙ ap (option_map item_of) r.lies.first in
          came s now sorts by rest (p.below ++ record p.part { left = done } ∷ []) (Some (Err failed)) new
          (record { below = p.below; part = p.part; was = p.rest_is; faultless = p.top.faults ∙ ap (map fault_of) r.lies.faultless; comes = come_past p.below p.part inside.root (Some (Err failed)) done first is }) has r.faults
          (λ entry given. absurd (cc given))

  -- ---- what stays

  pub looks : (s now : DiskState) (inside begun : Inside S) (lying level : Level) → begun ≡ record inside { device = begun.device } → LiesUnread lying None → level.folder ≡ None → level.first ≡ None → level.faults.items ≡ []
      → IsRead level.entries → IsReadable now level.folder level.entries → SameLists s now → SameTree s now → s.faults ≤ now.faults → LooksAt s now inside lying level (with_top begun level)
  looks s now inside begun lying level same lies folder first faultless read readable lists tree faults = record {
    same = record { options = ap (λ (i : Inside S). i.options) same; order = ap (λ (i : Inside S). i.order) same; root = ap (λ (i : Inside S). i.root) same };
    levels = ap (λ (i : Inside S). i.stack.items ++ level ∷ []) same;
    lies = lies;
    folder = folder;
    first = first;
    faultless = faultless;
    read = read;
    readable = readable;
    lists = lists.open_list;
    tree = tree.tree;
    faults = faults;
  }

  root_lists : (s now : DiskState) (sorts : Bool) (inside : Inside S) (level : Level) → IsSoundBelow s sorts inside → SameLists s now → ((number : ℕ) → IsApart number level.entries) → IsReadable now level.folder level.entries
      → AreSound now (inside.stack.items ++ level ∷ [])
  root_lists s now sorts inside level sound lists apart readable =
      sound_top s now inside.stack.items level sound.lists (clear_from s level.entries inside.stack.items sound.lists (λ number is. apart number)) (λ number a. ap (λ (o : ℕ → _). o number) lists.open_list) readable

  pub root_sound : (s now : DiskState) (sorts : S → Bool) (inside begun : Inside S) (level : Level) → begun ≡ record inside { device = begun.device } → IsSoundBelow s (sorts inside.order) inside → SameLists s now
      → ((number : ℕ) → IsApart number level.entries) → open_in level.entries ≡ 0 → IsReadable now level.folder level.entries → IsRead level.entries → IsSound now (sorts begun.order) (with_top begun level)
  root_sound s now sorts inside begun level same sound lists apart unheld readable read =
      let few = sound.few in
      let P : Inside S → Type 0 = λ i. IsSound now (sorts i.order) (with_top i level) in
      subst P (sym same) (is_sound_top now (sorts inside.order) (record inside { device = begun.device }) level (root_lists s now (sorts inside.order) inside level sound lists apart readable) sound.read (omega (arith, unheld, few)) sound.shallow (unheld_shallow inside.options.max_depth level.folder level.entries unheld) read)

  pub root_keeps : (s now : DiskState) (sorts : Bool) (inside begun : Inside S) (lying level : Level) → begun ≡ record inside { device = begun.device } → lying.entries ≡ Unread → IsSoundBelow s sorts inside → SameLists s now
      → ((number : ℕ) → IsApart number level.entries) → open_in level.entries ≡ 0 → IsReadable now level.folder level.entries → SameTree s now → s.faults ≤ now.faults → KeepsWalk s (with_top inside lying) now (with_top begun level)
  root_keeps s now sorts inside begun lying level same unread sound lists apart unheld readable tree faults =
      let few = sound.few in
      let held = held_most sorts inside.options in
      let count = lists.open_count in
      let most = lists.open_most in
      let listed = lists.listed in
      let k = keeps_top s now inside lying level 0 unread (root_lists s now sorts inside level sound lists apart readable) (omega (arith, count, unheld)) (omega (arith, most)) (omega (arith, few, held)) tree faults (omega (arith, listed)) (λ number a. ap (λ (o : ℕ → _). o number) lists.open_list) (λ number is. apart number) in
      let P : Inside S → Type 0 = λ i. KeepsWalk s (with_top inside lying) now (with_top i level) in
      subst P (sym same) (record { lists = k.lists; within = k.within; others = k.others; same = record { options = refl; order = refl; root = refl }; tree = tree; faults = faults; later = k.later })

  pub root_refused : (s now : DiskState) (sorts : Bool) (inside begun : Inside S) (lying : Level) → begun ≡ record inside { device = begun.device } → inside.top ≡ None → lying.entries ≡ Unread → IsSoundBelow s sorts inside → SameLists s now
      → SameTree s now → s.faults ≤ now.faults → KeepsWalk s (with_top inside lying) now begun
  root_refused s now sorts inside begun lying same top unread sound lists tree faults =
      let few = sound.few in
      let held = held_most sorts inside.options in
      let most = lists.open_most in
      let listed = lists.listed in
      keeps_none s now inside begun lying 0 unread (record { options = ap (λ (i : Inside S). i.options) same; order = ap (λ (i : Inside S). i.order) same; root = ap (λ (i : Inside S). i.root) same })
      (ap levels_of same ∙ no_top inside top)
      (sound_on s now inside.stack.items sound.lists (λ number. ap (λ (o : ℕ → _). o number) lists.open_list)) lists.open_count (omega (arith, most)) (omega (arith, few, held)) tree faults (omega (arith, listed)) (λ number. ap (λ (o : ℕ → _). o number) lists.open_list)

  -- ---- the work that is left

  pub root_less : (s now : DiskState) (inside begun : Inside S) (lying level : Level) → begun ≡ record inside { device = begun.device } → LiesUnread lying None → SameLists s now → level.first ≡ None → level.faults.items ≡ []
      → weight_root level.entries level.folder ≡ 0 → weight_in now level.entries ≤ 6 → left_to_do now (with_top begun level) < left_to_do s (with_top inside lying)
  root_less s now inside begun lying level same lies lists first faultless known light =
      let a = work_snoc s inside lying in
      let b = work_snoc now inside level in
      let c = weight_kept s now Unread inside.stack.items (clear_unread inside.stack.items) (λ number apart. ap (λ (o : ℕ → _). o number) lists.open_list) in
      let d = ap (weight_in s) lies.unread in
      let e = ap weight_first lies.first in
      let f = ap weight_first first in
      let g = ap length faultless in
      let listed = lists.listed in
      let r : weight_root lying.entries lying.folder ≡ 5 = rw (lies.unread, lies.folder_is) refl in
      let k = ap (λ (i : Inside S). left_to_do now (with_top i level)) same in
      omega (arith, a, b, c, d, e, f, g, listed, r, k, known, light)
