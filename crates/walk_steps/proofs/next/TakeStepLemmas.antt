-- What is left of a walk once an entry was taken, or none came.
use Rattle.std.proofs.Common.{◌≡◌, ◌+◌, ◌≤◌, ◌<◌, ℕ, Bool, List, [], ◌∷◌, ◌++◌, map, reverse, Option, Some, None, Result, Ok, Err, refl, sym, subst, ◌∙◌, ap, arith, inl, inr, append-nil}
use Rattle.std.specs.Prelude.{IsTrue, IfOk, OnOk, option_map}
use Rattle.std.specs.Option.{option_to_list}
use Rattle.std.specs.declared.cmp.Ordering.{Ordering}
use Rattle.sd_io.specs.Count.{HasRisen}
use Rattle.sd_io.specs.Tree.{Tree}
use Rattle.sd_io.specs.Disk.{DiskState, SameTree}
use Rattle.sd_io.specs.Lists.{SameOpen}
use Rattle.walk_rest.specs.declared.entry.DirEntry.{DirEntry}
use Rattle.walk_rest.specs.declared.error.Error.TheVariants as error
use Rattle.walk_rest.specs.declared.level.Folder.{Folder}
use Rattle.walk_rest.specs.declared.level.Due.{Due}
use Rattle.walk_rest.specs.declared.level.Level.{Level}
use Rattle.walk_rest.specs.declared.level.Entries.{Entries}
use Rattle.walk_rest.specs.declared.level.Entries.TheVariants.{Unread, Open, Kept}
use Rattle.walk_rest.specs.Plan.{Item, Plan, done, past, into, Manner, IsPlan}
use Rattle.walk_rest.specs.Listing.{manner_of, device_to}
use Rattle.walk_rest.specs.Rest.{Fault, Part, Rest, none, cut, leave, IsFaultIn}
use Rattle.walk_rest.specs.Level.{IsAllowed, IsOpenEntries, chain_above, with_folder, fault_of, item_of}
use Rattle.walk_rest.specs.Sorting.{IsSublist}
use Rattle.walk_rest.proofs.PlanLemmas.{plan_cut}
use Rattle.walk_rest.proofs.MoveLemmas.{parts_snoc}
use Rattle.walk_steps.specs.declared.inside.Inside.{Inside}
use Rattle.walk_steps.specs.Inside.{HasRest, IsRead, IsUnbegun, IsUntaken, SameWalk, entries_in, entries_due, levels_of, with_top, top_levels}
use Rattle.walk_steps.specs.Sound.{AreShallow, AreSound, AreRead, IsFresh, IsReadable, IsSound, KeepsWalk, SameOtherThan, depth_below, held_limit, open_in, open_limit, opens}
use Rattle.walk_steps.specs.Lists.{SameLevel, SameReading}
use Rattle.walk_steps.specs.Steps.{HasTaken, MovesTo, StepsTo, TurnsTo}
use Rattle.walk_steps.specs.Work.{left_to_do, weight_all, work_of}
use Rattle.walk_steps.proofs.leave.OthersLemmas.{apart_reading, apart_same, fresh_top, shallow_join, shallow_reading, shallow_split}
use Rattle.walk_steps.proofs.leave.SoundLemmas.{all_same_reads, apart_front, apart_snoc, clear_same, opens_snoc, read_split, sound_join, sound_kept, sound_split, weight_kept, weight_snoc}
use Rattle.walk_steps.proofs.leave.WithinLemmas.{weight_in_some, within_fewer}
use Rattle.walk_steps.proofs.next.StepLemmas.{allowed_none, allowed_one, knows_begun, parts_later, rest_of, top_parts}
use Rattle.walk_steps.proofs.next.MeetLemmas.{due_of_plan, plan_of_due}

-- an entry was taken from a level, or none came
pub record Takes (s now : DiskState) (old new : Level) : Type 0 where
  pub same : SameLevel old new
  pub readable : IsReadable now new.folder new.entries
  pub others : SameOtherThan s old.entries now
  pub open_lists : SameOpen s now
  pub tree : SameTree s now
  pub faults : s.faults ≤ now.faults
  pub later : s.listed ≤ now.listed

pub same_open_in : (a b : Entries) → SameReading a b → open_in b ≡ open_in a
same_open_in Unread b h = ap open_in h
same_open_in (Open list) b h = ap open_in h
same_open_in (Kept kept) Unread h = absurd h
same_open_in (Kept kept) (Open list) h = absurd h
same_open_in (Kept kept) (Kept left) h = refl

pub same_read : (a b : Entries) → SameReading a b → IsRead a → IsRead b
same_read Unread b h r = absurd r
same_read (Open list) b h r = subst IsRead (sym h) tt
same_read (Kept kept) Unread h r = absurd h
same_read (Kept kept) (Open list) h r = absurd h
same_read (Kept kept) (Kept left) h r = tt

untaken_none : (s : DiskState) (folder : Option Folder) (e : Entries) → IsUntaken e → entries_in s folder e ≡ []
untaken_none s folder Unread u = refl
untaken_none s folder (Open list) u = absurd u
untaken_none s folder (Kept kept) u = ap reverse u

open_taken : (e : Entries) → IsOpenEntries e → IsUntaken e → ⊥
open_taken Unread o u = o
open_taken (Open list) o u = u
open_taken (Kept kept) o u = o

some_due : (entry : DirEntry) (es ds : List DirEntry) → ds ≡ entry ∷ es → ds ≡ [] → ⊥
some_due entry es ds some ended = absurd (cc (some, ended))

-- a walk has begun where an entry is due of its topmost list, or where that list is open
begun_due : (s : DiskState) (xs : List Level) (x : Level) (entry : DirEntry) (es : List DirEntry) → entries_due s x ≡ entry ∷ es → IsUnbegun (xs ++ x ∷ []) → ⊥
begun_due s [] x entry es due u = some_due entry es (entries_due s x) due (untaken_none s x.folder x.entries u.1)
begun_due s (y ∷ []) x entry es due u = u
begun_due s (y ∷ z ∷ xs) x entry es due u = u

begun_open : (xs : List Level) (x : Level) → IsOpenEntries x.entries → IsUnbegun (xs ++ x ∷ []) → ⊥
begun_open [] x o u = open_taken x.entries o u.1
begun_open (y ∷ []) x o u = u
begun_open (y ∷ z ∷ xs) x o u = u

-- nothing lies below a root that wasn't looked at
unbegun_left : (xs : List Level) (x : Level) → IsUnbegun (xs ++ x ∷ []) → IsUnbegun xs
unbegun_left [] x u = tt
unbegun_left (y ∷ []) x u = absurd u
unbegun_left (y ∷ z ∷ xs) x u = absurd u

done_only : (tree : Tree) (m : Manner) (chain : List Folder) (plan : Plan) → IsPlan tree m chain [] plan → plan ≡ done
done_only tree m chain done h = refl
done_only tree m chain (past path item plan) h = absurd h
done_only tree m chain (into folder before contents after plan) h = absurd h

top_list : (t : Option Level) → top_levels t ≡ option_to_list t
top_list None = refl
top_list (Some level) = refl

pub popped_levels : (left : List Level) (t : Option Level) (xs : List Level) → xs ≡ left ++ option_to_list t → left ++ top_levels t ≡ xs
popped_levels left t xs e = ap (λ (z : List Level). left ++ z) (top_list t) ∙ sym e

popped_read : (left : List Level) (t : Option Level) → AreRead (left ++ option_to_list t) → AreRead left
popped_read left None h = subst AreRead (append-nil left) h
popped_read left (Some level) h = (read_split left level h).0

-- an open list lies in a folder
open_folder : (s : DiskState) (folder : Option Folder) (e : Entries) → IsOpenEntries e → IsReadable s folder e → (f : Folder) × (folder ≡ Some f)
open_folder s None Unread o r = absurd o
open_folder s None (Open list) o r = absurd r
open_folder s None (Kept kept) o r = absurd o
open_folder s (Some f) e o r = (f, refl)

allowed_before : (n a b c : ℕ) → a ≤ b → IsAllowed n b c → IsAllowed n a c
allowed_before n a b c le (inl h) = inl (omega arith)
allowed_before n a b c le (inr h) = inr h

fresh_reading : (a b : Entries) (first given : Option DirEntry) (was now : List Due) → SameReading a b → given ≡ first → now ≡ was → IsFresh a first was → IsFresh b given now
fresh_reading Unread b first given was now r f d h = rw (r, f, d) h
fresh_reading (Open list) b first given was now r f d h = rw r tt
fresh_reading (Kept kept) Unread first given was now r f d h = absurd r
fresh_reading (Kept kept) (Open list) first given was now r f d h = tt
fresh_reading (Kept kept) (Kept left) first given was now r f d h = tt

module _ {S : Type 0} where
  pub take_sound : (s now : DiskState) (sorts : Bool) (inside : Inside S) (old new : Level) → Takes s now old new → IsSound s sorts (with_top inside old) → IsSound now sorts (with_top inside new)
  take_sound s now sorts inside old new t h =
      let xs = inside.stack.items in
      let p = sound_split s xs old h.lists in
      record {
        lists = sound_join now xs new (sound_kept s now old.entries xs p.0 p.2 t.others) t.readable (clear_same old.entries new.entries xs p.2 t.same.entries);
        read = h.read;
        rooted = λ none. absurd (cc none);
        few = let a = opens_snoc xs old in let b = opens_snoc xs new in let e = same_open_in old.entries new.entries t.same.entries in let f = h.few in omega (arith, a, b, e, f);
        shallow = (let q = shallow_split inside.options.max_depth xs old h.shallow in
            shallow_join inside.options.max_depth xs new q.0 (shallow_reading inside.options.max_depth old.folder new.folder old.entries new.entries t.same.folder t.same.entries q.1));
        fresh = fresh_reading old.entries new.entries old.first new.first old.faults.items new.faults.items t.same.entries t.same.first t.same.faults h.fresh;
      }

  pub take_keeps : (s now : DiskState) (sorts : Bool) (inside : Inside S) (old new : Level) → Takes s now old new → IsSound s sorts (with_top inside old) → KeepsWalk s (with_top inside old) now (with_top inside new)
  take_keeps s now sorts inside old new t h =
      let xs = inside.stack.items in
      let a = opens_snoc xs old in
      let b = opens_snoc xs new in
      let e = same_open_in old.entries new.entries t.same.entries in
      let n = t.open_lists.open_count in
      record {
        lists = (take_sound s now sorts inside old new t h).lists;
        within = within_fewer (open_limit inside.options) s now (xs ++ old ∷ []) (xs ++ new ∷ []) (omega (arith, a, b, e, n)) t.open_lists.open_most;
        others = λ number apart is.
            (let p = apart_front number xs old apart in (t.others number p.1, apart_snoc number xs new p.0 (apart_reading number old.entries new.entries t.same.entries p.1)));
        same = record { options = refl; order = refl; root = refl };
        tree = t.tree;
        faults = t.faults;
        later = t.later;
      }

  -- the root was looked at
  take_device : (s now : DiskState) (sorts : Bool) (by : DirEntry → DirEntry → Ordering) (inside : Inside S) (old new : Level) (rest : Rest) → Takes s now old new → (IsUnbegun (inside.stack.items ++ old ∷ []) → ⊥)
      → HasRest s sorts by (with_top inside old) rest → IsTrue inside.options.same_file_system → inside.device ≡ device_to now.tree inside.root
  take_device s now sorts by inside old new rest t begun h on =
      knows_begun s.tree (with_top inside old) h.device begun on ∙ ap (λ tree. device_to tree inside.root) (sym t.tree.tree)

  pub take_taken : (s now : DiskState) (sorts : Bool) (by : DirEntry → DirEntry → Ordering) (inside : Inside S) (old new : Level) (entry : DirEntry) (rest : Rest) → Takes s now old new → IsSound s sorts (with_top inside old)
      → IsRead old.entries → old.first ≡ None → old.faults.items ≡ [] → entries_due s old ≡ entry ∷ entries_due now new → HasRest s sorts by (with_top inside old) rest → HasTaken now sorts by inside new entry rest
  take_taken s now sorts by inside old new entry rest t sound read first faultless took h =
      let xs = inside.stack.items in
      let m = manner_of s.tree inside.options sorts by inside.root in
      let chain = with_folder old.folder (chain_above [] xs) in
      let p = top_parts s sorts by inside old rest h in
      let split = sound_split s xs old sound.lists in
      let plan = plan_of_due s m inside.root chain old.folder old.entries p.part.left read split.1 p.top.due in
      let E : List DirEntry → Type 0 = λ es. IsPlan s.tree m chain es p.part.left in
      let T : Tree → Type 0 = λ tree. IsPlan tree (manner_of tree inside.options sorts by inside.root) chain (entry ∷ entries_due now new) p.part.left in
      let F : Option Folder → Type 0 = λ f. IsPlan now.tree (manner_of now.tree inside.options sorts by inside.root) (with_folder f (chain_above [] xs)) (entry ∷ entries_due now new) p.part.left in
      record {
        below = p.below;
        part = p.part;
        was = p.rest_is;
        lower = parts_later s now inside.options sorts by inside.root xs p.below t.tree.tree (all_same_reads s now old.entries xs split.2 t.others) p.lower;
        folder = p.top.folder ∙ sym t.same.folder;
        first = p.top.first ∙ ap (option_map item_of) first;
        faultless = p.top.faults ∙ ap (map fault_of) faultless;
        planned = subst F (sym t.same.folder) (subst T (sym t.tree.tree) (subst E took plan));
        device = take_device s now sorts by inside old new rest t (begun_due s xs old entry (entries_due now new) took) h;
      }

  -- ---- none came, and the level is left

  pub take_left : (s now last : DiskState) (sorts : Bool) (by : DirEntry → DirEntry → Ordering) (inside after : Inside S) (old new : Level) (rest : Rest) → Takes s now old new → IsSound s sorts (with_top inside old)
      → IsRead old.entries → old.first ≡ None → old.faults.items ≡ [] → entries_due s old ≡ [] → SameOtherThan now new.entries last → SameTree now last → last.faults ≡ now.faults
      → SameWalk inside after → after.device ≡ inside.device → levels_of after ≡ inside.stack.items → HasRest s sorts by (with_top inside old) rest → MovesTo s sorts by rest last after
  take_left s now last sorts by inside after old new rest t sound read first faultless ended others tree faults same device levels h =
      let xs = inside.stack.items in
      let m = manner_of s.tree inside.options sorts by inside.root in
      let chain = with_folder old.folder (chain_above [] xs) in
      let p = top_parts s sorts by inside old rest h in
      let split = sound_split s xs old sound.lists in
      let E : List DirEntry → Type 0 = λ es. IsPlan s.tree m chain es p.part.left in
      let plan = subst E ended (plan_of_due s m inside.root chain old.folder old.entries p.part.left read split.1 p.top.due) in
      let lower = parts_later s now inside.options sorts by inside.root xs p.below t.tree.tree (all_same_reads s now old.entries xs split.2 t.others) p.lower in
      let lowest = parts_later now last inside.options sorts by inside.root xs p.below tree.tree (all_same_reads now last new.entries xs (clear_same old.entries new.entries xs split.2 t.same.entries) others) lower in
      let le = t.faults in
      record {
        cuts = 0;
        new = p.below;
        moves = leave none (record { part = p.part; was = p.rest_is; spent = record { first = p.top.first ∙ ap (option_map item_of) first; left = done_only s.tree m chain p.part.left plan; faults = p.top.faults ∙ ap (map fault_of) faultless } });
        left = rest_of last sorts by inside after xs p.below same levels lowest
            (λ on. elim (h.device on) [ inl u ↦ inl (unbegun_left xs old u) | inr k ↦ inr (device ∙ (k ∙ ap (λ (tree : Tree). device_to tree inside.root) (sym (tree.tree ∙ t.tree.tree)))) ]);
        allowed = allowed_none s.faults last.faults (omega (arith, le, faults));
      }

  pub left_sound : (s now last : DiskState) (sorts : Bool) (inside after : Inside S) (old new : Level) → Takes s now old new → IsSound s sorts (with_top inside old) → SameOtherThan now new.entries last
      → SameWalk inside after → inside.stack.items ≡ after.stack.items ++ option_to_list after.top → (after.top ≡ None → after.stack.items ≡ []) → IsSound last sorts after
  left_sound s now last sorts inside after old new t h others same popped rooted =
      let xs = inside.stack.items in
      let p = sound_split s xs old h.lists in
      let kept = sound_kept now last new.entries xs (sound_kept s now old.entries xs p.0 p.2 t.others) (clear_same old.entries new.entries xs p.2 t.same.entries) others in
      let levels = popped_levels after.stack.items after.top xs popped in
      record {
        lists = subst (AreSound last) (sym levels) kept;
        read = popped_read after.stack.items after.top (subst AreRead popped h.read);
        rooted = rooted;
        few = let a = opens_snoc xs old in let b = ap opens levels in let f = h.few in let o = ap (held_limit sorts) same.options in omega (arith, a, b, f, o);
        shallow = rw same.options (subst (AreShallow inside.options.max_depth) (sym levels) (shallow_split inside.options.max_depth xs old h.shallow).0);
        fresh = fresh_top after.stack.items after.top (subst AreRead (sym levels) h.read);
      }

  pub left_keeps : (s now last : DiskState) (sorts : Bool) (inside after : Inside S) (old new : Level) → Takes s now old new → IsSound s sorts (with_top inside old) → SameOtherThan now new.entries last
      → SameWalk inside after → inside.stack.items ≡ after.stack.items ++ option_to_list after.top → SameTree now last → last.faults ≡ now.faults → last.listed ≡ now.listed
      → last.open_count + open_in new.entries ≡ now.open_count → last.open_most ≡ now.open_most → KeepsWalk s (with_top inside old) last after
  left_keeps s now last sorts inside after old new t h others same popped tree faults listed count most =
      let xs = inside.stack.items in
      let p = sound_split s xs old h.lists in
      let kept = sound_kept now last new.entries xs (sound_kept s now old.entries xs p.0 p.2 t.others) (clear_same old.entries new.entries xs p.2 t.same.entries) others in
      let levels = popped_levels after.stack.items after.top xs popped in
      let a = opens_snoc xs old in
      let b = ap opens levels in
      let e = same_open_in old.entries new.entries t.same.entries in
      let n = t.open_lists.open_count in
      let le = t.faults in
      let lf = t.later in
      record {
        lists = subst (AreSound last) (sym levels) kept;
        within = within_fewer (open_limit inside.options) s last (xs ++ old ∷ []) (levels_of after) (omega (arith, a, b, e, n, count)) (most ∙ t.open_lists.open_most);
        others = λ number apart is.
            (let q = apart_front number xs old apart in
            (others number (apart_reading number old.entries new.entries t.same.entries q.1) ∙ t.others number q.1, apart_same number xs (levels_of after) levels q.0));
        same = record { options = same.options; order = same.order; root = same.root };
        tree = record { tree = tree.tree ∙ t.tree.tree; clock = tree.clock ∙ t.tree.clock; outcomes = tree.outcomes ∙ t.tree.outcomes };
        faults = omega (arith, le, faults);
        later = omega (arith, lf, listed);
      }

  pub left_less : (s now last : DiskState) (sorts : Bool) (inside after : Inside S) (old new : Level) → Takes s now old new → IsSound s sorts (with_top inside old) → SameOtherThan now new.entries last
      → inside.stack.items ≡ after.stack.items ++ option_to_list after.top → last.listed ≡ now.listed → work_of now new ≤ work_of s old → left_to_do last after < left_to_do s (with_top inside old)
  left_less s now last sorts inside after old new t h others popped listed le =
      let xs = inside.stack.items in
      let p = sound_split s xs old h.lists in
      let a = weight_snoc s xs old in
      let b = weight_kept s now old.entries xs p.2 t.others in
      let c = weight_kept now last new.entries xs (clear_same old.entries new.entries xs p.2 t.same.entries) others in
      let d = weight_in_some now new.entries in
      let e = ap (weight_all last) (popped_levels after.stack.items after.top xs popped) in
      omega (arith, a, b, c, d, e, listed, le)

  pub take_less : (s now : DiskState) (sorts : Bool) (inside : Inside S) (old new : Level) (more : ℕ) → Takes s now old new → IsSound s sorts (with_top inside old) → work_of now new + more ≤ work_of s old
      → left_to_do now (with_top inside new) + more ≤ left_to_do s (with_top inside old)
  take_less s now sorts inside old new more t h le =
      let xs = inside.stack.items in
      let a = weight_snoc s xs old in
      let b = weight_kept s now old.entries xs (sound_split s xs old h.lists).2 t.others in
      let c = weight_snoc now xs new in
      omega (arith, a, b, c, le)

  -- ---- reading failed

  pub take_failed : (s now : DiskState) (sorts : Bool) (by : DirEntry → DirEntry → Ordering) (inside : Inside S) (old new : Level) (depth : ℕ) (rest : Rest) → Takes s now old new → IsSound s sorts (with_top inside old)
      → IsRead old.entries → IsOpenEntries old.entries → old.first ≡ None → old.faults.items ≡ [] → depth ≡ depth_below new.folder → IsSublist (entries_due now new) (entries_due s old) → HasRisen s.faults now.faults
      → HasRest s sorts by (with_top inside old) rest → StepsTo s sorts by rest (Some (Err (error.Disk None depth))) now (with_top inside new)
  take_failed s now sorts by inside old new depth rest t sound read is_open first faultless deep lost risen h =
      let xs = inside.stack.items in
      let m = manner_of s.tree inside.options sorts by inside.root in
      let chain = with_folder old.folder (chain_above [] xs) in
      let p = top_parts s sorts by inside old rest h in
      let split = sound_split s xs old sound.lists in
      let f = open_folder s old.folder old.entries is_open split.1 in
      let plan = plan_of_due s m inside.root chain old.folder old.entries p.part.left read split.1 p.top.due in
      let less = plan_cut s.tree m chain (entries_due now new) (entries_due s old) p.part.left lost plan in
      let fault : Fault = record { path = None; depth = depth } in
      let met : Part = record p.part { left = less.0; faults = p.part.faults ++ fault ∷ [] } in
      let answered : Part = record p.part { left = less.0; faults = p.part.faults ++ [] } in
      let at_depth : depth ≡ f.0.depth + 1 = deep ∙ (ap depth_below t.same.folder ∙ ap depth_below f.1) in
      let is_fault : IsFaultIn p.part.folder fault p.part.left less.0 = rw (p.top.folder ∙ f.1, at_depth) (inr (inl (refl, less.2))) in
      let T : Tree → Type 0 = λ tree. IsPlan tree (manner_of tree inside.options sorts by inside.root) chain (entries_due now new) less.0 in
      let F : Option Folder → Type 0 = λ g. IsPlan now.tree (manner_of now.tree inside.options sorts by inside.root) (with_folder g (chain_above [] xs)) (entries_due now new) less.0 in
      let planned = subst F (sym t.same.folder) (subst T (sym t.tree.tree) less.1) in
      let lower = parts_later s now inside.options sorts by inside.root xs p.below t.tree.tree (all_same_reads s now old.entries xs split.2 t.others) p.lower in
      let m_now = manner_of now.tree inside.options sorts by inside.root in
      record {
        cuts = 1;
        new = p.below ++ answered ∷ [];
        is_step = record {
          mid = p.below ++ met ∷ [];
          moves = cut none (record { below = p.below; part = p.part; above = []; left = less.0; fault = fault; was = p.rest_is; met = is_fault; now = refl });
          answers = inl (record { below = p.below; part = met; above = []; before = p.part.faults; fault = fault; after = []; was = refl; due = refl; given = refl; now = refl });
        };
        left = record {
          parts = parts_snoc now m_now inside.root [] xs new p.below answered lower (record {
            folder = p.top.folder ∙ sym t.same.folder;
            first = p.top.first ∙ ap (option_map item_of) (sym t.same.first);
            due = due_of_plan now m_now inside.root (with_folder new.folder (chain_above [] xs)) new.folder new.entries less.0 (same_read old.entries new.entries t.same.entries read) t.readable planned;
            faults = append-nil p.part.faults ∙ (p.top.faults ∙ ap (map fault_of) (sym t.same.faults));
          });
          device = λ on. inr (take_device s now sorts by inside old new rest t (begun_open xs old is_open) h on);
        };
        allowed = allowed_one s.faults now.faults risen;
        enters = λ entry given. absurd (cc given);
      }

  -- ---- taking and meeting, one after the other

  earlier_turn : (s now last : DiskState) (sorts : Bool) (by : DirEntry → DirEntry → Ordering) (rest : Rest) (inside : Inside S) (answer : Option Item) → s.faults ≤ now.faults → now.faults ≤ last.faults
      → TurnsTo now sorts by rest answer last inside → TurnsTo s sorts by rest answer last inside
  earlier_turn s now last sorts by rest inside None le lf m = record { cuts = m.cuts; new = m.new; moves = m.moves; left = m.left; allowed = allowed_before m.cuts s.faults now.faults last.faults le m.allowed }
  earlier_turn s now last sorts by rest inside (Some item) le lf m = record { cuts = m.cuts; new = m.new; is_step = m.is_step; left = m.left; allowed = allowed_before m.cuts s.faults now.faults last.faults le m.allowed; enters = m.enters }

  pub turned_result : {E : Type 0} (s now last : DiskState) (sorts : Bool) (by : DirEntry → DirEntry → Ordering) (rest : Rest) (inside : Inside S) (result : Result (Option Item) E) → s.faults ≤ now.faults → now.faults ≤ last.faults
      → IfOk result (λ answer. TurnsTo now sorts by rest answer last inside) → IfOk result (λ answer. TurnsTo s sorts by rest answer last inside)
  turned_result s now last sorts by rest inside (Ok answer) le lf h = earlier_turn s now last sorts by rest inside answer le lf h
  turned_result s now last sorts by rest inside (Err error) le lf h = h

pub little_result : {A E : Type 0} (result : Result A E) (a b c : ℕ) → b + 5 ≤ c → OnOk result (a ≤ b + 4) → OnOk result (a < c)
little_result (Ok answer) a b c le h = omega (arith, le, h)
little_result (Err error) a b c le h = h
