-- A directory is read for the first time.
use Rattle.std.proofs.Common.{◌≡◌, ◌⊎◌, ◌+◌, ◌<◌, ◌≤◌, ℕ, max, Bool, true, false, cond, List, [], ◌∷◌, ◌++◌, length, map, Option, Some, None, Result, Ok, Err, refl, sym, subst, ap, ◌∙◌, inl, inr, arith, append-nil, append_assoc}
use Rattle.std.specs.Prelude.{IsErr, IsSome, IsTrue, OnOk, option_map}
use Rattle.std.proofs.lemmas.Bool.{cases_order}
use Rattle.std.specs.List.{filter}
use Rattle.std.specs.declared.cmp.Ordering.{Ordering}
use Rattle.sd_io.specs.Tree.{Tree}
use Rattle.sd_io.specs.Disk.{DiskState, SameLists, SameTree}
use Rattle.sd_io.specs.Lists.{IsOpen, ListsDirectory, directory_of}
use Rattle.sd_io.specs.declared.meta.RawEntry.{RawEntry}
use Rattle.walk_rest.specs.declared.entry.DirEntry.{DirEntry}
use Rattle.walk_rest.specs.declared.options.Options.{Options}
use Rattle.walk_rest.specs.declared.level.Due.{Due}
use Rattle.walk_rest.specs.declared.level.Folder.{Folder}
use Rattle.walk_rest.specs.declared.level.Entries.{Entries}
use Rattle.walk_rest.specs.declared.level.Entries.TheVariants.{Unread, Open, Kept}
use Rattle.walk_rest.specs.declared.level.Level.{Level}
use Rattle.walk_rest.specs.Plan.{Plan, Manner, IsPlan, IsContents, ListsNames, entry_below, in_order}
use Rattle.walk_rest.specs.Listing.{device_to, manner_of}
use Rattle.walk_rest.specs.Rest.{Moves, Part, Rest}
use Rattle.walk_rest.specs.Level.{AllSameReads, HasParts, IsDue, LeavesLists, ReadsFolder, chain_above, fault_of, item_of, left_in, read_part, with_folder}
use Rattle.walk_rest.proofs.ReadLemmas.{sublist_same}
use Rattle.walk_rest.proofs.FolderLemmas.{is_there, read_not_opened}
use Rattle.walk_rest.proofs.PlanLemmas.{names_same}
use Rattle.walk_rest.proofs.MoveLemmas.{list_kept, part_read}
use Rattle.walk_steps.specs.declared.inside.Inside.{Inside}
use Rattle.walk_steps.specs.Inside.{HasRest, IsRead, IsUnbegun, KnowsDevice, SameWalk, entries_in, levels_of, top_levels, with_top}
use Rattle.walk_steps.specs.Lists.{KeepsOldest, OpensFolder}
use Rattle.walk_steps.specs.Sound.{AreSound, AreRead, AreShallow, IsApart, IsReadable, IsShallow, IsSound, IsSoundBelow, KeepsWalk, SameOtherThan, SameOthers, StaysWithin, held_limit, open_in, open_limit, opens}
use Rattle.walk_steps.specs.Steps.{LiesUnread, MovesTo}
use Rattle.walk_steps.specs.Work.{left_to_do, weight_first, weight_in, weight_root, work_in}
use Rattle.walk_steps.proofs.leave.SoundLemmas.{Clear, Differ, clear_unread, opens_snoc, sound_join, sound_kept, sound_unread, weight_kept}
use Rattle.walk_steps.proofs.leave.WithinLemmas.{work_snoc}
use Rattle.walk_steps.proofs.leave.OthersLemmas.{apart_same, apart_unread, fresh_read, others_lists, others_top, shallow_join}
use Rattle.walk_steps.proofs.leave.SoundLemmas.{apart_front}
use Rattle.walk_steps.proofs.next.StepLemmas.{parts_later, rest_of, top_parts, top_rest}

-- ---- how many are open

abbrev pub is_open_list : Entries → Bool
is_open_list Unread = false
is_open_list (Open list) = true
is_open_list (Kept kept) = false

pub counted : (levels : List Level) → length (filter (λ (level : Level). is_open_list level.entries) levels) ≡ opens levels
counted [] = refl
counted (x ∷ levels) = by x.entries (counted levels)
  where
    by : (e : Entries) → length (filter (λ (level : Level). is_open_list level.entries) levels) ≡ opens levels
        → length (cond (is_open_list e) (x ∷ filter (λ (level : Level). is_open_list level.entries) levels) (filter (λ (level : Level). is_open_list level.entries) levels)) ≡ open_in e + opens levels
    by Unread h = omega (arith, h)
    by (Open list) h = omega (arith, h)
    by (Kept kept) h = omega (arith, h)

-- ---- a list that was opened

-- all entries of the directory are to come
pub opened_all : (old new : DiskState) (folder : Folder) (number : ℕ) (listed : List RawEntry) → ListsNames old.tree folder.path listed → ListsDirectory old folder.path number new
    → map (entry_below folder) (left_in (new.open_list number)) ≡ map (entry_below folder) listed
opened_all old new folder number listed names lists =
    let told : ListsNames old.tree folder.path lists.left = record { folder = lists.folder; leads = lists.leads; told = lists.entries } in
    ap (λ o. map (entry_below folder) (left_in o)) lists.opened ∙ ap (map (entry_below folder)) (names_same old.tree folder.path lists.left listed told names)

-- ---- the root's device

has_begun : (levels : List Level) (level : Level) (folder : Folder) → level.folder ≡ Some folder → IsUnbegun (levels ++ level ∷ []) → ⊥
has_begun [] level folder e u = let none = u.0 in cc
has_begun (x ∷ []) level folder e u = u
has_begun (x ∷ y ∷ levels) level folder e u = u

module _ {S : Type 0} where
  pub device_known : (tree : Tree) (inside : Inside S) (level : Level) (folder : Folder) → level.folder ≡ Some folder → KnowsDevice tree (with_top inside level) → IsTrue inside.options.same_file_system → inside.device ≡ device_to tree inside.root
  device_known tree inside level folder e h on = elim (h on) [ inl u ↦ absurd (has_begun inside.stack.items level folder e u) | inr k ↦ k ]

-- ---- the oldest open list is kept

pub on_ok : {T E : Type 0} {P Q : Type 0} (result : Result T E) → (P → Q) → OnOk result P → OnOk result Q
on_ok (Ok x) f h = f h
on_ok (Err e) f h = tt

reads_snoc : (s now : DiskState) (levels : List Level) (level : Level) → level.entries ≡ Unread → AllSameReads s now levels → AllSameReads s now (levels ++ level ∷ [])
reads_snoc s now [] level unread h = (rw unread tt, tt)
reads_snoc s now (x ∷ levels) level unread h = (h.0, reads_snoc s now levels level unread h.1)

module _ {S : Type 0} where
  pub room_made : (s now : DiskState) (sorts : Bool) (by : DirEntry → DirEntry → Ordering) (inside new : Inside S) (lying : Level) (folder : Folder) (rest : Rest) → SameWalk inside new → new.device ≡ inside.device
      → LiesUnread lying (Some folder) → HasRest s sorts by (with_top inside lying) rest → KeepsOldest s inside.stack.items now new.stack.items → MovesTo s sorts by rest now (with_top new lying)
  room_made s now sorts by inside new lying folder rest same device lies h k =
      let o = inside.options in
      let root = inside.root in
      let m = manner_of s.tree o sorts by root in
      let was : inside.stack.items ++ lying ∷ [] ≡ k.lower ++ k.opened ∷ (k.upper ++ lying ∷ []) = ap (λ (ls : List Level). ls ++ lying ∷ []) k.was ∙ append_assoc k.lower (k.opened ∷ k.upper) (lying ∷ []) in
      let now_are : new.stack.items ++ lying ∷ [] ≡ k.lower ++ k.kept ∷ (k.upper ++ lying ∷ []) = ap (λ (ls : List Level). ls ++ lying ∷ []) k.now_are ∙ append_assoc k.lower (k.kept ∷ k.upper) (lying ∷ []) in
      let r = list_kept s now m root [] k.lower (k.upper ++ lying ∷ []) k.level.folder k.opened k.kept rest (rw was at h.parts) k.level.folder_is k.is_open k.below (reads_snoc s now k.upper lying lies.unread k.above) k.level.keeps [] in
      let tree = k.level.keeps.tree in
      let parts = subst (λ (t : Tree). HasParts now (manner_of t o sorts by root) root [] (k.lower ++ k.kept ∷ (k.upper ++ lying ∷ [])) r.0) (sym tree) r.2 in
      record {
        cuts = k.level.keeps.cuts;
        new = r.0;
        moves = r.1;
        left = rest_of now sorts by (with_top inside lying) (with_top new lying) (k.lower ++ k.kept ∷ (k.upper ++ lying ∷ [])) r.0 (record { options = same.options; order = same.order; root = same.root }) now_are parts
            (λ on. inr (device ∙ (device_known s.tree inside lying folder lies.folder_is h.device on ∙ ap (λ (t : Tree). device_to t root) (sym tree))));
        allowed = k.level.allowed;
      }

-- ---- a directory was read

unread_due : (s : DiskState) (m : Manner) (root : List ℕ) (chain : List Folder) (given : Option Folder) (e : Entries) (folder : Folder) (plan : Plan) → given ≡ Some folder → e ≡ Unread
    → IsDue s m root (with_folder given chain) given e plan → (inner : List DirEntry) × IsContents s.tree m folder inner × IsPlan s.tree m (folder ∷ chain) inner plan
unread_due s m root chain given e folder plan is unread h =
    let P : Option Folder → Type 0 = λ g. IsDue s m root (with_folder g chain) g e plan in
    let Q : Entries → Type 0 = λ x. IsDue s m root (folder ∷ chain) (Some folder) x plan in
    subst Q unread (subst P is h)

planned_on : (s now : DiskState) (o : Options) (sorts : Bool) (by : DirEntry → DirEntry → Ordering) (root : List ℕ) (chain : List Folder) (given : Option Folder) (folder : Folder) (e : Entries) (plan : Plan)
    → given ≡ Some folder → now.tree ≡ s.tree → IsPlan s.tree (manner_of s.tree o sorts by root) (folder ∷ chain) (entries_in now (Some folder) e) plan
    → IsPlan now.tree (manner_of now.tree o sorts by root) (with_folder given chain) (entries_in now given e) plan
planned_on s now o sorts by root chain given folder e plan is tree h =
    let P : Tree → Type 0 = λ t. IsPlan t (manner_of t o sorts by root) (folder ∷ chain) (entries_in now (Some folder) e) plan in
    let Q : Option Folder → Type 0 = λ g. IsPlan now.tree (manner_of now.tree o sorts by root) (with_folder g chain) (entries_in now g e) plan in
    subst Q (sym is) (subst P (sym tree) h)

due_of_read : (s : DiskState) (m : Manner) (root : List ℕ) (chain : List Folder) (folder : Option Folder) (e : Entries) (plan : Plan) → IsRead e → IsReadable s folder e → IsPlan s.tree m chain (entries_in s folder e) plan
    → IsDue s m root chain folder e plan
due_of_read s m root chain folder Unread plan r k h = absurd r
due_of_read s m root chain None (Open list) plan r k h = absurd k
due_of_read s m root chain (Some f) (Open list) plan r k h = h
due_of_read s m root chain None (Kept kept) plan r k h = h
due_of_read s m root chain (Some f) (Kept kept) plan r k h = h

-- what came of its entries, as of a directory that is read whole; a list that was opened counts as if it had listed them all
pub record ReadsTo (s : DiskState) (folder : Folder) (inner : List DirEntry) (now : DiskState) (level : Level) : Type 0 where
  pub counted : DiskState
  pub due : List Due
  pub none_due : due ≡ []
  pub same : counted.faults ≡ now.faults
  pub reads : ReadsFolder s folder due inner counted level.faults.items (entries_in now (Some folder) level.entries)

module _ {S : Type 0} where
  pub read_moves : (s now : DiskState) (sorts : Bool) (by : DirEntry → DirEntry → Ordering) (inside : Inside S) (lying level : Level) (folder : Folder) (rest : Rest) → LiesUnread lying (Some folder) → HasRest s sorts by (with_top inside lying) rest
      → level.folder ≡ Some folder → level.first ≡ None → IsRead level.entries → IsReadable now level.folder level.entries → now.tree ≡ s.tree → AllSameReads s now inside.stack.items
      → ((inner : List DirEntry) → IsContents s.tree (manner_of s.tree inside.options sorts by inside.root) folder inner → ReadsTo s folder inner now level) → MovesTo s sorts by rest now (with_top inside level)
  read_moves s now sorts by inside lying level folder rest lies h is first read readable tree stays reads =
      let o = inside.options in
      let root = inside.root in
      let m = manner_of s.tree o sorts by root in
      let chain = chain_above [] inside.stack.items in
      let p = top_parts s sorts by inside lying rest h in
      let due = unread_due s m root chain lying.folder lying.entries folder p.part.left lies.folder_is lies.unread p.top.due in
      let to = reads due.0 due.1 in
      let r = to.reads in
      let c = part_read s to.counted m (folder ∷ chain) p.below p.part folder to.due level.faults.items due.0 (entries_in now (Some folder) level.entries) (p.top.folder ∙ lies.folder_is) due.2 r in
      let part : Part = read_part p.part c.left r.faults in
      let plan = planned_on s now o sorts by root chain level.folder folder level.entries c.left is tree c.planned in
      record {
        cuts = r.cuts;
        new = p.below ++ part ∷ [];
        moves = (let P : Rest → Type 0 = λ before. Moves r.cuts before (p.below ++ part ∷ []) in subst P (sym p.rest_is) c.moves);
        left = top_rest now sorts by inside level p.below part (parts_later s now o sorts by root inside.stack.items p.below tree stays p.lower) (record {
          folder = p.top.folder ∙ (lies.folder_is ∙ sym is);
          first = p.top.first ∙ ap (option_map item_of) (lies.first ∙ sym first);
          due = due_of_read now (manner_of now.tree o sorts by root) root (with_folder level.folder chain) level.folder level.entries c.left read readable plan;
          faults = ap (λ fs. fs ++ r.faults) (p.top.faults ∙ ap (map fault_of) lies.faultless) ∙ sym (r.now_are ∙ ap (λ d. map fault_of d ++ r.faults) to.none_due);
        }) (λ on. inr (device_known s.tree inside lying folder lies.folder_is h.device on ∙ ap (λ (t : Tree). device_to t root) (sym tree)));
        allowed = rw to.same at r.allowed;
      }

-- a directory that lies unread is there, where it is to be read
module _ {S : Type 0} where
  pub unread_there : (s : DiskState) (sorts : Bool) (by : DirEntry → DirEntry → Ordering) (inside : Inside S) (lying : Level) (folder : Folder) (rest : Rest) → LiesUnread lying (Some folder) → HasRest s sorts by (with_top inside lying) rest
      → folder.depth < inside.options.max_depth → IsSome (directory_of s.tree folder.path)
  unread_there s sorts by inside lying folder rest lies h shallow =
      let m = manner_of s.tree inside.options sorts by inside.root in
      let p = top_parts s sorts by inside lying rest h in
      let due = unread_due s m inside.root (chain_above [] inside.stack.items) lying.folder lying.entries folder p.part.left lies.folder_is lies.unread p.top.due in
      is_there s.tree m folder due.0 shallow due.1

-- a list was opened, or it couldn't be
pub opened_to : (s now : DiskState) (m : Manner) (folder : Folder) (inner : List DirEntry) (due : List Due) (level : Level) → m.sorts ≡ false → folder.depth < m.options.max_depth → due ≡ [] → s.faults ≤ now.faults
    → IsContents s.tree m folder inner
    → ((listed : List RawEntry) → ListsNames s.tree folder.path listed → OpensFolder s folder due listed now level.faults.items level.entries) → ReadsTo s folder inner now level
opened_to s now m folder inner due level unsorted shallow none_due later (inl deep) opens = let le = deep.0 in absurd (omega (arith, le, shallow))
opened_to s now m folder inner due level unsorted shallow none_due later (inr l) opens = by (opens l.listed l.names)
  where
    all : inner ≡ map (entry_below folder) l.listed
    all = l.ordered ∙ ap (λ (b : Bool). in_order (record m { sorts = b }) (map (entry_below folder) l.listed)) unsorted

    by : OpensFolder s folder due l.listed now level.faults.items level.entries → ReadsTo s folder inner now level
    by (inl o) =
        let whole : entries_in now (Some folder) level.entries ≡ inner = o.0 ∙ sym all in
        record {
          counted = record now { listed = s.listed + length inner };
          due = due;
          none_due = none_due;
          same = refl;
          reads = record {
            cuts = 0;
            loses = record { left = rw whole (sublist_same inner); whole = λ z. whole };
            faults = [];
            now_are = rw (o.1, none_due) refl;
            comes = inl refl;
            allowed = inl (omega arith);
            listed = λ z. refl;
          };
        }
    by (inr o) = record {
      counted = now;
      due = due;
      none_due = none_due;
      same = refl;
      reads = read_not_opened s now folder due level.faults.items o.2.0 inner _ later o.1 o.2.1 o.2.2 o.0;
    }

-- ---- what stays sound

differ_from : (s : DiskState) (folder : Option Folder) (p e : Entries) → IsReadable s folder p → ((number : ℕ) → IsOpen s number → IsApart number e) → Differ p e
differ_from s folder Unread e r a = tt
differ_from s None (Open list) e r a = absurd r
differ_from s (Some folder) (Open list) e r a = a list.number r.0
differ_from s folder (Kept kept) e r a = tt

pub clear_from : (s : DiskState) (e : Entries) (levels : List Level) → AreSound s levels → ((number : ℕ) → IsOpen s number → IsApart number e) → Clear e levels
clear_from s e [] h a = tt
clear_from s e (x ∷ levels) h a = (differ_from s x.folder x.entries e h.0 a, clear_from s e levels h.2 a)

pub sound_top : (s now : DiskState) (levels : List Level) (level : Level) → AreSound s levels → Clear level.entries levels → SameOtherThan s level.entries now → IsReadable now level.folder level.entries → AreSound now (levels ++ level ∷ [])
sound_top s now levels level h clear same readable = sound_join now levels level (sound_kept s now level.entries levels h clear same) readable clear

module _ {S : Type 0} where
  pub is_sound_top : (now : DiskState) (sorts : Bool) (inside : Inside S) (level : Level) → AreSound now (inside.stack.items ++ level ∷ []) → AreRead inside.stack.items → opens inside.stack.items + open_in level.entries ≤ held_limit sorts inside.options
      → AreShallow inside.options.max_depth inside.stack.items → IsShallow inside.options.max_depth level.folder level.entries → IsRead level.entries → IsSound now sorts (with_top inside level)
  is_sound_top now sorts inside level lists read few below top is_read = record {
    lists = lists;
    read = read;
    rooted = λ none. absurd (cc none);
    few = let a = opens_snoc inside.stack.items level in omega (arith, a, few);
    shallow = shallow_join inside.options.max_depth inside.stack.items level below top;
    fresh = fresh_read level.entries level.first level.faults.items is_read;
  }

  -- a list more was open at most
  pub keeps_top : (s now : DiskState) (inside : Inside S) (lying level : Level) (more : ℕ) → lying.entries ≡ Unread → AreSound now (inside.stack.items ++ level ∷ []) → now.open_count ≡ s.open_count + open_in level.entries
      → now.open_most ≤ max s.open_most (s.open_count + more) → opens inside.stack.items + more ≤ open_limit inside.options → SameTree s now → s.faults ≤ now.faults → s.listed ≤ now.listed
      → SameOtherThan s level.entries now → ((number : ℕ) → IsOpen s number → IsApart number level.entries) → KeepsWalk s (with_top inside lying) now (with_top inside level)
  keeps_top s now inside lying level more unread lists count most room tree faults later same apart =
      let a = opens_snoc inside.stack.items lying in
      let b = opens_snoc inside.stack.items level in
      let none = ap open_in unread in
      record {
        lists = lists;
        within = λ others e. (omega (arith, a, b, none, e, count), omega (arith, a, none, e, most, room));
        others = others_top s now inside.stack.items lying level same apart;
        same = record { options = refl; order = refl; root = refl };
        tree = tree;
        faults = faults;
        later = later;
      }

  -- the same, where nothing came on top
  pub keeps_none : (s now : DiskState) (inside new : Inside S) (lying : Level) (more : ℕ) → lying.entries ≡ Unread → SameWalk inside new → levels_of new ≡ inside.stack.items → AreSound now inside.stack.items → now.open_count ≡ s.open_count
      → now.open_most ≤ max s.open_most (s.open_count + more) → opens inside.stack.items + more ≤ open_limit inside.options → SameTree s now → s.faults ≤ now.faults → s.listed ≤ now.listed
      → ((number : ℕ) → now.open_list number ≡ s.open_list number) → KeepsWalk s (with_top inside lying) now new
  keeps_none s now inside new lying more unread same levels lists count most room tree faults later kept =
      let a = opens_snoc inside.stack.items lying in
      let b = ap opens levels in
      let none = ap open_in unread in
      record {
        lists = rw levels lists;
        within = λ others e. (omega (arith, a, b, none, e, count), omega (arith, a, none, e, most, room));
        others = others_lists s now (inside.stack.items ++ lying ∷ []) (levels_of new) kept (λ number apart. apart_same number inside.stack.items (levels_of new) levels (apart_front number inside.stack.items lying apart).0);
        same = record { options = same.options; order = same.order; root = same.root };
        tree = tree;
        faults = faults;
        later = later;
      }

  -- ---- the work that is left

  pub less_top : (s now : DiskState) (inside : Inside S) (lying level : Level) (folder : Option Folder) → LiesUnread lying folder → Clear level.entries inside.stack.items → SameOtherThan s level.entries now → level.first ≡ None → weight_root level.entries level.folder ≡ 0
      → work_in now [] + (weight_in now level.entries + length level.faults.items) < work_in s [] + 3 → left_to_do now (with_top inside level) < left_to_do s (with_top inside lying)
  less_top s now inside lying level folder lies clear same first known less =
      let a = work_snoc s inside lying in
      let b = work_snoc now inside level in
      let c = weight_kept s now level.entries inside.stack.items clear same in
      let d = ap (weight_in s) lies.unread in
      let e = ap weight_first lies.first in
      let f = ap length lies.faultless in
      let g = ap weight_first first in
      omega (arith, a, b, c, d, e, f, g, known, less)

pub known_folder : (e : Entries) (folder : Folder) → weight_root e (Some folder) ≡ 0
known_folder Unread folder = refl
known_folder (Open list) folder = refl
known_folder (Kept kept) folder = refl

-- ---- how many more were open

pub not_ok : {T E : Type 0} (P : Type 0) (result : Result T E) → IsErr result → OnOk result P
not_ok P (Ok x) h = let e : false ≡ true = h in absurd (cc e)
not_ok P (Err e) h = tt

-- a directory that is read whole has one list more at most, where the walk holds none
pub most_open : (s now : DiskState) (depth : ℕ) (sorts : Bool) (options : Options) (n : ℕ) → (options.max_depth ≤ depth → SameLists s now) → LeavesLists s now → (depth < options.max_depth → sorts ≡ true) → n ≤ held_limit sorts options
    → (more : ℕ) × (now.open_most ≤ max s.open_most (s.open_count + more)) × (n + more ≤ open_limit options)
most_open s now depth sorts options n deep leaves whole few = by (cases_order depth options.max_depth)
  where
    held : sorts ≡ true → n ≤ 0
    held e = let same = ap (λ (b : Bool). held_limit b options) e in omega (arith, same, few)

    held_at_most : (b : Bool) → held_limit b options ≤ open_limit options
    held_at_most true = omega arith
    held_at_most false = omega arith

    unopened : options.max_depth ≤ depth → (more : ℕ) × (now.open_most ≤ max s.open_most (s.open_count + more)) × (n + more ≤ open_limit options)
    unopened le = let same = (deep le).open_most in let most = held_at_most sorts in (0, omega (arith, same), omega (arith, few, most))

    by : (depth ≡ options.max_depth) ⊎ ((depth < options.max_depth) ⊎ (options.max_depth < depth)) → (more : ℕ) × (now.open_most ≤ max s.open_most (s.open_count + more)) × (n + more ≤ open_limit options)
    by (inl e) = unopened (omega (arith, e))
    by (inr (inl l)) = let none = held (whole l) in (1, leaves.open_most, omega (arith, none))
    by (inr (inr l)) = unopened (omega (arith, l))

pub sound_on : (s now : DiskState) (levels : List Level) → AreSound s levels → ((number : ℕ) → now.open_list number ≡ s.open_list number) → AreSound now levels
sound_on s now levels h same = sound_kept s now Unread levels h (clear_unread levels) (λ number apart. same number)

module _ {S : Type 0} where
  pub no_top : (inside : Inside S) → inside.top ≡ None → levels_of inside ≡ inside.stack.items
  no_top inside e = ap (λ (t : Option Level). inside.stack.items ++ top_levels t) e ∙ append-nil inside.stack.items

-- ---- room was made

module _ {S : Type 0} where
  pub same_walk : (inside new : Inside S) → new ≡ record inside { stack = new.stack } → SameWalk inside new
  same_walk inside new same = record {
    options = ap (λ (i : Inside S). i.options) same;
    order = ap (λ (i : Inside S). i.order) same;
    root = ap (λ (i : Inside S). i.root) same;
  }

  pub still_taken : (inside new : Inside S) → new ≡ record inside { stack = new.stack } → inside.top ≡ None → new.top ≡ None
  still_taken inside new same taken = ap (λ (i : Inside S). i.top) same ∙ taken

  pub room_sound : (now : DiskState) (sorts by_now : Bool) (inside new : Inside S) → SameWalk inside new → by_now ≡ sorts → AreSound now new.stack.items → AreRead new.stack.items → opens new.stack.items ≤ opens inside.stack.items
      → opens inside.stack.items ≤ held_limit sorts inside.options → AreShallow inside.options.max_depth new.stack.items → IsSoundBelow now by_now new
  room_sound now sorts by_now inside new same e lists read fewer few shallow = record {
    lists = lists;
    read = read;
    few = let a = ap (held_limit sorts) same.options in let b = ap (λ (s : Bool). held_limit s new.options) e in omega (arith, a, b, fewer, few);
    shallow = rw same.options shallow;
  }

  -- a directory that lies unread stays on top
  pub keeps_room : (s now : DiskState) (inside new : Inside S) (lying : Level) → lying.entries ≡ Unread → SameWalk inside new → AreSound now new.stack.items → StaysWithin 0 s inside.stack.items now new.stack.items
      → SameTree s now → s.faults ≤ now.faults → s.listed ≤ now.listed → SameOthers s inside.stack.items now new.stack.items → KeepsWalk s (with_top inside lying) now (with_top new lying)
  keeps_room s now inside new lying unread same lists within tree faults later kept =
      let a = opens_snoc inside.stack.items lying in
      let b = opens_snoc new.stack.items lying in
      let none = ap open_in unread in
      record {
        lists = sound_unread now new.stack.items lying lists unread;
        within = λ others e. let w = within others (omega (arith, a, none, e)) in let count = w.0 in let most = w.1 in (omega (arith, b, none, count), omega (arith, most));
        others = λ number apart is. let k = kept number (apart_front number inside.stack.items lying apart).0 is in (k.0, apart_unread number new.stack.items lying unread k.1);
        same = record { options = same.options; order = same.order; root = same.root };
        tree = tree;
        faults = faults;
        later = later;
      }

  -- nothing came on top
  pub keeps_refused : (s now : DiskState) (inside new : Inside S) (lying : Level) → lying.entries ≡ Unread → SameWalk inside new → levels_of new ≡ new.stack.items → AreSound now new.stack.items
      → StaysWithin 0 s inside.stack.items now new.stack.items → SameTree s now → s.faults ≤ now.faults → s.listed ≤ now.listed → SameOthers s inside.stack.items now new.stack.items → KeepsWalk s (with_top inside lying) now new
  keeps_refused s now inside new lying unread same levels lists within tree faults later kept =
      let a = opens_snoc inside.stack.items lying in
      let b = ap opens levels in
      let none = ap open_in unread in
      record {
        lists = subst (AreSound now) (sym levels) lists;
        within = λ others e. let w = within others (omega (arith, a, none, e)) in let count = w.0 in let most = w.1 in (omega (arith, b, count), omega (arith, most));
        others = λ number apart is. let k = kept number (apart_front number inside.stack.items lying apart).0 is in (k.0, apart_same number new.stack.items (levels_of new) levels k.1);
        same = record { options = same.options; order = same.order; root = same.root };
        tree = tree;
        faults = faults;
        later = later;
      }

  pub less_room : (s now : DiskState) (inside new : Inside S) (lying : Level) (left : ℕ) → lying.entries ≡ Unread → work_in now new.stack.items ≤ work_in s inside.stack.items → left < left_to_do now (with_top new lying)
      → left < left_to_do s (with_top inside lying)
  less_room s now inside new lying left unread work less =
      let a = work_snoc s inside lying in
      let b = work_snoc now new lying in
      let c = ap (weight_in s) unread in
      let d = ap (weight_in now) unread in
      omega (arith, a, b, c, d, work, less)
