-- The parts of a step, as moves of what is left of a walk.
use Rattle.std.proofs.Common.{◌≡◌, ◌+◌, ◌≤◌, ◌⊎◌, ℕ, suc, Bool, List, [], ◌∷◌, ◌++◌, length, map, Option, Some, None, Err, Ok, refl, sym, subst, ◌∙◌, ap, arith, inl, inr, append-nil}
use Rattle.std.specs.Prelude.{IsTrue, option_map}
use Rattle.std.proofs.lemmas.List.{map-append}
use Rattle.std.specs.declared.cmp.Ordering.{Ordering}
use Rattle.sd_io.specs.Count.{HasRisen}
use Rattle.sd_io.specs.Tree.{Tree}
use Rattle.sd_io.specs.Disk.{DiskState}
use Rattle.walk_rest.specs.declared.entry.DirEntry.{DirEntry}
use Rattle.walk_rest.specs.declared.error.Error.TheVariants as error
use Rattle.walk_rest.specs.declared.options.Options.{Options}
use Rattle.walk_rest.specs.declared.level.Folder.{Folder}
use Rattle.walk_rest.specs.declared.level.Due.{Due}
use Rattle.walk_rest.specs.declared.level.Level.{Level}
use Rattle.walk_rest.specs.declared.level.Entries.{Entries}
use Rattle.walk_rest.specs.declared.level.Entries.TheVariants.{Unread, Open, Kept}
use Rattle.walk_rest.specs.Plan.{Item, Plan, Manner, past, into}
use Rattle.walk_rest.specs.Listing.{manner_of, device_to}
use Rattle.walk_rest.specs.Rest.{Part, Rest, Moves, none, cut, come, leave}
use Rattle.walk_rest.specs.Level.{HasPart, HasParts, IsDue, IsAllowed, AllSameReads, chain_above, with_folder, fault_of, item_of}
use Rattle.walk_rest.proofs.MoveLemmas.{Parted, parts_parted, parts_snoc, parts_on, skipped_unread}
use Rattle.walk_steps.specs.declared.inside.Inside.{Inside}
use Rattle.walk_steps.specs.Inside.{HasRest, IsRead, IsUnbegun, KnowsDevice, SameWalk, levels_of, top_levels, with_top}
use Rattle.walk_steps.specs.Sound.{AreSound, SameOtherThan}
use Rattle.walk_steps.specs.Steps.{IsNextInto, MovesTo, StepsTo, SkipsTo}
use Rattle.walk_steps.proofs.leave.SoundLemmas.{all_same_reads, sound_split}

-- ---- counts

pub allowed_on : (n a b c : ℕ) → b ≤ c → IsAllowed n a b → IsAllowed n a c
allowed_on n a b c le (inl h) = inl (omega arith)
allowed_on n a b c le (inr h) = inr (omega arith)

pub allowed_none : (a b : ℕ) → a ≤ b → IsAllowed 0 a b
allowed_none a b le = inl (omega arith)

pub allowed_one : (a b : ℕ) → HasRisen a b → IsAllowed 1 a b
allowed_one a b (inl h) = inl (omega arith)
allowed_one a b (inr h) = inr h

pub allowed_both : (n k a b c : ℕ) → a ≤ b → b ≤ c → IsAllowed n a b → IsAllowed k b c → IsAllowed (n + k) a c
allowed_both n k a b c le lf (inl h) (inl i) = inl (omega arith)
allowed_both n k a b c le lf (inl h) (inr i) = inr i
allowed_both n k a b c le lf (inr h) i = inr (omega arith)

-- ---- moves one after another

pub moves_on : (n k : ℕ) (a b c : Rest) → Moves n a b → Moves k b c → Moves (n + k) a c
moves_on n k a b c m none = let e : n + 0 ≡ n = omega arith in rw e m
moves_on n k a b c m (cut {n = j} {mid = mid} i d) = let e : n + suc j ≡ suc (n + j) = omega arith in rw e (cut (moves_on n j a b mid m i) d)
moves_on n k a b c m (come {mid = mid} i d) = come (moves_on n k a b mid m i) d
moves_on n k a b c m (leave {mid = mid} i d) = leave (moves_on n k a b mid m i) d

-- the parts in another state with the same tree, where the lists stay
pub parts_later : (s now : DiskState) (options : Options) (sorts : Bool) (by : DirEntry → DirEntry → Ordering) (root : List ℕ) (levels : List Level) (rest : Rest) → now.tree ≡ s.tree → AllSameReads s now levels
    → HasParts s (manner_of s.tree options sorts by root) root [] levels rest → HasParts now (manner_of now.tree options sorts by root) root [] levels rest
parts_later s now options sorts by root levels rest same reads h =
    let P : Tree → Type 0 = λ t. HasParts now (manner_of t options sorts by root) root [] levels rest in
    subst P (sym same) (parts_on s now (manner_of s.tree options sorts by root) root [] levels rest same reads h)

no_one : (left : List Level) (a b : Level) → IsUnbegun ((left ++ a ∷ []) ++ b ∷ []) → ⊥
no_one [] a b u = u
no_one (x ∷ []) a b u = u
no_one (x ∷ y ∷ left) a b u = u

unbegun_relevel : (xs : List Level) (old new : Level) → new.folder ≡ old.folder → new.entries ≡ old.entries → IsUnbegun (xs ++ old ∷ []) → IsUnbegun (xs ++ new ∷ [])
unbegun_relevel [] old new folder entries u = (folder ∙ u.0, rw entries u.1)
unbegun_relevel (x ∷ []) old new folder entries u = u
unbegun_relevel (x ∷ y ∷ xs) old new folder entries u = u

pub no_items : {X : Type 0} (xs : List X) → length xs ≡ 0 → xs ≡ []
no_items [] e = refl
no_items (x ∷ xs) e = absurd (omega (arith, e))

-- ---- what is due next

abbrev last_or : {X : Type 0} → X → List X → X
last_or x [] = x
last_or x (y ∷ ys) = last_or y ys

last_snoc : {X : Type 0} (y : X) (xs : List X) (x : X) → last_or y (xs ++ x ∷ []) ≡ x
last_snoc y [] x = refl
last_snoc y (z ∷ xs) x = last_snoc z xs x

same_last : {X : Type 0} (xs ys : List X) (x y : X) → xs ++ x ∷ [] ≡ ys ++ y ∷ [] → x ≡ y
same_last xs ys x y e = sym (last_snoc x xs x) ∙ (ap (last_or x) e ∙ last_snoc x ys y)

first_not_into : (below : List Part) (part : Part) (item : Item) (rest : Rest) → rest ≡ below ++ part ∷ [] → part.first ≡ Some item → IsNextInto rest → ⊥
first_not_into below part item rest is first next =
    let same : part ≡ next.part = same_last below next.below part next.part (sym is ∙ next.is) in
    let both : Some item ≡ None = sym first ∙ (ap (λ (p : Part). p.first) same ∙ next.first) in
    cc both

pub past_not_into : (below : List Part) (part : Part) (path : List ℕ) (item : Option Item) (plan : Plan) (rest : Rest) → rest ≡ below ++ part ∷ [] → part.left ≡ past path item plan → IsNextInto rest → ⊥
past_not_into below part path item plan rest is left next =
    let same : part ≡ next.part = same_last below next.below part next.part (sym is ∙ next.is) in
    let both : past path item plan ≡ into next.folder next.before next.contents next.after next.plan = sym left ∙ (ap (λ (p : Part). p.left) same ∙ next.next) in
    cc both

module _ {S : Type 0} where
  pub knows_at : (tree : Tree) (inside : Inside S) (levels : List Level) → levels_of inside ≡ levels → KnowsDevice tree inside → IsTrue inside.options.same_file_system → IsUnbegun levels ⊎ (inside.device ≡ device_to tree inside.root)
  knows_at tree inside levels e h on = elim (h on) [ inl u ↦ inl (subst IsUnbegun e u) | inr k ↦ inr k ]

  -- ---- what is left, by the levels

  pub rest_of : (s : DiskState) (sorts : Bool) (by : DirEntry → DirEntry → Ordering) (old new : Inside S) (levels : List Level) (rest : Rest) → SameWalk old new → levels_of new ≡ levels
      → HasParts s (manner_of s.tree old.options sorts by old.root) old.root [] levels rest
      → (IsTrue old.options.same_file_system → IsUnbegun levels ⊎ (new.device ≡ device_to s.tree old.root)) → HasRest s sorts by new rest
  rest_of s sorts by old new levels rest same e h k = record {
    parts = rw (same.options, same.root, e) h;
    device = rw (same.options, same.root, e) k;
  }

  pub rest_parts : (s : DiskState) (sorts : Bool) (by : DirEntry → DirEntry → Ordering) (inside : Inside S) (levels : List Level) (rest : Rest) → levels_of inside ≡ levels → HasRest s sorts by inside rest
      → HasParts s (manner_of s.tree inside.options sorts by inside.root) inside.root [] levels rest
  rest_parts s sorts by inside levels rest e h = let P : List Level → Type 0 = λ ls. HasParts s (manner_of s.tree inside.options sorts by inside.root) inside.root [] ls rest in subst P e h.parts

  pub top_is : (inside : Inside S) (level : Level) → inside.top ≡ Some level → levels_of inside ≡ inside.stack.items ++ level ∷ []
  top_is inside level e = ap (λ (t : Option Level). inside.stack.items ++ top_levels t) e

  pub knows_begun : (tree : Tree) (inside : Inside S) → KnowsDevice tree inside → (IsUnbegun (levels_of inside) → ⊥) → IsTrue inside.options.same_file_system → inside.device ≡ device_to tree inside.root
  knows_begun tree inside h begun on = elim (h on) [ inl u ↦ absurd (begun u) | inr e ↦ e ]

  -- ---- leaving the topmost directory

  pub skipped : (s last : DiskState) (sorts : Bool) (by : DirEntry → DirEntry → Ordering) (old new : Inside S) (left : List Level) (below level : Level) (rest : Rest)
      → SameWalk old new → new.device ≡ old.device → levels_of old ≡ (left ++ below ∷ []) ++ level ∷ [] → levels_of new ≡ left ++ below ∷ [] → AreSound s ((left ++ below ∷ []) ++ level ∷ [])
      → SameOtherThan s level.entries last → last.tree ≡ s.tree → HasRest s sorts by old rest → SkipsTo sorts by rest last new
  skipped s last sorts by old new left below level rest same device was is sound others tree h =
      let m = manner_of s.tree old.options sorts by old.root in
      let parts = rest_parts s sorts by old ((left ++ below ∷ []) ++ level ∷ []) rest was h in
      let r = skipped_unread s m old.root [] left below level rest parts in
      let clear = (sound_split s (left ++ below ∷ []) level sound).2 in
      let now = parts_later s last old.options sorts by old.root (left ++ below ∷ []) r.0 tree (all_same_reads s last level.entries (left ++ below ∷ []) clear others) r.2 in
      record {
        new = r.0;
        skips = r.1;
        left = rest_of last sorts by old new (left ++ below ∷ []) r.0 same is now (λ on. inr (device ∙ (knows_begun s.tree old h.device (λ u. no_one left below level (unbegun_at was u)) on ∙ ap (λ t. device_to t old.root) (sym tree))));
      }
    where
      unbegun_at : {xs ys : List Level} → xs ≡ ys → IsUnbegun xs → IsUnbegun ys
      unbegun_at e u = subst IsUnbegun e u

  pub skipped_none : (s : DiskState) (sorts : Bool) (by : DirEntry → DirEntry → Ordering) (inside : Inside S) (level : Level) (rest : Rest) → levels_of inside ≡ level ∷ [] → HasRest s sorts by inside rest → SkipsTo sorts by rest s inside
  skipped_none s sorts by inside level rest e h = at rest (rest_parts s sorts by inside (level ∷ []) rest e h) h
    where
      at : (r : Rest) → HasParts s (manner_of s.tree inside.options sorts by inside.root) inside.root [] (level ∷ []) r → HasRest s sorts by inside r → SkipsTo sorts by r s inside
      at [] p k = absurd p
      at (p ∷ []) q k = record { new = p ∷ []; skips = refl; left = k }
      at (p ∷ q ∷ ps) k l = absurd k.1

  pub skipped_nothing : (s : DiskState) (sorts : Bool) (by : DirEntry → DirEntry → Ordering) (inside : Inside S) (rest : Rest) → levels_of inside ≡ [] → HasRest s sorts by inside rest → SkipsTo sorts by rest s inside
  skipped_nothing s sorts by inside rest e h = at rest (rest_parts s sorts by inside [] rest e h) h
    where
      at : (r : Rest) → HasParts s (manner_of s.tree inside.options sorts by inside.root) inside.root [] [] r → HasRest s sorts by inside r → SkipsTo sorts by r s inside
      at [] p k = record { new = []; skips = refl; left = k }
      at (p ∷ ps) q k = absurd q

module _ {S : Type 0} where
  -- ---- one turn after another

  pub moves_more : (s0 s now : DiskState) (sorts : Bool) (by : DirEntry → DirEntry → Ordering) (mid new : Inside S) (rest : Rest) → s0.faults ≤ s.faults → s.faults ≤ now.faults
      → (m : MovesTo s0 sorts by rest s mid) → MovesTo s sorts by m.new now new → MovesTo s0 sorts by rest now new
  moves_more s0 s now sorts by mid new rest le lf m k = record {
    cuts = m.cuts + k.cuts;
    new = k.new;
    moves = moves_on m.cuts k.cuts rest m.new k.new m.moves k.moves;
    left = k.left;
    allowed = allowed_both m.cuts k.cuts s0.faults s.faults now.faults le lf m.allowed k.allowed;
  }

  pub moves_last : (s0 s now : DiskState) (sorts : Bool) (by : DirEntry → DirEntry → Ordering) (mid new : Inside S) (rest : Rest) (answer : Option Item) → s0.faults ≤ s.faults → s.faults ≤ now.faults
      → (m : MovesTo s0 sorts by rest s mid) → StepsTo s sorts by m.new answer now new → StepsTo s0 sorts by rest answer now new
  moves_last s0 s now sorts by mid new rest answer le lf m k = record {
    cuts = m.cuts + k.cuts;
    new = k.new;
    is_step = record { mid = k.is_step.mid; moves = moves_on m.cuts k.cuts rest m.new k.is_step.mid m.moves k.is_step.moves; answers = k.is_step.answers };
    left = k.left;
    allowed = allowed_both m.cuts k.cuts s0.faults s.faults now.faults le lf m.allowed k.allowed;
    enters = k.enters;
  }

  pub moves_none : (s : DiskState) (sorts : Bool) (by : DirEntry → DirEntry → Ordering) (inside : Inside S) (rest : Rest) → HasRest s sorts by inside rest → MovesTo s sorts by rest s inside
  moves_none s sorts by inside rest h = record { cuts = 0; new = rest; moves = none; left = h; allowed = allowed_none s.faults s.faults (omega arith) }

  -- ---- the same levels in other memory

  pub rest_retop : (s : DiskState) (sorts : Bool) (by : DirEntry → DirEntry → Ordering) (old new : Inside S) (rest : Rest) → SameWalk old new → new.device ≡ old.device → levels_of new ≡ levels_of old → HasRest s sorts by old rest → HasRest s sorts by new rest
  rest_retop s sorts by old new rest same device e h =
      rest_of s sorts by old new (levels_of old) rest same e h.parts (λ on. elim (h.device on) [ inl u ↦ inl u | inr k ↦ inr (device ∙ k) ])

  -- nothing is left
  pub none_left : (s0 s : DiskState) (sorts : Bool) (by : DirEntry → DirEntry → Ordering) (inside new : Inside S) (rest : Rest) → levels_of inside ≡ [] → levels_of new ≡ [] → SameWalk inside new → new.device ≡ inside.device
      → MovesTo s0 sorts by rest s inside → StepsTo s0 sorts by rest None s new
  none_left s0 s sorts by inside new rest e f same device m =
      let parts = rest_parts s sorts by inside [] m.new e m.left in
      let nothing = at m.new parts in
      record {
        cuts = m.cuts;
        new = [];
        is_step = record { mid = m.new; moves = m.moves; answers = (nothing, refl) };
        left = let P : Rest → Type 0 = λ r. HasRest s sorts by new r in subst P nothing (rest_retop s sorts by inside new m.new same device (f ∙ sym e) m.left);
        allowed = m.allowed;
        enters = λ entry is. absurd (cc is);
      }
    where
      at : (r : Rest) → HasParts s (manner_of s.tree inside.options sorts by inside.root) inside.root [] [] r → r ≡ []
      at [] h = refl
      at (p ∷ ps) h = absurd h

  -- ---- the topmost level and its part

  abbrev pub chain_on : Inside S → Level → List Folder
  chain_on inside level = with_folder level.folder (chain_above [] inside.stack.items)

  pub top_parts : (s : DiskState) (sorts : Bool) (by : DirEntry → DirEntry → Ordering) (inside : Inside S) (level : Level) (rest : Rest) → HasRest s sorts by (with_top inside level) rest
      → Parted s (manner_of s.tree inside.options sorts by inside.root) inside.root [] inside.stack.items level rest
  top_parts s sorts by inside level rest h = parts_parted s (manner_of s.tree inside.options sorts by inside.root) inside.root [] inside.stack.items level rest h.parts

  pub top_rest : (s : DiskState) (sorts : Bool) (by : DirEntry → DirEntry → Ordering) (inside : Inside S) (level : Level) (below : List Part) (part : Part)
      → HasParts s (manner_of s.tree inside.options sorts by inside.root) inside.root [] inside.stack.items below
      → HasPart s (manner_of s.tree inside.options sorts by inside.root) inside.root (chain_on inside level) level part
      → KnowsDevice s.tree (with_top inside level) → HasRest s sorts by (with_top inside level) (below ++ part ∷ [])
  top_rest s sorts by inside level below part h k d = record {
    parts = parts_snoc s (manner_of s.tree inside.options sorts by inside.root) inside.root [] inside.stack.items level below part h k;
    device = d;
  }

  pub knows_relevel : (tree : Tree) (inside : Inside S) (old new : Level) → new.folder ≡ old.folder → new.entries ≡ old.entries → KnowsDevice tree (with_top inside old) → KnowsDevice tree (with_top inside new)
  knows_relevel tree inside old new f e h on = elim (h on) [ inl u ↦ inl (unbegun_relevel inside.stack.items old new f e u) | inr k ↦ inr k ]

  -- what is due of its entries stays
  due_relevel : (s : DiskState) (m : Manner) (root : List ℕ) (inside : Inside S) (old new : Level) (plan : Plan) → new.folder ≡ old.folder → new.entries ≡ old.entries
      → IsDue s m root (chain_on inside old) old.folder old.entries plan → IsDue s m root (chain_on inside new) new.folder new.entries plan
  due_relevel s m root inside old new plan folder entries h = rw (folder, entries) h

  -- ---- what is due of it besides its entries

  pub fault_turn : (s : DiskState) (sorts : Bool) (by : DirEntry → DirEntry → Ordering) (inside : Inside S) (old new : Level) (due : Due) (rest : Rest) → HasRest s sorts by (with_top inside old) rest
      → old.faults.items ≡ new.faults.items ++ due ∷ [] → new.folder ≡ old.folder → new.first ≡ old.first → new.entries ≡ old.entries
      → StepsTo s sorts by rest (Some (Err (error.Disk due.path due.depth))) s (with_top inside new)
  fault_turn s sorts by inside old new due rest h popped folder first entries =
      let m = manner_of s.tree inside.options sorts by inside.root in
      let p = top_parts s sorts by inside old rest h in
      let left = map fault_of new.faults.items in
      let answered : Part = record p.part { faults = left ++ [] } in
      record {
        cuts = 0;
        new = p.below ++ answered ∷ [];
        is_step = record {
          mid = rest;
          moves = none;
          answers = inl (record {
            below = p.below;
            part = p.part;
            above = [];
            before = left;
            fault = fault_of due;
            after = [];
            was = p.rest_is;
            due = p.top.faults ∙ (ap (map fault_of) popped ∙ map-append fault_of new.faults.items (due ∷ []));
            given = refl;
            now = refl;
          });
        };
        left = top_rest s sorts by inside new p.below answered p.lower (record {
          folder = p.top.folder ∙ sym folder;
          first = p.top.first ∙ ap (option_map item_of) (sym first);
          due = due_relevel s m inside.root inside old new p.part.left folder entries p.top.due;
          faults = append-nil left;
        }) (knows_relevel s.tree inside old new folder entries h.device);
        allowed = allowed_none s.faults s.faults (omega arith);
        enters = λ entry is. absurd (cc is);
      }

  pub first_turn : (s : DiskState) (sorts : Bool) (by : DirEntry → DirEntry → Ordering) (inside : Inside S) (old new : Level) (entry : DirEntry) (rest : Rest) → HasRest s sorts by (with_top inside old) rest
      → old.faults.items ≡ [] → old.first ≡ Some entry → (old.entries ≡ Unread → ⊥) → new.folder ≡ old.folder → new.first ≡ None → new.entries ≡ old.entries → new.faults.items ≡ []
      → StepsTo s sorts by rest (Some (Ok entry)) s (with_top inside new)
  first_turn s sorts by inside old new entry rest h faultless was read folder now entries none_due =
      let m = manner_of s.tree inside.options sorts by inside.root in
      let p = top_parts s sorts by inside old rest h in
      let answered : Part = record p.part { first = None } in
      let due : p.part.first ≡ Some (item_of entry) = p.top.first ∙ ap (option_map item_of) was in
      record {
        cuts = 0;
        new = p.below ++ answered ∷ [];
        is_step = record {
          mid = rest;
          moves = none;
          answers = inr (record { below = p.below; part = p.part; was = p.rest_is; faultless = p.top.faults ∙ ap (map fault_of) faultless; comes = rw due (refl, refl) });
        };
        left = top_rest s sorts by inside new p.below answered p.lower (record {
          folder = p.top.folder ∙ sym folder;
          first = sym (ap (option_map item_of) now);
          due = due_relevel s m inside.root inside old new p.part.left folder entries p.top.due;
          faults = p.top.faults ∙ (ap (map fault_of) (faultless ∙ sym none_due));
        }) (knows_relevel s.tree inside old new folder entries h.device);
        allowed = allowed_none s.faults s.faults (omega arith);
        enters = λ other is. (
          λ next. absurd (first_not_into p.below p.part (item_of entry) rest p.rest_is due next),
          λ has. absurd (read (sym entries ∙ (let same : new ≡ has.level = cc has.on_top in ap (λ (l : Level). l.entries) same ∙ has.unread))),
        );
      }

  -- the same level in other memory
  pub rest_relevel : (s : DiskState) (sorts : Bool) (by : DirEntry → DirEntry → Ordering) (inside : Inside S) (old new : Level) (rest : Rest) → new.folder ≡ old.folder → new.first ≡ old.first → new.entries ≡ old.entries
      → new.faults.items ≡ old.faults.items → HasRest s sorts by (with_top inside old) rest → HasRest s sorts by (with_top inside new) rest
  rest_relevel s sorts by inside old new rest folder first entries faults h =
      let m = manner_of s.tree inside.options sorts by inside.root in
      let p = top_parts s sorts by inside old rest h in
      rw p.rest_is (top_rest s sorts by inside new p.below p.part p.lower (record {
        folder = p.top.folder ∙ sym folder;
        first = p.top.first ∙ ap (option_map item_of) (sym first);
        due = due_relevel s m inside.root inside old new p.part.left folder entries p.top.due;
        faults = p.top.faults ∙ ap (map fault_of) (sym faults);
      }) (knows_relevel s.tree inside old new folder entries h.device))

pub unread_of : (e : Entries) → (IsRead e → ⊥) → e ≡ Unread
unread_of Unread h = refl
unread_of (Open list) h = absurd (h tt)
unread_of (Kept kept) h = absurd (h tt)
