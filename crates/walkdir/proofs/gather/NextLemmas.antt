-- What the next entry of a walk leaves, and whether it is left out.
use Rattle.std.proofs.Common.{◌≡◌, ◌⊎◌, ℕ, Bool, true, false, inl, inr, List, [], ◌∷◌, ◌++◌, length, map, Option, Some, None, Ok, Err, Result, refl, sym, ◌∙◌, ap, subst, arith}
use Rattle.std.specs.Prelude.{◌↔◌, IsTrue, IsErrAnd}
use Rattle.std.proofs.lemmas.Bool.{false≢true}
use Rattle.std.proofs.lemmas.List.{length-map}
use Rattle.sd_io.specs.Disk.{DiskState, SameTree}
use Rattle.sd_io.specs.Tree.{Tree}
use Rattle.sd_io.specs.declared.meta.Kind.{Kind}
use Rattle.sd_io.specs.declared.meta.Kind.TheVariants.{Directory, Link, File, Other}
use Rattle.walk_rest.specs.declared.entry.DirEntry.{DirEntry}
use Rattle.walk_rest.specs.declared.error.Error.{Error}
use Rattle.walk_rest.specs.declared.error.Error.TheVariants as error
use Rattle.walk_rest.specs.declared.level.Entries.{Entries}
use Rattle.walk_rest.specs.declared.level.Entries.TheVariants.{Unread, Open, Kept}
use Rattle.walk_rest.specs.declared.level.Folder.{Folder}
use Rattle.walk_rest.specs.declared.level.Level.{Level}
use Rattle.walk_rest.specs.Level.{HasParts, IsDue, chain_above, with_folder}
use Rattle.walk_rest.specs.Plan.{Comparison, IsContents, IsPlan, Item, Manner, Plan, done, past, into, entry_below, is_directory}
use Rattle.walk_rest.specs.Rest.{Part, Rest, IsStep, HasNoFaults}
use Rattle.walk_rest.proofs.MoveLemmas.{parts_parted}
use Rattle.walk_steps.specs.declared.inside.Inside.{Inside}
use Rattle.walk_steps.specs.Inside.{HasRest, SameWalk, levels_of, manner_in, top_levels}
use Rattle.walk_steps.specs.Listed.{IsToList, IsToListOnTop}
use Rattle.walk_steps.specs.Promises.{GivesNext}
use Rattle.walk_steps.specs.Sound.{AreSound, KeepsWalk, SameOthers, StaysWithin, open_limit}
use Rattle.walk_steps.specs.Steps.{HasUnreadTop, SkipsTo, StepsTo}
use Rattle.walk_steps.proofs.ListedLemmas.{length_order}
use Rattle.walk_steps.proofs.WithinLemmas.{within_more}
use Rattle.walkdir.specs.Steps.{lies_unread}
use Rattle.walkdir.specs.Gather.{IsPlainRest, IsToListNext, given_rest, to_list_rest, width_of, GoesOn, GoesTo, StopsFor}
use Rattle.walkdir.proofs.laws.CallsLemmas.{unread_top}
use Rattle.walkdir.proofs.gather.GivenLemmas.{snoc_last, step_arrives, step_goes_on, step_leaves, step_lists, step_ends, step_fails}

pub dir_is : (k : Kind) (b : Bool) → IsTrue b ↔ (k ≡ Directory) → b ≡ is_directory k
dir_is Directory b same = same.1 refl
dir_is Link true same = let e = same.0 refl in absurd (cc e)
dir_is Link false same = refl
dir_is File true same = let e = same.0 refl in absurd (cc e)
dir_is File false same = refl
dir_is Other true same = let e = same.0 refl in absurd (cc e)
dir_is Other false same = refl

pub carry : {A B : Type 0} (F : A → B → Type 0) (a c : A) (b d : B) → c ≡ a → d ≡ b → F a b → F c d
carry F a c b d e f h = subst (λ x. F x d) (sym e) (subst (λ y. F a y) (sym f) h)

-- ---- how many entries are listed next

-- nothing is to be listed where no directory lies unread on top
none_to_list : (tree : Tree) (deepest : ℕ) (top : Option Level) → (HasUnreadTop top → ⊥) → IsToListOnTop tree deepest top 0
none_to_list tree deepest None read = refl
none_to_list tree deepest (Some level) read = by level.folder level.entries refl refl
  where
    by : (folder : Option Folder) (entries : Entries) → level.folder ≡ folder → level.entries ≡ entries → IsToList tree deepest folder entries 0
    by None entries f e = refl
    by (Some folder) Unread f e = absurd (read (record { level = level; folder = folder; on_top = refl; folder_is = f; unread = e }))
    by (Some folder) (Open list) f e = refl
    by (Some folder) (Kept kept) f e = refl

-- a plan has an entry for each of its directory's
pub plan_width : (tree : Tree) (manner : Manner) (chain : List Folder) (entries : List DirEntry) (plan : Plan) → IsPlan tree manner chain entries plan → width_of plan ≡ length entries
plan_width tree manner chain [] done h = refl
plan_width tree manner chain [] (past path item plan) h = absurd h
plan_width tree manner chain [] (into folder before contents after plan) h = absurd h
plan_width tree manner chain (entry ∷ entries) done h = absurd h
plan_width tree manner chain (entry ∷ entries) (past path item plan) h = let more = plan_width tree manner chain entries plan h.2 in omega (arith, more)
plan_width tree manner chain (entry ∷ entries) (into folder before contents after plan) h = let more = plan_width tree manner chain entries plan h.2 in omega (arith, more)

contents_to_list : (tree : Tree) (manner : Manner) (folder : Folder) (entries : List DirEntry) → IsContents tree manner folder entries
    → IsToList tree manner.options.max_depth (Some folder) Unread (length entries)
contents_to_list tree manner folder entries (inl none) = inl (none.0, ap length none.1)
contents_to_list tree manner folder entries (inr lists) =
    inr (lists.shallow, (lists.listed, lists.names, ap length lists.ordered ∙ length_order manner (map (entry_below folder) lists.listed) ∙ length-map lists.listed (entry_below folder)))

parts_long : (state : DiskState) (manner : Manner) (root : List ℕ) (chain : List Folder) (levels : List Level) (rest : Rest) → HasParts state manner root chain levels rest → length levels ≡ length rest
parts_long state manner root chain [] [] h = refl
parts_long state manner root chain [] (part ∷ parts) h = absurd h
parts_long state manner root chain (level ∷ levels) [] h = absurd h
parts_long state manner root chain (level ∷ levels) (part ∷ parts) h = let more = parts_long state manner root (with_folder level.folder chain) levels parts h.1 in omega (arith, more)

module _ {S : Type 0} where
  rest_long : (state : DiskState) (sorts : Bool) (by : Comparison) (inside : Inside S) (rest : Rest) → HasRest state sorts by inside rest → length (levels_of inside) ≡ length rest
  rest_long state sorts by inside rest has = parts_long state (manner_in state.tree sorts by inside) inside.root [] (levels_of inside) rest has.parts

  -- of a directory that lies unread on top all entries are to be listed
  unread_to_list : (state : DiskState) (sorts : Bool) (by : Comparison) (inside : Inside S) (rest below : Rest) (part : Part) → HasRest state sorts by inside rest → rest ≡ below ++ part ∷ []
      → HasUnreadTop inside.top → IsToListOnTop state.tree inside.options.max_depth inside.top (width_of part.left)
  unread_to_list state sorts by inside rest below part has is unread =
      let m = manner_in state.tree sorts by inside in
      let xs : List Level = inside.stack.items in
      let level = unread.level in
      let folder = unread.folder in
      let levels : levels_of inside ≡ xs ++ level ∷ [] = ap (λ (top : Option Level). xs ++ top_levels top) unread.on_top in
      let p = parts_parted state m inside.root [] xs level rest (subst (λ (all : List Level). HasParts state m inside.root [] all rest) levels has.parts) in
      let chain = with_folder level.folder (chain_above [] xs) in
      let D : Option Folder → Entries → Type 0 = λ f e. IsDue state m inside.root chain f e p.part.left in
      let due : D (Some folder) Unread = subst (λ e. D (Some folder) e) unread.unread (subst (λ f. D f level.entries) unread.folder_is p.top.due) in
      let same : p.part ≡ part = snoc_last p.below below p.part part (sym p.rest_is ∙ is) in
      let wide : length due.0 ≡ width_of part.left = sym (plan_width state.tree m chain due.0 p.part.left due.2) ∙ ap (λ (q : Part). width_of q.left) same in
      let L : Option Folder → Entries → Type 0 = λ f e. IsToList state.tree inside.options.max_depth f e (length due.0) in
      let here : L level.folder level.entries = subst (λ f. L f level.entries) (sym unread.folder_is) (subst (λ e. L (Some folder) e) (sym unread.unread) (contents_to_list state.tree m folder due.0 due.1)) in
      subst (λ (n : ℕ). IsToListOnTop state.tree inside.options.max_depth inside.top n) wide
      (subst (λ (top : Option Level). IsToListOnTop state.tree inside.options.max_depth top (length due.0)) (sym unread.on_top) here)

module _ {S : Type 0} (out : DirEntry → Bool) (sorts : Bool) (by : Comparison) where
  -- one step, or want of memory
  abbrev pub StepsOrEnds : DiskState → Rest → Option Item → DiskState → Inside S → Type 0
  StepsOrEnds old rest answer new now = (answer ≡ Some (Err error.NoMemory)) ⊎ StepsTo old sorts by rest answer new now

  pub next_ends : (old new : DiskState) (rest : Rest) (answer : Option Item) (now : Inside S) → answer ≡ None → IsPlainRest rest → StepsOrEnds old rest answer new now
      → HasNoFaults rest × (given_rest out rest ≡ []) × (to_list_rest out rest ≡ 0)
  next_ends old new rest answer now is plain (inl e) = absurd (cc (is, e))
  next_ends old new rest answer now is plain (inr s) = step_ends out s.cuts rest s.new plain (subst (λ (a : Option Item). IsStep s.cuts rest a s.new) is s.is_step)

  next_stops : (old new : DiskState) (rest : Rest) (answer : Option Item) (now : Inside S) (failed : Error) → answer ≡ Some (Err failed) → IsPlainRest rest → StepsOrEnds old rest answer new now
      → StopsFor failed
  next_stops old new rest answer now failed is plain (inl e) = inl (cc (is, e))
  next_stops old new rest answer now failed is plain (inr s) =
      step_fails out s.cuts rest failed s.new plain (subst (λ (a : Option Item). IsStep s.cuts rest a s.new) is s.is_step)

  pub goes_fail : (rest : Rest) (result : Result (Option (DirEntry × Bool)) Error) (new : DiskState) (now : Inside S) (failed : Error) → IsErrAnd result (λ x. x ≡ failed) → StopsFor failed
      → GoesTo out sorts by rest result new now
  goes_fail rest (Ok given) new now failed is stops = absurd is
  goes_fail rest (Err other) new now failed is stops = subst StopsFor (sym is) stops

  pub next_fails : (old new : DiskState) (rest : Rest) (answer : Option Item) (now : Inside S) (failed : Error) (result : Result (Option (DirEntry × Bool)) Error) → answer ≡ Some (Err failed)
      → IsErrAnd result (λ x. x ≡ failed) → IsPlainRest rest → StepsOrEnds old rest answer new now → GoesTo out sorts by rest result new now
  next_fails old new rest answer now failed result is err plain steps = goes_fail rest result new now failed err (next_stops old new rest answer now failed is plain steps)

  step_of : (old new : DiskState) (rest : Rest) (answer : Option Item) (now : Inside S) (entry : DirEntry) → answer ≡ Some (Ok entry) → StepsOrEnds old rest answer new now
      → StepsTo old sorts by rest (Some (Ok entry)) new now
  step_of old new rest answer now entry is (inl e) = absurd (cc (is, e))
  step_of old new rest answer now entry is (inr s) = subst (λ (a : Option Item). StepsTo old sorts by rest a new now) is s

  -- what is still to be listed after an entry that stays, or is no directory
  goes_on_lists : (old new : DiskState) (rest : Rest) (now : Inside S) (entry : DirEntry) → IsPlainRest rest → (s : StepsTo old sorts by rest (Some (Ok entry)) new now)
      → (out entry ≡ false) ⊎ (is_directory entry.kind ≡ false) → IsToListNext out new.tree now rest s.new
  goes_on_lists old new rest now entry plain s either = at (is_directory entry.kind) refl
    where
      stays_in : (out entry ≡ false) ⊎ (is_directory entry.kind ≡ false) → is_directory entry.kind ≡ true → out entry ≡ false
      stays_in (inl stays) there = stays
      stays_in (inr file) there = absurd (false≢true (sym file ∙ there))

      at : (b : Bool) → is_directory entry.kind ≡ b → IsToListNext out new.tree now rest s.new
      at true there =
          let a = step_arrives out s.cuts rest entry s.new plain s.is_step in
          let o = a.opens there (stays_in either there) in
          record {
            count = width_of o.1.left;
            on_top = unread_to_list new sorts by now s.new o.0 o.1 s.left o.2 ((s.enters entry refl).0 (a.enters there));
            ahead = λ clean. step_lists out s.cuts rest entry s.new plain s.is_step (a.clean clean) ∙ o.3;
          }
      at false file =
          let a = step_arrives out s.cuts rest entry s.new plain s.is_step in
          record {
            count = 0;
            on_top = none_to_list new.tree now.options.max_depth now.top (λ unread. false≢true (sym file ∙ a.only_into ((s.enters entry refl).1 unread)));
            ahead = λ clean. (let same = step_lists out s.cuts rest entry s.new plain s.is_step (a.clean clean) in let more = a.passes file in omega (arith, same, more));
          }

  -- an entry that stays, or is no directory
  pub next_goes_on : (old new : DiskState) (rest : Rest) (answer : Option Item) (now : Inside S) (entry : DirEntry) (left_out : Bool) → answer ≡ Some (Ok entry) → left_out ≡ out entry → IsPlainRest rest
      → StepsOrEnds old rest answer new now → (out entry ≡ false) ⊎ (is_directory entry.kind ≡ false) → GoesOn out sorts by rest entry left_out new now
  next_goes_on old new rest answer now entry left_out is judged plain steps either =
      let s = step_of old new rest answer now entry is steps in
      record {
        is_out = judged;
        left = s.new;
        has_left = s.left;
        gives = step_goes_on out s.cuts rest entry s.new plain s.is_step either;
        lists = goes_on_lists old new rest now entry plain s either;
      }

  -- a directory that is left
  pub next_leaves : (old mid new : DiskState) (rest : Rest) (answer : Option Item) (between now : Inside S) (entry : DirEntry) (left_out : Bool) → answer ≡ Some (Ok entry) → left_out ≡ out entry → IsPlainRest rest
      → StepsOrEnds old rest answer mid between → is_directory entry.kind ≡ true → out entry ≡ true → ((left : Rest) → HasRest mid sorts by between left → SkipsTo sorts by left new now)
      → (HasUnreadTop now.top → levels_of now ≡ levels_of between) → GoesOn out sorts by rest entry left_out new now
  next_leaves old mid new rest answer between now entry left_out is judged plain steps there goes skips unread_still =
      let s = step_of old mid rest answer between entry is steps in
      let k = skips s.new s.left in
      let a = step_arrives out s.cuts rest entry s.new plain s.is_step in
      let l = a.leaves there goes k.new k.skips in
      record {
        is_out = judged;
        left = k.new;
        has_left = k.left;
        gives = step_leaves out s.cuts rest entry s.new k.new plain s.is_step there goes k.skips;
        lists = record {
          count = 0;
          on_top = none_to_list new.tree now.options.max_depth now.top
              (λ unread. (let same = ap length (unread_still unread) in
              let before = rest_long mid sorts by between s.new s.left in
              let after = rest_long new sorts by now k.new k.left in
              let fewer = l.4 in
              omega (arith, same, before, after, fewer)));
          ahead = λ clean. (let same = step_lists out s.cuts rest entry s.new plain s.is_step (l.2 clean) in let more = l.3 in omega (arith, same, more));
        };
      }

  -- a directory that was entered lies unread
  pub next_lies : (old new : DiskState) (rest : Rest) (answer : Option Item) (now : Inside S) (entry : DirEntry) → answer ≡ Some (Ok entry) → IsPlainRest rest → StepsOrEnds old rest answer new now
      → is_directory entry.kind ≡ true → lies_unread now.top ≡ true
  next_lies old new rest answer now entry is plain steps there =
      let s = step_of old new rest answer now entry is steps in
      unread_top now.top ((s.enters entry refl).0 ((step_arrives out s.cuts rest entry s.new plain s.is_step).enters there))

-- ---- what stays

module _ {S : Type 0} where
  pub keeps_next : (tells sorts : Bool) (compares : Comparison → Type 0) (old : DiskState) (before : Inside S) (answer : Option Item) (new : DiskState) (now : Inside S)
      → GivesNext tells sorts compares old before answer new now → KeepsWalk old before new now
  keeps_next tells sorts compares old before answer new now g =
      record { lists = g.sound.lists; within = g.within; others = g.others; same = g.same; tree = g.tree; faults = g.faults; later = g.later }

  pub keeps_skip : (old new : DiskState) (before now : Inside S) → AreSound new (levels_of now) → SameWalk before now → StaysWithin 0 old (levels_of before) new (levels_of now)
      → SameOthers old (levels_of before) new (levels_of now) → new.listed ≡ old.listed → SameTree old new → new.faults ≡ old.faults → KeepsWalk old before new now
  keeps_skip old new before now sound same within others listed tree faults = record {
    lists = sound;
    within = within_more 0 (open_limit before.options) old new (levels_of before) (levels_of now) (omega arith) within;
    others = others;
    same = same;
    tree = tree;
    faults = omega (arith, faults);
    later = omega (arith, listed);
  }
