-- How many lists are open.
use Rattle.std.proofs.Common.{◌≡◌, ◌+◌, ◌≤◌, ◌<◌, ℕ, Bool, true, false, cond, List, [], ◌∷◌, ◌++◌, length, length-append, Option, Some, None, refl, sym, subst, ◌∙◌, ap, arith}
use Rattle.sd_io.specs.Disk.{DiskState, OpenList}
use Rattle.walk_rest.specs.declared.level.Entries.{Entries}
use Rattle.walk_rest.specs.declared.level.Entries.TheVariants.{Unread, Open, Kept}
use Rattle.walk_rest.specs.declared.entry.DirEntry.{DirEntry}
use Rattle.walk_rest.specs.declared.level.Due.{Due}
use Rattle.walk_rest.specs.declared.level.Level.{Level}
use Rattle.walk_steps.specs.Work.{left_to_do, weight_all, weight_first, weight_in, weight_of, weight_open, work_in, weight_root}
use Rattle.walk_steps.specs.declared.inside.Inside.{Inside}
use Rattle.walk_steps.specs.Inside.{SameWalk, levels_of, top_levels, with_top}
use Rattle.walk_steps.specs.Sound.{AreSound, AreRead, AreShallow, IsFresh, IsTopFresh, IsSound, IsSoundBelow, KeepsWalk, StaysWithin, held_limit, open_in, open_limit, opens}
use Rattle.walk_steps.proofs.leave.SoundLemmas.{opens_snoc, sound_relevel, sound_split, weight_snoc}
use Rattle.walk_steps.proofs.leave.OthersLemmas.{apart_relevel, apart_same, others_levels, others_on, shallow_relevel, shallow_split}

-- no list is opened
pub within_fewer : (limit : ℕ) (old new : DiskState) (before after : List Level) → new.open_count + opens before ≡ old.open_count + opens after → new.open_most ≡ old.open_most → StaysWithin limit old before new after
within_fewer limit old new before after count most = λ others e. (omega (arith, e, count), omega (arith, most))

pub within_on : (limit : ℕ) (old mid new : DiskState) (before between after : List Level) → StaysWithin limit old before mid between → StaysWithin limit mid between new after → StaysWithin limit old before new after
within_on limit old mid new before between after h k = λ others e.
    let a = h others e in
    let b = k others a.0 in
    (b.0, (let c = a.1 in let d = b.1 in omega (arith, c, d)))

pub within_more : (small limit : ℕ) (old new : DiskState) (before after : List Level) → small ≤ limit → StaysWithin small old before new after → StaysWithin limit old before new after
within_more small limit old new before after le h = λ others e. let a = h others e in (a.0, (let b = a.1 in omega (arith, b, le)))

weight_open_some : (l : Option OpenList) → 1 ≤ weight_open l
weight_open_some None = omega arith
weight_open_some (Some l) = at l.is_at_end
  where
    at : (b : Bool) → 1 ≤ cond b 1 2
    at true = omega arith
    at false = omega arith

pub weight_in_some : (s : DiskState) (e : Entries) → 1 ≤ weight_in s e
weight_in_some s Unread = omega arith
weight_in_some s (Open list) = weight_open_some (s.open_list list.number)
weight_in_some s (Kept kept) = omega arith

module _ {S : Type 0} where
  pub keeps_on : (a b c : DiskState) (x y z : Inside S) → KeepsWalk a x b y → KeepsWalk b y c z → KeepsWalk a x c z
  keeps_on a b c x y z h k =
      let le = h.faults in let lf = k.faults in let ll = h.later in let lm = k.later in
      record {
        lists = k.lists;
        within = within_on (open_limit x.options) a b c (levels_of x) (levels_of y) (levels_of z) h.within (rw (← h.same.options) k.within);
        others = others_on a b c (levels_of x) (levels_of y) (levels_of z) h.others k.others;
        same = record { options = k.same.options ∙ h.same.options; order = k.same.order ∙ h.same.order; root = k.same.root ∙ h.same.root };
        tree = record { tree = k.tree.tree ∙ h.tree.tree; clock = k.tree.clock ∙ h.tree.clock; outcomes = k.tree.outcomes ∙ h.tree.outcomes };
        faults = omega (arith, le, lf);
        later = omega (arith, ll, lm);
      }

  -- the same levels, but for what is due of the topmost besides its entries
  pub keeps_relevel : (s : DiskState) (inside : Inside S) (old new : Level) → new.folder ≡ old.folder → new.entries ≡ old.entries → AreSound s (inside.stack.items ++ old ∷ []) → KeepsWalk s (with_top inside old) s (with_top inside new)
  keeps_relevel s inside old new folder entries sound =
      let a = opens_snoc inside.stack.items old in
      let b = opens_snoc inside.stack.items new in
      let e = ap open_in entries in
      record {
        lists = sound_relevel s inside.stack.items old new folder entries sound;
        within = within_fewer (open_limit inside.options) s s (inside.stack.items ++ old ∷ []) (inside.stack.items ++ new ∷ []) (omega (arith, a, b, e)) refl;
        others = others_levels s (inside.stack.items ++ old ∷ []) (inside.stack.items ++ new ∷ []) (λ number. apart_relevel number inside.stack.items old new entries);
        same = record { options = refl; order = refl; root = refl };
        tree = record { tree = refl; clock = refl; outcomes = refl };
        faults = omega arith;
        later = omega arith;
      }

  pub is_sound_relevel : (s : DiskState) (sorts : Bool) (inside : Inside S) (old new : Level) → new.folder ≡ old.folder → new.entries ≡ old.entries → IsFresh new.entries new.first new.faults.items
      → IsSound s sorts (with_top inside old) → IsSound s sorts (with_top inside new)
  is_sound_relevel s sorts inside old new folder entries fresh h = record {
    lists = sound_relevel s inside.stack.items old new folder entries h.lists;
    read = h.read;
    rooted = λ none. absurd (cc none);
    few = let a = opens_snoc inside.stack.items old in let b = opens_snoc inside.stack.items new in let e = ap open_in entries in let f = h.few in omega (arith, a, b, e, f);
    shallow = shallow_relevel inside.options.max_depth inside.stack.items old new folder entries h.shallow;
    fresh = fresh;
  }

  -- where a level is taken from the top and put back, the walk is as before
  pub is_sound_retop : (s : DiskState) (sorts : Bool) (old new : Inside S) (level : Level) → old.top ≡ Some level → new.stack.items ≡ old.stack.items → new.options ≡ old.options → IsSound s sorts old → IsSound s sorts (with_top new level)
  is_sound_retop s sorts old new level top stack options h =
      let e : levels_of old ≡ new.stack.items ++ level ∷ [] = ap (λ (t : Option Level). old.stack.items ++ top_levels t) top ∙ ap (λ (xs : List Level). xs ++ level ∷ []) (sym stack) in
      record {
        lists = subst (AreSound s) e h.lists;
        read = subst AreRead (sym stack) h.read;
        rooted = λ none. absurd (cc none);
        few = let f = h.few in let g = ap opens e in let o = ap (held_limit sorts) options in omega (arith, f, g, o);
        shallow = rw options (subst (AreShallow old.options.max_depth) e h.shallow);
        fresh = subst IsTopFresh top h.fresh;
      }

  pub below_of : (s : DiskState) (sorts : Bool) (inside : Inside S) (level : Level) → IsSound s sorts (with_top inside level) → IsSoundBelow s sorts inside
  below_of s sorts inside level h = record {
    lists = (sound_split s inside.stack.items level h.lists).0;
    read = h.read;
    few = let a = opens_snoc inside.stack.items level in let f = h.few in omega (arith, a, f);
    shallow = (shallow_split inside.options.max_depth inside.stack.items level h.shallow).0;
  }

  -- ---- the work that is left

  pub work_snoc : (s : DiskState) (inside : Inside S) (level : Level) → left_to_do s (with_top inside level) ≡ work_in s inside.stack.items + weight_of s level
  work_snoc s inside level = let a = weight_snoc s inside.stack.items level in omega (arith, a)

  pub fault_lighter : (s : DiskState) (inside : Inside S) (old new : Level) (due : Due) → new.folder ≡ old.folder → new.entries ≡ old.entries → new.first ≡ old.first → old.faults.items ≡ new.faults.items ++ due ∷ []
      → left_to_do s (with_top inside new) < left_to_do s (with_top inside old)
  fault_lighter s inside old new due folder entries first faults =
      let a = work_snoc s inside old in
      let b = work_snoc s inside new in
      let c = ap (weight_in s) entries in
      let r : weight_root new.entries new.folder ≡ weight_root old.entries old.folder = rw (entries, folder) refl in
      let d = ap weight_first first in
      let e = ap length faults in
      let f = length-append new.faults.items (due ∷ []) in
      omega (arith, a, b, c, d, e, f, r)

  pub first_lighter : (s : DiskState) (inside : Inside S) (old new : Level) (entry : DirEntry) → new.folder ≡ old.folder → new.entries ≡ old.entries → old.first ≡ Some entry → new.first ≡ None → new.faults.items ≡ old.faults.items
      → left_to_do s (with_top inside new) < left_to_do s (with_top inside old)
  first_lighter s inside old new entry folder entries was now faults =
      let a = work_snoc s inside old in
      let b = work_snoc s inside new in
      let c = ap (weight_in s) entries in
      let r : weight_root new.entries new.folder ≡ weight_root old.entries old.folder = rw (entries, folder) refl in
      let d = ap weight_first was in
      let e = ap weight_first now in
      let f = ap length faults in
      omega (arith, a, b, c, d, e, f, r)

  pub weight_relevel : (s : DiskState) (inside : Inside S) (old new : Level) → new.folder ≡ old.folder → new.entries ≡ old.entries → new.first ≡ old.first → new.faults.items ≡ old.faults.items → left_to_do s (with_top inside new) ≡ left_to_do s (with_top inside old)
  weight_relevel s inside old new folder entries first faults =
      let a = work_snoc s inside old in
      let b = work_snoc s inside new in
      let c = ap (weight_in s) entries in
      let r : weight_root new.entries new.folder ≡ weight_root old.entries old.folder = rw (entries, folder) refl in
      let d = ap weight_first first in
      let f = ap length faults in
      omega (arith, a, b, c, d, f, r)

  -- ---- a level is taken from the top and put back

  pub keeps_same : (s : DiskState) (x y : Inside S) → SameWalk x y → levels_of y ≡ levels_of x → AreSound s (levels_of x) → KeepsWalk s x s y
  keeps_same s x y same e sound =
      let o = ap opens e in
      record {
        lists = subst (AreSound s) (sym e) sound;
        within = within_fewer (open_limit x.options) s s (levels_of x) (levels_of y) (omega (arith, o)) refl;
        others = others_levels s (levels_of x) (levels_of y) (λ number. apart_same number (levels_of x) (levels_of y) e);
        same = same;
        tree = record { tree = refl; clock = refl; outcomes = refl };
        faults = omega arith;
        later = omega arith;
      }

  pub retop_levels : (old new : Inside S) (level : Level) → old.top ≡ Some level → new.stack.items ≡ old.stack.items → levels_of (with_top new level) ≡ levels_of old
  retop_levels old new level top stack = sym (ap (λ (t : Option Level). old.stack.items ++ top_levels t) top ∙ ap (λ (xs : List Level). xs ++ level ∷ []) (sym stack))

  -- giving up is less to do than any level
  pub gone_lighter : (s last : DiskState) (old new : Inside S) (level : Level) (total : ℕ) → old.top ≡ Some level → levels_of new ≡ [] → s.listed ≤ last.listed → left_to_do s old ≤ total → left_to_do last new < total
  gone_lighter s last old new level total top gone later le =
      let a = ap (λ (t : Option Level). work_in s (old.stack.items ++ top_levels t)) top in
      let b = weight_snoc s old.stack.items level in
      let c = weight_in_some s level.entries in
      let d = ap (weight_all last) gone in
      omega (arith, a, b, c, d, later, le)

-- ---- a walk that is over

front_none : (xs ys : List Level) → xs ++ ys ≡ [] → xs ≡ []
front_none [] ys e = refl
front_none (x ∷ xs) ys e = absurd (cc e)

back_none : (xs ys : List Level) → xs ++ ys ≡ [] → ys ≡ []
back_none [] ys e = e
back_none (x ∷ xs) ys e = absurd (cc e)

fresh_none : (top : Option Level) → top_levels top ≡ [] → IsTopFresh top
fresh_none None e = tt
fresh_none (Some level) e = absurd (cc e)

module _ {S : Type 0} where
  pub sound_gone : (s : DiskState) (sorts : Bool) (inside : Inside S) → levels_of inside ≡ [] → IsSound s sorts inside
  sound_gone s sorts inside gone =
      let stack = front_none inside.stack.items (top_levels inside.top) gone in
      let none : opens (levels_of inside) ≡ 0 = ap opens gone in
      record {
        lists = subst (AreSound s) (sym gone) tt;
        read = subst AreRead (sym stack) tt;
        rooted = λ e. stack;
        few = omega (arith, none);
        shallow = subst (AreShallow inside.options.max_depth) (sym gone) tt;
        fresh = fresh_none inside.top (back_none inside.stack.items (top_levels inside.top) gone);
      }
