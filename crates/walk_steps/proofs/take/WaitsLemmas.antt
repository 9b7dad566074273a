-- Entries below the root that are kept to be given.
use Rattle.std.proofs.Common.{◌≡◌, ◌+◌, ◌≤◌, ℕ, Bool, true, false, cond, List, [], ◌∷◌, ◌++◌, length, Option, Some, None, Result, Ok, Err, refl, ◌∙◌, ap, arith}
use Rattle.std.specs.Prelude.{IfOk, IfSome, ◌&&◌, not, nat_lt, option_map}
use Rattle.std.specs.Option.{option_to_list}
use Rattle.sd_io.specs.Disk.{DiskState}
use Rattle.walk_rest.specs.declared.entry.DirEntry.{DirEntry}
use Rattle.walk_rest.specs.declared.level.Folder.{Folder}
use Rattle.walk_rest.specs.declared.level.Level.{Level}
use Rattle.walk_rest.specs.declared.level.Entries.{Entries}
use Rattle.walk_rest.specs.declared.level.Entries.TheVariants.{Unread, Open, Kept}
use Rattle.walk_rest.specs.Level.{TakesEntries, item_of}
use Rattle.walk_rest.specs.Plan.{Item, is_shown, item_where}
use Rattle.walk_steps.specs.declared.inside.Inside.{Inside}
use Rattle.walk_steps.specs.Inside.{levels_of, top_levels}
use Rattle.walk_steps.specs.Listed.{GivesListed, below_one, gives_below, waits_first, waits_in, waits_kept, waits_of}
use Rattle.walk_steps.specs.Sound.{depth_below}
use Rattle.walk_steps.specs.Steps.{Enters}
use Rattle.walk_steps.specs.Work.{weight_in}

-- ---- one entry

pub one_below : (entry : DirEntry) → below_one entry ≤ 1
one_below entry = by (nat_lt 0 entry.depth)
  where
    by : (b : Bool) → cond b 1 0 ≤ 1
    by true = omega arith
    by false = omega arith

root_below : (entry : DirEntry) → entry.depth ≡ 0 → below_one entry ≡ 0
root_below entry e = ap (λ (n : ℕ). cond (nat_lt 0 n) 1 0) e

-- an entry of the same depth
pub same_below : (a b : DirEntry) → a.depth ≡ b.depth → below_one a ≡ below_one b
same_below a b e = ap (λ (n : ℕ). cond (nat_lt 0 n) 1 0) e

-- ---- the entries of one level

-- how many are kept, wherever they lie
abbrev pub size_of : Entries → ℕ
size_of Unread = 0
size_of (Open list) = 0
size_of (Kept kept) = length kept.items

size_below : (folder : Folder) (e : Entries) → waits_kept (Some folder) e ≡ size_of e
size_below folder Unread = refl
size_below folder (Open list) = refl
size_below folder (Kept kept) = refl

kept_most : (folder : Option Folder) (e : Entries) → waits_kept folder e ≤ size_of e
kept_most None e = omega arith
kept_most (Some folder) e = let s = size_below folder e in omega (arith, s)

kept_unread : (folder : Option Folder) → waits_kept folder Unread ≡ 0
kept_unread None = refl
kept_unread (Some folder) = refl

-- an entry was taken off
below_taken : (folder : Option Folder) (a b : Entries) (entry : DirEntry) (old new : ℕ) → size_of b + 1 + old ≤ size_of a + new → old ≤ new → entry.depth ≡ depth_below folder
    → below_one entry + waits_kept folder b + old ≤ waits_kept folder a + new
below_taken None a b entry old new sizes later at = let z = root_below entry at in omega (arith, z, later)
below_taken (Some folder) a b entry old new sizes later at = let o = one_below entry in let s = size_below folder a in let t = size_below folder b in omega (arith, o, s, t, sizes)

kept_less : (folder : Option Folder) (a b : Entries) (old new : ℕ) → size_of b + old ≤ size_of a + new → old ≤ new → waits_kept folder b + old ≤ waits_kept folder a + new
kept_less None a b old new sizes later = omega (arith, later)
kept_less (Some folder) a b old new sizes later = let s = size_below folder a in let t = size_below folder b in omega (arith, s, t, sizes)

-- an entry was taken from a level, or none
pub level_taken : (old now : Level) (given : Option DirEntry) (a b : ℕ) → now.first ≡ old.first → now.folder ≡ old.folder → size_of now.entries + length (option_to_list given) + a ≤ size_of old.entries + b → a ≤ b
    → IfSome given (λ entry. entry.depth ≡ depth_below old.folder) → IfSome given (λ entry. below_one entry + waits_of now + a ≤ waits_of old + b)
level_taken old now None a b first folder sizes later at = tt
level_taken old now (Some entry) a b first folder sizes later at =
    let f = ap waits_first first in
    let k = ap (λ (g : Option Folder). waits_kept g now.entries) folder in
    let t = below_taken old.folder old.entries now.entries entry a b (omega (arith, sizes)) later at in
    omega (arith, f, k, t)

pub level_less : (old now : Level) (a b : ℕ) → now.first ≡ old.first → now.folder ≡ old.folder → size_of now.entries + a ≤ size_of old.entries + b → a ≤ b → waits_of now + a ≤ waits_of old + b
level_less old now a b first folder sizes later =
    let f = ap waits_first first in
    let k = ap (λ (g : Option Folder). waits_kept g now.entries) folder in
    let t = kept_less old.folder old.entries now.entries a b sizes later in
    omega (arith, f, k, t)

-- so many entries were taken off the lists, and each was counted
pub counted_each : (n : ℕ) (old new : DiskState) → TakesEntries n old new → old.listed ≤ new.listed → n + old.listed ≤ new.listed
counted_each n old new takes later = omega (arith, takes, later)

-- ---- levels

pub waits_snoc : (xs : List Level) (x : Level) → waits_in (xs ++ x ∷ []) ≡ waits_in xs + waits_of x
waits_snoc [] x = omega arith
waits_snoc (y ∷ xs) x = let a = waits_snoc xs x in omega (arith, a)

pub waits_at : (lower upper : List Level) (x : Level) → waits_in (lower ++ x ∷ upper) ≡ waits_in lower + (waits_of x + waits_in upper)
waits_at [] upper x = omega arith
waits_at (y ∷ lower) upper x = let a = waits_at lower upper x in omega (arith, a)

-- the same entries, and the item of a directory at most
pub waits_relevel : (xs : List Level) (old new : Level) → waits_first new.first ≤ waits_first old.first → new.folder ≡ old.folder → new.entries ≡ old.entries → waits_in (xs ++ new ∷ []) ≤ waits_in (xs ++ old ∷ [])
waits_relevel xs old new first folder entries =
    let a = waits_snoc xs old in
    let b = waits_snoc xs new in
    let f = ap (λ (g : Option Folder). waits_kept g new.entries) folder in
    let e = ap (waits_kept old.folder) entries in
    omega (arith, a, b, f, e, first)

-- ---- counts

pub gives_on : (n : ℕ) (a b c : DiskState) (x y z : List Level) → GivesListed 0 a x b y → GivesListed n b y c z → GivesListed n a x c z
gives_on n a b c x y z h k = omega (arith, h, k)

-- a level was read, which keeps at most so many entries
pub gives_read : (s now : DiskState) (xs : List Level) (level : Level) (n : ℕ) → level.first ≡ None → size_of level.entries ≤ n → n + s.listed ≤ now.listed → GivesListed 0 s xs now (xs ++ level ∷ [])
gives_read s now xs level n first few listed =
    let a = waits_snoc xs level in
    let f = ap waits_first first in
    let k = kept_most level.folder level.entries in
    omega (arith, a, f, k, few, listed)

-- the root's level keeps nothing that lies below it
pub gives_root : (n : ℕ) (s now : DiskState) (xs levels : List Level) (level : Level) → levels ≡ xs ++ level ∷ [] → level.first ≡ None → level.folder ≡ None → n ≡ 0 → s.listed ≤ now.listed → GivesListed n s xs now levels
gives_root n s now xs levels level are first folder none later =
    let e = ap waits_in are in
    let a = waits_snoc xs level in
    let f = ap waits_first first in
    let k = ap (λ (g : Option Folder). waits_kept g level.entries) folder in
    omega (arith, e, a, f, k, none, later)

light_none : (s : DiskState) (e : Entries) → weight_in s e ≤ 2 → size_of e ≤ 0
light_none s Unread h = omega arith
light_none s (Open list) h = omega arith
light_none s (Kept kept) h = omega (arith, h)

-- a list was opened
pub gives_opened : (s now : DiskState) (xs : List Level) (level : Level) → level.first ≡ None → weight_in now level.entries ≤ 2 → s.listed ≤ now.listed → GivesListed 0 s xs now (xs ++ level ∷ [])
gives_opened s now xs level first light later = gives_read s now xs level 0 first (light_none now level.entries light) (omega (arith, later))

pub gives_result : {E : Type 0} (s last : DiskState) (x y z : List Level) (result : Result (Option Item) E) → waits_in y ≤ waits_in x
    → IfOk result (λ answer. GivesListed (gives_below answer) s y last z) → IfOk result (λ answer. GivesListed (gives_below answer) s x last z)
gives_result s last x y z (Ok answer) le h = omega (arith, le, h)
gives_result s last x y z (Err failed) le h = h

-- an entry was taken, and then met
pub gives_met : {E : Type 0} (s now last : DiskState) (xs : List Level) (old new : Level) (z : List Level) (entry : DirEntry) (result : Result (Option Item) E)
    → below_one entry + waits_of new + s.listed ≤ waits_of old + now.listed → last.listed ≡ now.listed
    → IfOk result (λ answer. gives_below answer + waits_in z ≤ below_one entry + waits_in (xs ++ new ∷ [])) → IfOk result (λ answer. GivesListed (gives_below answer) s (xs ++ old ∷ []) last z)
gives_met s now last xs old new z entry (Ok answer) taken same h = let a = waits_snoc xs old in let b = waits_snoc xs new in omega (arith, a, b, taken, same, h)
gives_met s now last xs old new z entry (Err failed) taken same h = h

-- the item of a directory that was left is given
pub gives_first : (s : DiskState) (xs : List Level) (old new : Level) (entry : DirEntry) → old.first ≡ Some entry → new.first ≡ None → new.folder ≡ old.folder → new.entries ≡ old.entries
    → GivesListed (below_one entry) s (xs ++ old ∷ []) s (xs ++ new ∷ [])
gives_first s xs old new entry was now folder entries =
    let a = waits_snoc xs old in
    let b = waits_snoc xs new in
    let f = ap (λ (g : Option Folder). waits_kept g new.entries) folder in
    let e = ap (waits_kept old.folder) entries in
    let w = ap waits_first was in
    let n = ap waits_first now in
    omega (arith, a, b, f, e, w, n)

-- ---- entering

shown_waits : (b : Bool) (first : Option DirEntry) (met : DirEntry) → option_map item_of first ≡ item_where b met → waits_first first ≡ cond b (below_one met) 0
shown_waits true None met e = absurd (cc e)
shown_waits true (Some item) met e = let same : item ≡ met = cc e in ap below_one same
shown_waits false None met e = refl
shown_waits false (Some item) met e = absurd (cc e)

one_of : (first shown : Bool) (n : ℕ) → cond (first && shown) n 0 + cond (not first && shown) n 0 ≤ n
one_of true true n = omega arith
one_of true false n = omega arith
one_of false true n = omega arith
one_of false false n = omega arith

unread_waits : (level : Level) → level.first ≡ None → level.entries ≡ Unread → waits_of level ≡ 0
unread_waits level first unread =
    let f = ap waits_first first in
    let e = ap (waits_kept level.folder) unread in
    let z = kept_unread level.folder in
    omega (arith, f, e, z)

module _ {S : Type 0} where
  -- a directory was entered: its item is given, or waits, or is hidden
  pub enters_waits : (inside new : Inside S) (level : Level) (met : DirEntry) (folder : Folder) (given : Option DirEntry) → Enters inside level met folder new given → level.first ≡ None
      → waits_first given + waits_in (levels_of new) ≤ below_one met + waits_in (inside.stack.items ++ level ∷ [])
  enters_waits inside new level met folder given e first =
      let levels : levels_of new ≡ (inside.stack.items ++ e.raised ∷ []) ++ e.opened ∷ [] = ap (λ (o : Option Level). new.stack.items ++ top_levels o) e.top ∙ ap (λ (ys : List Level). ys ++ e.opened ∷ []) e.stack in
      let kept : waits_kept e.raised.folder e.raised.entries ≡ waits_kept level.folder level.entries = ap (λ (l : Level). waits_kept l.folder l.entries) e.raised_is in
      let a = ap waits_in levels in
      let b = waits_snoc (inside.stack.items ++ e.raised ∷ []) e.opened in
      let c = waits_snoc inside.stack.items e.raised in
      let d = waits_snoc inside.stack.items level in
      let u = unread_waits e.opened e.first e.unread in
      let f = ap waits_first first in
      let shown = is_shown inside.options met.depth in
      let after = shown_waits (inside.options.contents_first && shown) e.raised.first met e.after in
      let before = shown_waits (not inside.options.contents_first && shown) given met e.before in
      let one = one_of inside.options.contents_first shown (below_one met) in
      omega (arith, a, b, c, d, u, f, kept, after, before, one)
