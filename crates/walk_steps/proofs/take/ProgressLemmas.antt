-- Entries that are taken, and lists that end.
use Rattle.std.proofs.Common.{◌≡◌, ◌+◌, ◌≤◌, List, [], ◌∷◌, ◌++◌, length-append, Option, None, Result, Ok, Err, length, refl, sym, ◌∙◌, ap, arith, inl, inr}
use Rattle.std.specs.Prelude.{IfOk, OnOk}
use Rattle.sd_io.specs.Disk.{DiskState}
use Rattle.walk_rest.specs.declared.entry.DirEntry.{DirEntry}
use Rattle.walk_rest.specs.declared.level.Entries.{Entries}
use Rattle.walk_rest.specs.declared.level.Entries.TheVariants.{Unread, Open, Kept}
use Rattle.walk_rest.specs.declared.level.Folder.{Folder}
use Rattle.walk_rest.specs.declared.level.Level.{Level}
use Rattle.walk_rest.specs.Plan.{Item}
use Rattle.walk_steps.specs.declared.inside.Inside.{Inside}
use Rattle.walk_steps.specs.Inside.{IsRead, levels_of, top_levels}
use Rattle.walk_steps.specs.Progress.{KeepsListed, Progresses, kept_in, kept_of}
use Rattle.walk_steps.specs.Steps.{Enters}
use Rattle.walk_steps.specs.Work.{weight_in}

pub kept_snoc : (xs : List Level) (x : Level) → kept_in (xs ++ x ∷ []) ≡ kept_in xs + kept_of x.entries x.folder
kept_snoc [] x = omega arith
kept_snoc (y ∷ xs) x = let a = kept_snoc xs x in omega (arith, a)

-- an entry was taken, and then met
pub took_met : {E : Type 0} (first : Option DirEntry) (s now last : DiskState) (xs : List Level) (old new : Level) (z : List Level) (result : Result (Option Item) E)
    → 1 + kept_of new.entries new.folder + s.listed ≤ kept_of old.entries old.folder + now.listed → last.listed ≡ now.listed → OnOk result (kept_in z ≡ kept_in (xs ++ new ∷ []))
    → IfOk result (λ answer. Progresses first s (xs ++ old ∷ []) answer last z)
took_met first s now last xs old new z (Ok answer) taken same kept =
    let a = kept_snoc xs old in
    let b = kept_snoc xs new in
    inl (omega (arith, taken, same, kept, a, b))
took_met first s now last xs old new z (Err want) taken same kept = tt

-- another level with the same entries stood on top
progress_at : (first : Option DirEntry) (s last : DiskState) (xs : List Level) (old new : Level) (z : List Level) (answer : Option Item) → new.entries ≡ old.entries → new.folder ≡ old.folder
    → Progresses None s (xs ++ new ∷ []) answer last z → Progresses first s (xs ++ old ∷ []) answer last z
progress_at first s last xs old new z answer same in_it (inl takes) =
    let a = kept_snoc xs old in
    let b = kept_snoc xs new in
    let e : kept_of new.entries new.folder ≡ kept_of old.entries old.folder = rw (same, in_it) refl in
    inl (omega (arith, takes, a, b, e))
progress_at first s last xs old new z answer same in_it (inr (inl fewer)) =
    let a = length-append xs (old ∷ []) in
    let b = length-append xs (new ∷ []) in
    inr (inl (omega (arith, fewer, a, b)))
progress_at first s last xs old new z answer same in_it (inr (inr (inl waits))) = absurd (let none = waits.1 in cc none)
progress_at first s last xs old new z answer same in_it (inr (inr (inr failed))) = inr (inr (inr failed))

pub progress_relevel : {E : Type 0} (first : Option DirEntry) (s last : DiskState) (xs : List Level) (old new : Level) (z : List Level) (result : Result (Option Item) E) → new.entries ≡ old.entries → new.folder ≡ old.folder
    → IfOk result (λ answer. Progresses None s (xs ++ new ∷ []) answer last z) → IfOk result (λ answer. Progresses first s (xs ++ old ∷ []) answer last z)
progress_relevel first s last xs old new z (Ok answer) same in_it h = progress_at first s last xs old new z answer same in_it h
progress_relevel first s last xs old new z (Err want) same in_it h = tt

-- ---- what is kept was listed

kept_at : (lower upper : List Level) (x : Level) → kept_in (lower ++ x ∷ upper) ≡ kept_in lower + (kept_of x.entries x.folder + kept_in upper)
kept_at [] upper x = omega arith
kept_at (l ∷ lower) upper x = let e = kept_at lower upper x in omega (arith, e)

length_at : (lower upper : List Level) (x : Level) → length (lower ++ x ∷ upper) ≡ length lower + (1 + length upper)
length_at [] upper x = omega arith
length_at (l ∷ lower) upper x = let e = length_at lower upper x in omega (arith, e)

-- one of several levels was read to its end
pub kept_among : (s now : DiskState) (levels set lower upper : List Level) (old new : Level) → levels ≡ lower ++ old ∷ upper → set ≡ lower ++ new ∷ upper
    → kept_of new.entries new.folder + s.listed ≤ kept_of old.entries old.folder + now.listed → KeepsListed s levels now set
kept_among s now levels set lower upper old new are set_are less =
    let a = ap kept_in are ∙ kept_at lower upper old in
    let b = ap kept_in set_are ∙ kept_at lower upper new in
    let c = ap length are ∙ length_at lower upper old in
    let d = ap length set_are ∙ length_at lower upper new in
    record { levels = omega (arith, c, d); kept = omega (arith, a, b, less) }

-- the topmost level was read
pub kept_top : (s now : DiskState) (xs : List Level) (old new : Level) → kept_of new.entries new.folder + s.listed ≤ kept_of old.entries old.folder + now.listed
    → KeepsListed s (xs ++ old ∷ []) now (xs ++ new ∷ [])
kept_top s now xs old new less = kept_among s now (xs ++ old ∷ []) (xs ++ new ∷ []) xs [] old new refl refl less

light_none : (s : DiskState) (e : Entries) (folder : Option Folder) → IsRead e → weight_in s e ≤ 2 → kept_of e folder ≤ 0
light_none s Unread folder read h = absurd read
light_none s (Open list) folder read h = omega arith
light_none s (Kept kept) folder read h = omega (arith, h)

-- its list was opened
pub kept_opened : (s now : DiskState) (xs : List Level) (old new : Level) → IsRead new.entries → weight_in now new.entries ≤ 2 → s.listed ≤ now.listed
    → KeepsListed s (xs ++ old ∷ []) now (xs ++ new ∷ [])
kept_opened s now xs old new read light later = let none = light_none now new.entries new.folder read light in kept_top s now xs old new (omega (arith, none, later))

-- so were the levels below it, before
pub kept_below : (s now : DiskState) (xs ys : List Level) (lying : Level) → s.listed ≤ now.listed → KeepsListed s xs now ys → KeepsListed s (xs ++ lying ∷ []) now (ys ++ lying ∷ [])
kept_below s now xs ys lying later h =
    let a = kept_snoc xs lying in
    let b = kept_snoc ys lying in
    let c = length-append xs (lying ∷ []) in
    let d = length-append ys (lying ∷ []) in
    let k = h.kept in
    let l = h.levels in
    record { levels = omega (arith, c, d, l); kept = omega (arith, a, b, k) }

pub kept_on : (s now last : DiskState) (x y z : List Level) → KeepsListed s x now y → KeepsListed now y last z → KeepsListed s x last z
kept_on s now last x y z h k =
    let a = h.kept in
    let b = k.kept in
    record { levels = k.levels ∙ h.levels; kept = omega (arith, a, b) }

-- a level was read, and then more got done
pub progress_on : (first mid_first : Option DirEntry) (s now last : DiskState) (x y z : List Level) (answer : Option Item) → mid_first ≡ None → KeepsListed s x now y → Progresses mid_first now y answer last z
    → Progresses first s x answer last z
progress_on first mid_first s now last x y z answer none h (inl takes) = let k = h.kept in inl (omega (arith, takes, k))
progress_on first mid_first s now last x y z answer none h (inr (inl fewer)) = let l = h.levels in inr (inl (omega (arith, fewer, l)))
progress_on first mid_first s now last x y z answer none h (inr (inr (inl waits))) = absurd (let e = sym none ∙ waits.1 in cc e)
progress_on first mid_first s now last x y z answer none h (inr (inr (inr failed))) = inr (inr (inr failed))

module _ {S : Type 0} where
  -- a directory that is entered keeps nothing yet
  pub enters_kept : (inside new : Inside S) (level : Level) (met : DirEntry) (folder : Folder) (given : Option DirEntry) → Enters inside level met folder new given
      → kept_in (levels_of new) ≡ kept_in (inside.stack.items ++ level ∷ [])
  enters_kept inside new level met folder given e =
      let levels : levels_of new ≡ (inside.stack.items ++ e.raised ∷ []) ++ e.opened ∷ [] = ap (λ (o : Option Level). new.stack.items ++ top_levels o) e.top ∙ ap (λ (ys : List Level). ys ++ e.opened ∷ []) e.stack in
      let a = ap kept_in levels in
      let b = kept_snoc (inside.stack.items ++ e.raised ∷ []) e.opened in
      let c = kept_snoc inside.stack.items e.raised in
      let d = kept_snoc inside.stack.items level in
      let u : kept_of e.opened.entries e.opened.folder ≡ 0 = rw (e.unread, e.folder_is) refl in
      let kept = ap (λ (l : Level). kept_of l.entries l.folder) e.raised_is in
      omega (arith, a, b, c, d, u, kept)
