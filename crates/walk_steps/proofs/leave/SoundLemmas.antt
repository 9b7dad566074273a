-- Open lists of a stack, as one of them is read.
use Rattle.std.proofs.Common.{◌≡◌, ◌+◌, ℕ, List, [], ◌∷◌, ◌++◌, Option, Some, None, refl, sym, ◌∙◌, ap, arith}
use Rattle.sd_io.specs.Disk.{DiskState}
use Rattle.walk_rest.specs.declared.level.Folder.{Folder}
use Rattle.walk_rest.specs.declared.level.Entries.{Entries}
use Rattle.walk_rest.specs.declared.level.Entries.TheVariants.{Unread, Open, Kept}
use Rattle.walk_rest.specs.declared.level.Level.{Level}
use Rattle.walk_rest.specs.Level.{SameReads, AllSameReads}
use Rattle.walk_steps.specs.Inside.{IsRead}
use Rattle.walk_steps.specs.Sound.{IsReadable, IsApart, AreApart, AreApartFrom, AreSound, AreRead, SameOtherThan, opens, open_in}
use Rattle.walk_steps.specs.Lists.{SameReading}
use Rattle.walk_steps.specs.Work.{weight_in, weight_of, weight_all}

-- the list of the second isn't that of the first
abbrev pub Differ : Entries → Entries → Type 0
Differ Unread other = Unit {0}
Differ (Open list) other = IsApart list.number other
Differ (Kept kept) other = Unit {0}

abbrev pub Clear : Entries → List Level → Type 0
Clear entries [] = Unit {0}
Clear entries (level ∷ levels) = Differ level.entries entries × Clear entries levels

-- its list wasn't open
abbrev pub IsFree : DiskState → Entries → Type 0
IsFree state Unread = Unit {0}
IsFree state (Open list) = state.open_list list.number ≡ None
IsFree state (Kept kept) = Unit {0}

pub apart_front : (k : ℕ) (xs : List Level) (x : Level) → AreApart k (xs ++ x ∷ []) → AreApart k xs × IsApart k x.entries
apart_front k [] x h = (tt, h.0)
apart_front k (y ∷ xs) x h = let r = apart_front k xs x h.1 in ((h.0, r.0), r.1)

pub apart_snoc : (k : ℕ) (xs : List Level) (x : Level) → AreApart k xs → IsApart k x.entries → AreApart k (xs ++ x ∷ [])
apart_snoc k [] x h i = (i, tt)
apart_snoc k (y ∷ xs) x h i = (h.0, apart_snoc k xs x h.1 i)

apart_from_front : (e : Entries) (xs : List Level) (x : Level) → AreApartFrom e (xs ++ x ∷ []) → AreApartFrom e xs × Differ e x.entries
apart_from_front Unread xs x h = (tt, tt)
apart_from_front (Open list) xs x h = apart_front list.number xs x h
apart_from_front (Kept kept) xs x h = (tt, tt)

apart_from_snoc : (e : Entries) (xs : List Level) (x : Level) → AreApartFrom e xs → Differ e x.entries → AreApartFrom e (xs ++ x ∷ [])
apart_from_snoc Unread xs x h i = tt
apart_from_snoc (Open list) xs x h i = apart_snoc list.number xs x h i
apart_from_snoc (Kept kept) xs x h i = tt

-- the levels below the topmost, and that
pub sound_split : (s : DiskState) (xs : List Level) (x : Level) → AreSound s (xs ++ x ∷ []) → AreSound s xs × IsReadable s x.folder x.entries × Clear x.entries xs
sound_split s [] x h = (tt, h.0, tt)
sound_split s (y ∷ xs) x h =
    let r = sound_split s xs x h.2 in
    let a = apart_from_front y.entries xs x h.1 in
    ((h.0, a.0, r.0), r.1, (a.1, r.2))

apart_from_none : (e : Entries) → AreApartFrom e []
apart_from_none Unread = tt
apart_from_none (Open list) = tt
apart_from_none (Kept kept) = tt

pub sound_join : (s : DiskState) (xs : List Level) (x : Level) → AreSound s xs → IsReadable s x.folder x.entries → Clear x.entries xs → AreSound s (xs ++ x ∷ [])
sound_join s [] x h r c = (r, apart_from_none x.entries, tt)
sound_join s (y ∷ xs) x h r c = (h.0, apart_from_snoc y.entries xs x h.1 c.0, sound_join s xs x h.2 r c.1)

pub sound_one : (s : DiskState) (x : Level) → IsReadable s x.folder x.entries → AreSound s (x ∷ [])
sound_one s x r = sound_join s [] x tt r tt

readable_kept : (old new : DiskState) (folder : Option Folder) (p e : Entries) → IsReadable old folder p → Differ p e → SameOtherThan old e new → IsReadable new folder p
readable_kept old new folder Unread e r a same = tt
readable_kept old new None (Open list) e r a same = absurd r
readable_kept old new (Some folder) (Open list) e r a same = let q = r.0 in ((q.0, same list.number a ∙ q.1), r.1)
readable_kept old new None (Kept kept) e r a same = r
readable_kept old new (Some folder) (Kept kept) e r a same = r

pub sound_kept : (old new : DiskState) (e : Entries) (xs : List Level) → AreSound old xs → Clear e xs → SameOtherThan old e new → AreSound new xs
sound_kept old new e [] h c same = tt
sound_kept old new e (x ∷ xs) h c same = (readable_kept old new x.folder x.entries e h.0 c.0 same, h.1, sound_kept old new e xs h.2 c.1 same)

differ_free : (s : DiskState) (folder : Option Folder) (p e : Entries) → IsReadable s folder p → IsFree s e → Differ p e
differ_free s folder Unread e r f = tt
differ_free s None (Open list) e r f = absurd r
differ_free s (Some folder) (Open list) Unread r f = tt
differ_free s (Some folder) (Open list) (Open other) r f = λ same. let q = r.0 in let l : Some q.0 ≡ None = sym q.1 ∙ (ap s.open_list same ∙ f) in absurd (cc l)
differ_free s (Some folder) (Open list) (Kept kept) r f = tt
differ_free s folder (Kept kept) e r f = tt

pub clear_free : (s : DiskState) (e : Entries) (xs : List Level) → AreSound s xs → IsFree s e → Clear e xs
clear_free s e [] h f = tt
clear_free s e (x ∷ xs) h f = (differ_free s x.folder x.entries e h.0 f, clear_free s e xs h.2 f)

differ_same : (p old new : Entries) → Differ p old → SameReading old new → Differ p new
differ_same Unread old new d r = tt
differ_same (Kept kept) old new d r = tt
differ_same (Open list) Unread new d r = rw r d
differ_same (Open list) (Open other) new d r = rw r d
differ_same (Open list) (Kept kept) Unread d r = absurd r
differ_same (Open list) (Kept kept) (Open other) d r = absurd r
differ_same (Open list) (Kept kept) (Kept other) d r = tt

pub clear_same : (old new : Entries) (xs : List Level) → Clear old xs → SameReading old new → Clear new xs
clear_same old new [] c r = tt
clear_same old new (x ∷ xs) c r = (differ_same x.entries old new c.0 r, clear_same old new xs c.1 r)

differ_unread : (p : Entries) → Differ p Unread
differ_unread Unread = tt
differ_unread (Open list) = tt
differ_unread (Kept kept) = tt

pub clear_unread : (xs : List Level) → Clear Unread xs
clear_unread [] = tt
clear_unread (x ∷ xs) = (differ_unread x.entries, clear_unread xs)

pub sound_unread : (s : DiskState) (xs : List Level) (x : Level) → AreSound s xs → x.entries ≡ Unread → AreSound s (xs ++ x ∷ [])
sound_unread s xs x h e = sound_join s xs x h (readable x.entries e) (rw e (clear_unread xs))
  where
    readable : (p : Entries) → p ≡ Unread → IsReadable s x.folder p
    readable p same = rw same tt

-- ---- what they read stays

reads_same : (old new : DiskState) (p e : Entries) → Differ p e → SameOtherThan old e new → SameReads old new p
reads_same old new Unread e d same = tt
reads_same old new (Open list) e d same = same list.number d
reads_same old new (Kept kept) e d same = tt

pub all_same_reads : (old new : DiskState) (e : Entries) (xs : List Level) → Clear e xs → SameOtherThan old e new → AllSameReads old new xs
all_same_reads old new e [] c same = tt
all_same_reads old new e (x ∷ xs) c same = (reads_same old new x.entries e c.0 same, all_same_reads old new e xs c.1 same)

weight_one_kept : (old new : DiskState) (p e : Entries) → Differ p e → SameOtherThan old e new → weight_in new p ≡ weight_in old p
weight_one_kept old new Unread e d same = refl
weight_one_kept old new (Open list) e d same = rw (same list.number d) refl
weight_one_kept old new (Kept kept) e d same = refl

pub weight_kept : (old new : DiskState) (e : Entries) (xs : List Level) → Clear e xs → SameOtherThan old e new → weight_all new xs ≡ weight_all old xs
weight_kept old new e [] c same = refl
weight_kept old new e (x ∷ xs) c same = let a = weight_one_kept old new x.entries e c.0 same in let b = weight_kept old new e xs c.1 same in omega (arith, a, b)

pub weight_snoc : (s : DiskState) (xs : List Level) (x : Level) → weight_all s (xs ++ x ∷ []) ≡ weight_all s xs + weight_of s x
weight_snoc s [] x = omega arith
weight_snoc s (y ∷ xs) x = let a = weight_snoc s xs x in omega (arith, a)

pub opens_snoc : (xs : List Level) (x : Level) → opens (xs ++ x ∷ []) ≡ opens xs + open_in x.entries
opens_snoc [] x = omega arith
opens_snoc (y ∷ xs) x = let a = opens_snoc xs x in omega (arith, a)

pub read_split : (xs : List Level) (x : Level) → AreRead (xs ++ x ∷ []) → AreRead xs × IsRead x.entries
read_split [] x h = (tt, h.0)
read_split (y ∷ xs) x h = let r = read_split xs x h.1 in ((h.0, r.0), r.1)

pub read_join : (xs : List Level) (x : Level) → AreRead xs → IsRead x.entries → AreRead (xs ++ x ∷ [])
read_join [] x h r = (r, tt)
read_join (y ∷ xs) x h r = (h.0, read_join xs x h.1 r)

pub sound_relevel : (s : DiskState) (xs : List Level) (old new : Level) → new.folder ≡ old.folder → new.entries ≡ old.entries → AreSound s (xs ++ old ∷ []) → AreSound s (xs ++ new ∷ [])
sound_relevel s xs old new folder entries h =
    let p = sound_split s xs old h in
    sound_join s xs new p.0 (rw (folder, entries) p.1) (rw entries p.2)

apart_before : (k : ℕ) (xs ys : List Level) → AreApart k (xs ++ ys) → AreApart k xs
apart_before k [] ys h = tt
apart_before k (x ∷ xs) ys h = (h.0, apart_before k xs ys h.1)

from_before : (e : Entries) (xs ys : List Level) → AreApartFrom e (xs ++ ys) → AreApartFrom e xs
from_before Unread xs ys h = tt
from_before (Open list) xs ys h = apart_before list.number xs ys h
from_before (Kept kept) xs ys h = tt

-- the levels below others
pub sound_front : (s : DiskState) (xs ys : List Level) → AreSound s (xs ++ ys) → AreSound s xs
sound_front s [] ys h = tt
sound_front s (x ∷ xs) ys h = (h.0, from_before x.entries xs ys h.1, sound_front s xs ys h.2)
