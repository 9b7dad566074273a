-- Lists that no level reads, and folders of open lists.
use Rattle.std.proofs.Common.{◌≡◌, ℕ, List, [], ◌∷◌, ◌++◌, length, Option, Some, None, refl, ◌∙◌, ap, arith, length-append}
use Rattle.sd_io.specs.Disk.{DiskState}
use Rattle.sd_io.specs.Lists.{IsOpen}
use Rattle.walk_rest.specs.declared.entry.DirEntry.{DirEntry}
use Rattle.walk_rest.specs.declared.level.Due.{Due}
use Rattle.walk_rest.specs.declared.level.Folder.{Folder}
use Rattle.walk_rest.specs.declared.level.Entries.{Entries}
use Rattle.walk_rest.specs.declared.level.Entries.TheVariants.{Unread, Open, Kept}
use Rattle.walk_rest.specs.declared.level.Level.{Level}
use Rattle.walk_steps.specs.Inside.{IsRead, top_levels}
use Rattle.walk_steps.specs.Sound.{IsApart, AreApart, IsShallow, AreShallow, IsFresh, IsTopFresh, AreRead, SameOtherThan, SameOthers}
use Rattle.walk_steps.specs.Lists.{SameReading}
use Rattle.walk_steps.proofs.leave.SoundLemmas.{apart_front, apart_snoc}

-- ---- folders of open lists

pub shallow_split : (n : ℕ) (xs : List Level) (x : Level) → AreShallow n (xs ++ x ∷ []) → AreShallow n xs × IsShallow n x.folder x.entries
shallow_split n [] x h = (tt, h.0)
shallow_split n (y ∷ xs) x h = let r = shallow_split n xs x h.1 in ((h.0, r.0), r.1)

pub shallow_join : (n : ℕ) (xs : List Level) (x : Level) → AreShallow n xs → IsShallow n x.folder x.entries → AreShallow n (xs ++ x ∷ [])
shallow_join n [] x h i = (i, tt)
shallow_join n (y ∷ xs) x h i = (h.0, shallow_join n xs x h.1 i)

pub shallow_relevel : (n : ℕ) (xs : List Level) (old new : Level) → new.folder ≡ old.folder → new.entries ≡ old.entries → AreShallow n (xs ++ old ∷ []) → AreShallow n (xs ++ new ∷ [])
shallow_relevel n xs old new folder entries h = let p = shallow_split n xs old h in shallow_join n xs new p.0 (rw (folder, entries) p.1)

pub shallow_unread : (n : ℕ) (xs : List Level) (x : Level) → x.entries ≡ Unread → AreShallow n xs → AreShallow n (xs ++ x ∷ [])
shallow_unread n xs x e h = shallow_join n xs x h (rw e tt)

pub shallow_reading : (n : ℕ) (folder given : Option Folder) (a b : Entries) → given ≡ folder → SameReading a b → IsShallow n folder a → IsShallow n given b
shallow_reading n folder given Unread b same r h = rw r tt
shallow_reading n folder given (Open list) b same r h = rw (r, same) h
shallow_reading n folder given (Kept kept) Unread same r h = tt
shallow_reading n folder given (Kept kept) (Open list) same r h = absurd r
shallow_reading n folder given (Kept kept) (Kept left) same r h = tt

-- ---- unread directories

pub fresh_read : (e : Entries) (first : Option DirEntry) (faults : List Due) → IsRead e → IsFresh e first faults
fresh_read Unread first faults r = absurd r
fresh_read (Open list) first faults r = tt
fresh_read (Kept kept) first faults r = tt

pub fresh_given : (e : Entries) (first : Option DirEntry) (old new : List Due) (due : Due) → IsFresh e first old → old ≡ new ++ due ∷ [] → IsFresh e first new
fresh_given Unread first old new due h e = let a = ap length e in let b = ap length h.1 in let c = length-append new (due ∷ []) in absurd (omega (arith, a, b, c))
fresh_given (Open list) first old new due h e = tt
fresh_given (Kept kept) first old new due h e = tt

pub fresh_first : (e : Entries) (old new : Option DirEntry) (entry : DirEntry) (was now : List Due) → IsFresh e old was → old ≡ Some entry → IsFresh e new now
fresh_first Unread old new entry was now h e = let none = h.0 in absurd (cc (e, none))
fresh_first (Open list) old new entry was now h e = tt
fresh_first (Kept kept) old new entry was now h e = tt

pub fresh_top : (left : List Level) (t : Option Level) → AreRead (left ++ top_levels t) → IsTopFresh t
fresh_top left None h = tt
fresh_top [] (Some level) h = fresh_read level.entries level.first level.faults.items h.0
fresh_top (x ∷ left) (Some level) h = fresh_top left (Some level) h.1

-- ---- lists of others

pub others_on : (a b c : DiskState) (x y z : List Level) → SameOthers a x b y → SameOthers b y c z → SameOthers a x c z
others_on a b c x y z h k = λ number apart is. let p = h number apart is in let q = k number p.1 (is.0, p.0 ∙ is.1) in (q.0 ∙ p.0, q.1)

pub others_levels : (s : DiskState) (x y : List Level) → ((number : ℕ) → AreApart number x → AreApart number y) → SameOthers s x s y
others_levels s x y f = λ number apart is. (refl, f number apart)

pub others_lists : (s now : DiskState) (x y : List Level) → ((number : ℕ) → now.open_list number ≡ s.open_list number) → ((number : ℕ) → AreApart number x → AreApart number y) → SameOthers s x now y
others_lists s now x y same f = λ number apart is. (same number, f number apart)

pub apart_same : (number : ℕ) (x y : List Level) → y ≡ x → AreApart number x → AreApart number y
apart_same number x y e h = rw e h

pub apart_relevel : (number : ℕ) (xs : List Level) (old new : Level) → new.entries ≡ old.entries → AreApart number (xs ++ old ∷ []) → AreApart number (xs ++ new ∷ [])
apart_relevel number xs old new e h = let p = apart_front number xs old h in apart_snoc number xs new p.0 (rw e p.1)

pub apart_unread : (number : ℕ) (xs : List Level) (x : Level) → x.entries ≡ Unread → AreApart number xs → AreApart number (xs ++ x ∷ [])
apart_unread number xs x e h = apart_snoc number xs x h (rw e tt)

pub apart_reading : (number : ℕ) (a b : Entries) → SameReading a b → IsApart number a → IsApart number b
apart_reading number Unread b r h = rw r tt
apart_reading number (Open list) b r h = rw r h
apart_reading number (Kept kept) Unread r h = tt
apart_reading number (Kept kept) (Open list) r h = absurd r
apart_reading number (Kept kept) (Kept left) r h = tt

-- another list was opened on top
pub others_top : (s now : DiskState) (xs : List Level) (lying level : Level) → SameOtherThan s level.entries now → ((number : ℕ) → IsOpen s number → IsApart number level.entries)
    → SameOthers s (xs ++ lying ∷ []) now (xs ++ level ∷ [])
others_top s now xs lying level same from = λ number apart is.
    let a = from number is in
    (same number a, apart_snoc number xs level (apart_front number xs lying apart).0 a)

-- the list on top was closed
pub others_closed : (s now : DiskState) (xs : List Level) (level : Level) → SameOtherThan s level.entries now → SameOthers s (xs ++ level ∷ []) now xs
others_closed s now xs level same = λ number apart is. let p = apart_front number xs level apart in (same number p.1, p.0)
