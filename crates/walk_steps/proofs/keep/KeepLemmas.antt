-- One list of several levels is kept.
use Rattle.std.proofs.Common.{◌≡◌, ◌⊎◌, ◌+◌, ◌<◌, ◌≤◌, ℕ, zero, suc, List, [], ◌∷◌, ◌++◌, length, get_or, Option, Some, refl, sym, ◌∙◌, ap, inl, inr, arith, length-append}
use Rattle.std.specs.Prelude.{slice_set}
use Rattle.std.specs.List.{AllWithin, HoldsAt}
use Rattle.std.proofs.Math.Seq.{get_or-append_seam, set-append_seam}
use Rattle.sd_io.specs.Disk.{DiskState}
use Rattle.sd_io.specs.declared.meta.ListId.{ListId}
use Rattle.walk_rest.specs.declared.entry.DirEntry.{DirEntry}
use Rattle.walk_rest.specs.declared.level.Folder.{Folder}
use Rattle.walk_rest.specs.declared.level.Entries.{Entries}
use Rattle.walk_rest.specs.declared.level.Entries.TheVariants.{Unread, Open, Kept}
use Rattle.walk_rest.specs.declared.level.Level.{Level}
use Rattle.walk_rest.specs.Level.{AddsFaults, AllSameReads, HasKept, IsAllowed, IsOpenEntries}
use Rattle.walk_rest.specs.Read.{ReadsList}
use Rattle.walk_steps.specs.Inside.{IsRead}
use Rattle.walk_steps.specs.Sound.{IsReadable, IsApart, AreApart, AreApartFrom, AreSound, AreRead, IsShallow, AreShallow, SameOtherThan, StaysWithin, opens, open_in}
use Rattle.walk_steps.specs.Causes.{faults_due, CountsFaults}
use Rattle.walk_steps.specs.Listed.{GivesListed, waits_in, waits_of}
use Rattle.walk_steps.specs.Lists.{IsOldestOpen, KeepsLevel, KeepsOldest}
use Rattle.walk_steps.specs.Work.{weight_of, weight_all, work_in, work_of}
use Rattle.walk_steps.proofs.leave.WithinLemmas.{within_fewer}
use Rattle.walk_steps.proofs.take.WaitsLemmas.{waits_at}
use Rattle.walk_steps.proofs.leave.SoundLemmas.{Differ, Clear, sound_kept, sound_one, all_same_reads, weight_kept}

-- ---- which is the lowest

pub oldest_at : (levels : List Level) (i : ℕ) → i < length levels → HoldsAt (λ (level : Level). IsOpenEntries level.entries) levels i
    → AllWithin (λ (level : Level). open_in level.entries ≡ 0) levels 0 i → IsOldestOpen levels i
oldest_at [] i within is none = absurd (omega (arith, within))
oldest_at (x ∷ levels) zero within is none = record { lower = []; opened = x; upper = levels; are = refl; place_is = refl; is_open = is x; oldest = refl }
oldest_at (x ∷ levels) (suc i) within is none =
    let above = oldest_at levels i (omega (arith, within)) (λ d. is d) (λ k d low high. none (suc k) d (omega arith) (omega (arith, high))) in
    let shut : open_in x.entries ≡ 0 = none 0 x (omega arith) (omega arith) in
    let rest = above.oldest in
    let at = above.place_is in
    record {
      lower = x ∷ above.lower;
      opened = above.opened;
      upper = above.upper;
      are = ap (λ levels. x ∷ levels) above.are;
      place_is = omega (arith, at);
      is_open = above.is_open;
      oldest = omega (arith, shut, rest);
    }

pub none_open : (levels : List Level) → AllWithin (λ (level : Level). open_in level.entries ≡ 0) levels 0 (length levels) → opens levels ≡ 0
none_open [] none = refl
none_open (x ∷ levels) none =
    let rest = none_open levels (λ k d low high. none (suc k) d (omega arith) (omega (arith, high))) in
    let shut : open_in x.entries ≡ 0 = none 0 x (omega arith) (omega arith) in
    omega (arith, rest, shut)

-- ---- one level among others

pub level_set : (levels lower upper : List Level) (old new : Level) (place : ℕ) → levels ≡ lower ++ old ∷ upper → place ≡ length lower → slice_set levels place new ≡ lower ++ new ∷ upper
level_set levels lower upper old new place are at = rw (are, at) (set-append_seam lower old upper new)

pub readable_at : (s : DiskState) (lower upper : List Level) (x : Level) → AreSound s (lower ++ x ∷ upper) → IsReadable s x.folder x.entries
readable_at s [] upper x h = h.0
readable_at s (l ∷ lower) upper x h = readable_at s lower upper x h.2

pub opens_at : (lower upper : List Level) (x : Level) → opens (lower ++ x ∷ upper) ≡ opens lower + (open_in x.entries + opens upper)
opens_at [] upper x = omega arith
opens_at (l ∷ lower) upper x = let e = opens_at lower upper x in omega (arith, e)

weight_at : (s : DiskState) (lower upper : List Level) (x : Level) → weight_all s (lower ++ x ∷ upper) ≡ weight_all s lower + (weight_of s x + weight_all s upper)
weight_at s [] upper x = omega arith
weight_at s (l ∷ lower) upper x = let e = weight_at s lower upper x in omega (arith, e)

pub read_at : (lower upper : List Level) (old new : Level) → IsRead new.entries → AreRead (lower ++ old ∷ upper) → AreRead (lower ++ new ∷ upper)
read_at [] upper old new r h = (r, h.1)
read_at (l ∷ lower) upper old new r h = (h.0, read_at lower upper old new r h.1)

pub apart_at : (number : ℕ) (lower upper : List Level) (x : Level) → AreApart number (lower ++ x ∷ upper) → IsApart number x.entries
apart_at number [] upper x h = h.0
apart_at number (l ∷ lower) upper x h = apart_at number lower upper x h.1

apart_with : (number : ℕ) (lower upper : List Level) (old new : Level) → IsApart number new.entries → AreApart number (lower ++ old ∷ upper) → AreApart number (lower ++ new ∷ upper)
apart_with number [] upper old new a h = (a, h.1)
apart_with number (l ∷ lower) upper old new a h = (h.0, apart_with number lower upper old new a h.1)

-- ---- the list of one level is read, and closed or not

-- it is as before, or no list is open any more
abbrev pub Narrows : Entries → Entries → Type 0
Narrows old new = (new ≡ old) ⊎ (open_in new ≡ 0)

apart_narrow : (number : ℕ) (old new : Entries) → Narrows old new → IsApart number old → IsApart number new
apart_narrow number old new (inl e) a = rw e a
apart_narrow number old Unread (inr e) a = tt
apart_narrow number old (Open list) (inr e) a = absurd (omega (arith, e))
apart_narrow number old (Kept kept) (inr e) a = tt

from_narrow : (old new : Entries) (levels : List Level) → Narrows old new → AreApartFrom old levels → AreApartFrom new levels
from_narrow old new levels (inl e) a = rw e a
from_narrow old Unread levels (inr e) a = tt
from_narrow old (Open list) levels (inr e) a = absurd (omega (arith, e))
from_narrow old (Kept kept) levels (inr e) a = tt

differ_at : (e : Entries) (lower upper : List Level) (x : Level) → AreApartFrom e (lower ++ x ∷ upper) → Differ e x.entries
differ_at Unread lower upper x h = tt
differ_at (Open list) lower upper x h = apart_at list.number lower upper x h
differ_at (Kept kept) lower upper x h = tt

from_at : (e : Entries) (lower upper : List Level) (old new : Level) → Narrows old.entries new.entries → AreApartFrom e (lower ++ old ∷ upper) → AreApartFrom e (lower ++ new ∷ upper)
from_at Unread lower upper old new n h = tt
from_at (Open list) lower upper old new n h = apart_with list.number lower upper old new (apart_narrow list.number old.entries new.entries n (apart_at list.number lower upper old h)) h
from_at (Kept kept) lower upper old new n h = tt

clear_below : (s : DiskState) (lower upper : List Level) (x : Level) → AreSound s (lower ++ x ∷ upper) → Clear x.entries lower
clear_below s [] upper x h = tt
clear_below s (l ∷ lower) upper x h = (differ_at l.entries lower upper x h.1, clear_below s lower upper x h.2)

apart_turned : (number : ℕ) (list : ListId) (e : Entries) → number ≡ list.number → IsApart number e → Differ e (Open list)
apart_turned number list Unread same a = tt
apart_turned number list (Open other) same a = λ e. a (same ∙ sym e)
apart_turned number list (Kept kept) same a = tt

clear_kept : (levels : List Level) (x : Level) → open_in x.entries ≡ 0 → Clear x.entries levels
clear_kept [] x shut = tt
clear_kept (l ∷ levels) x shut = (by l.entries x.entries shut, clear_kept levels x shut)
  where
    by : (p e : Entries) → open_in e ≡ 0 → Differ p e
    by Unread e shut = tt
    by (Open list) Unread shut = tt
    by (Open list) (Open other) shut = absurd (omega (arith, shut))
    by (Open list) (Kept kept) shut = tt
    by (Kept kept) e shut = tt

clear_above : (e : Entries) (upper : List Level) → IsOpenEntries e → AreApartFrom e upper → Clear e upper
clear_above Unread upper is h = absurd is
clear_above (Kept kept) upper is h = absurd is
clear_above (Open list) [] is h = tt
clear_above (Open list) (l ∷ upper) is h = (apart_turned list.number list l.entries refl h.0, clear_above (Open list) upper tt h.1)

clear_over : (s : DiskState) (lower upper : List Level) (x : Level) → IsOpenEntries x.entries → AreSound s (lower ++ x ∷ upper) → Clear x.entries upper
clear_over s [] upper x is h = clear_above x.entries upper is h.1
clear_over s (l ∷ lower) upper x is h = clear_over s lower upper x is h.2

sound_over : (s : DiskState) (lower upper : List Level) (x : Level) → AreSound s (lower ++ x ∷ upper) → AreSound s upper
sound_over s [] upper x h = h.2
sound_over s (l ∷ lower) upper x h = sound_over s lower upper x h.2

pub sound_at : (old new : DiskState) (lower upper : List Level) (was now : Level) → IsOpenEntries was.entries → AreSound old (lower ++ was ∷ upper) → SameOtherThan old was.entries new
    → IsReadable new now.folder now.entries → Narrows was.entries now.entries → AreSound new (lower ++ now ∷ upper)
sound_at old new [] upper was now is h same readable n =
    (readable, from_narrow was.entries now.entries upper n h.1, sound_kept old new was.entries upper h.2 (clear_above was.entries upper is h.1) same)
sound_at old new (l ∷ lower) upper was now is h same readable n =
    let own = sound_kept old new was.entries (l ∷ []) (sound_one old l h.0) (differ_at l.entries lower upper was h.1, tt) same in
    (own.0, from_at l.entries lower upper was now n h.1, sound_at old new lower upper was now is h.2 same readable n)

pub reads_below : (old new : DiskState) (lower upper : List Level) (x : Level) → AreSound old (lower ++ x ∷ upper) → SameOtherThan old x.entries new → AllSameReads old new lower
reads_below old new lower upper x h same = all_same_reads old new x.entries lower (clear_below old lower upper x h) same

pub reads_above : (old new : DiskState) (lower upper : List Level) (x : Level) → IsOpenEntries x.entries → AreSound old (lower ++ x ∷ upper) → SameOtherThan old x.entries new → AllSameReads old new upper
reads_above old new lower upper x is h same = all_same_reads old new x.entries upper (clear_over old lower upper x is h) same

pub work_at : (old new : DiskState) (lower upper : List Level) (was now : Level) → IsOpenEntries was.entries → AreSound old (lower ++ was ∷ upper) → SameOtherThan old was.entries new
    → work_of new now ≤ work_of old was → work_in new (lower ++ now ∷ upper) ≤ work_in old (lower ++ was ∷ upper)
work_at old new lower upper was now is h same le =
    let a = weight_at old lower upper was in
    let b = weight_at new lower upper now in
    let c = weight_kept old new was.entries lower (clear_below old lower upper was h) same in
    let d = weight_kept old new was.entries upper (clear_over old lower upper was is h) same in
    omega (arith, a, b, c, d, le)

-- ---- what was read is kept

pub level_kept : (old now new : DiskState) (level kept : Level) (folder : Folder) (list : ListId) (entries : List DirEntry) → level.folder ≡ Some folder → level.entries ≡ Open list
    → ReadsList old list.number folder level.faults.items now kept.faults.items entries → HasKept kept.entries entries → kept.folder ≡ level.folder → kept.first ≡ level.first
    → new.tree ≡ old.tree → new.faults ≡ now.faults → KeepsLevel old level new kept
level_kept old now new level kept folder list entries folder_is entries_is reads has same_folder same_first tree faults = record {
  folder = folder;
  folder_is = folder_is;
  keeps = record {
    cuts = reads.cuts;
    entries = entries;
    loses = rw entries_is reads.loses.left;
    whole = λ none. rw entries_is (reads.loses.whole none);
    folder_is = same_folder;
    first = same_first;
    kept_is = has;
    faults = reads.now_are;
    tree = tree;
  };
  allowed = rw faults reads.allowed;
}

-- ---- the lowest one is read

-- this level stands at this place among others, and is the lowest with an open list
pub record StandsAmong (levels : List Level) (place : ℕ) (level : Level) : Type 0 where
  pub lower : List Level
  pub upper : List Level
  pub are : levels ≡ lower ++ level ∷ upper
  pub at : place ≡ length lower
  pub is_open : IsOpenEntries level.entries
  pub oldest : opens lower ≡ 0

pub stands : (levels shown : List Level) (place : ℕ) (level : Level) → shown ≡ levels → IsOldestOpen shown place → level ≡ get_or levels place level → StandsAmong levels place level
stands levels shown place level same found value =
    let are : levels ≡ found.lower ++ found.opened ∷ found.upper = sym same ∙ found.are in
    let is : level ≡ found.opened = value ∙ (rw (are, found.place_is) (get_or-append_seam found.lower found.opened found.upper level)) in
    record {
      lower = found.lower;
      upper = found.upper;
      are = rw is are;
      at = found.place_is;
      is_open = rw is found.is_open;
      oldest = found.oldest;
    }

shallow_narrow : (n : ℕ) (folder given : Option Folder) (old new : Entries) → Narrows old new → given ≡ folder → IsShallow n folder old → IsShallow n given new
shallow_narrow n folder given old new (inl e) same h = rw (e, same) h
shallow_narrow n folder given old Unread (inr e) same h = tt
shallow_narrow n folder given old (Open list) (inr e) same h = absurd (omega (arith, e))
shallow_narrow n folder given old (Kept kept) (inr e) same h = tt

shallow_at : (n : ℕ) (lower upper : List Level) (old new : Level) → Narrows old.entries new.entries → new.folder ≡ old.folder → AreShallow n (lower ++ old ∷ upper) → AreShallow n (lower ++ new ∷ upper)
shallow_at n [] upper old new narrow same h = (shallow_narrow n old.folder new.folder old.entries new.entries narrow same h.0, h.1)
shallow_at n (l ∷ lower) upper old new narrow same h = (h.0, shallow_at n lower upper old new narrow same h.1)

-- one level is another, and no list is opened
pub record ReplacesOne (old : DiskState) (levels : List Level) (new : DiskState) (now : List Level) (was is : Level) : Type 0 where
  pub sound : AreSound new now
  pub read : AreRead levels → AreRead now
  pub count : opens now + open_in was.entries ≡ opens levels + open_in is.entries
  pub within : StaysWithin 0 old levels new now
  pub others : (number : ℕ) → AreApart number levels → new.open_list number ≡ old.open_list number
  pub apart : (number : ℕ) → AreApart number levels → AreApart number now
  pub shallow : (deepest : ℕ) → AreShallow deepest levels → AreShallow deepest now

pub replaced : (old new : DiskState) (levels : List Level) (place : ℕ) (was now : Level) → StandsAmong levels place was → AreSound old levels → SameOtherThan old was.entries new → IsReadable new now.folder now.entries
    → IsRead now.entries → new.open_count + open_in was.entries ≡ old.open_count + open_in now.entries → new.open_most ≡ old.open_most → Narrows was.entries now.entries
    → now.folder ≡ was.folder → ReplacesOne old levels new (slice_set levels place now) was now
replaced old new levels place was now at sound same readable read count most narrow folder =
    let e = level_set levels at.lower at.upper was now place at.are at.at in
    let a = ap opens at.are ∙ opens_at at.lower at.upper was in
    let b = ap opens e ∙ opens_at at.lower at.upper now in
    let more : opens (slice_set levels place now) + open_in was.entries ≡ opens levels + open_in now.entries = omega (arith, a, b) in
    record {
      sound = rw e (sound_at old new at.lower at.upper was now at.is_open (rw at.are at sound) same readable narrow);
      read = λ h. rw e (read_at at.lower at.upper was now read (rw at.are at h));
      count = more;
      within = within_fewer 0 old new levels (slice_set levels place now) (omega (arith, count, more)) most;
      others = λ number apart. same number (apart_at number at.lower at.upper was (rw at.are at apart));
      apart = λ number apart. rw e (apart_with number at.lower at.upper was now (apart_narrow number was.entries now.entries narrow (apart_at number at.lower at.upper was (rw at.are at apart))) (rw at.are at apart));
      shallow = λ deepest shallow. rw e (shallow_at deepest at.lower at.upper was now narrow folder (rw at.are at shallow));
    }

pub kept_oldest : (old new : DiskState) (levels : List Level) (place : ℕ) (was now : Level) → StandsAmong levels place was → AreSound old levels → SameOtherThan old was.entries new → KeepsLevel old was new now
    → KeepsOldest old levels new (slice_set levels place now)
kept_oldest old new levels place was now at sound same keeps = record {
  lower = at.lower;
  opened = was;
  kept = now;
  upper = at.upper;
  was = at.are;
  now_are = level_set levels at.lower at.upper was now place at.are at.at;
  is_open = at.is_open;
  oldest = at.oldest;
  level = keeps;
  below = reads_below old new at.lower at.upper was (rw at.are at sound) same;
  above = reads_above old new at.lower at.upper was at.is_open (rw at.are at sound) same;
}

pub kept_work : (old new : DiskState) (levels : List Level) (place : ℕ) (was now : Level) → StandsAmong levels place was → AreSound old levels → SameOtherThan old was.entries new → work_of new now ≤ work_of old was
    → work_in new (slice_set levels place now) ≤ work_in old levels
kept_work old new levels place was now at sound same le =
    let e = level_set levels at.lower at.upper was now place at.are at.at in
    let less = work_at old new at.lower at.upper was now at.is_open (rw at.are at sound) same le in
    rw (e, at.are) less

pub open_one : (e : Entries) → IsOpenEntries e → open_in e ≡ 1
open_one Unread is = absurd is
open_one (Open list) is = refl
open_one (Kept kept) is = absurd is

-- ---- faults that are due

due_at : (lower upper : List Level) (x : Level) → faults_due (lower ++ x ∷ upper) ≡ faults_due lower + (length x.faults.items + faults_due upper)
due_at [] upper x = omega arith
due_at (l ∷ lower) upper x = let e = due_at lower upper x in omega (arith, e)

pub kept_counted : (old new : DiskState) (levels : List Level) (place : ℕ) (was now : Level) → StandsAmong levels place was → AddsFaults old was.faults.items new now.faults.items → CountsFaults 0 old levels new (slice_set levels place now)
kept_counted old new levels place was now at adds = by adds.allowed
  where
    more : faults_due (slice_set levels place now) ≡ faults_due levels + length adds.more
    more =
        let e = ap faults_due (level_set levels at.lower at.upper was now place at.are at.at) in
        let a = due_at at.lower at.upper now in
        let b = due_at at.lower at.upper was in
        let c = ap faults_due at.are in
        let d = ap length adds.now_are in
        let f = length-append was.faults.items adds.more in
        omega (arith, e, a, b, c, d, f)

    by : IsAllowed (length adds.more) old.faults new.faults → CountsFaults 0 old levels new (slice_set levels place now)
    by (inl h) = let e = more in inl (omega (arith, e, h))
    by (inr h) = inr h

-- ---- entries that wait

pub kept_waits : (old new : DiskState) (levels : List Level) (place : ℕ) (was now : Level) → StandsAmong levels place was → waits_of now + old.listed ≤ waits_of was + new.listed
    → GivesListed 0 old levels new (slice_set levels place now)
kept_waits old new levels place was now at less =
    let e = ap waits_in (level_set levels at.lower at.upper was now place at.are at.at) in
    let a = waits_at at.lower at.upper now in
    let b = waits_at at.lower at.upper was in
    let c = ap waits_in at.are in
    omega (arith, e, a, b, c, less)
