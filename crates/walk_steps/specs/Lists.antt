-- What reading the list of a level does.
use Rattle.std.specs.Prelude.{◌≡◌, ◌⊎◌, ℕ, List, [], ◌∷◌, ◌++◌, length, map, Some}
use Rattle.sd_io.specs.Disk.{DiskState}
use Rattle.sd_io.specs.Count.{HasRisen}
use Rattle.sd_io.specs.declared.meta.RawEntry.{RawEntry}
use Rattle.walk_rest.specs.declared.level.Due.{Due}
use Rattle.walk_rest.specs.declared.level.Folder.{Folder}
use Rattle.walk_rest.specs.declared.level.Entries.{Entries}
use Rattle.walk_rest.specs.declared.level.Entries.TheVariants.{Unread, Open, Kept}
use Rattle.walk_rest.specs.declared.level.Level.{Level}
use Rattle.walk_rest.specs.Level.{AllSameReads, IsAllowed, IsOpenEntries, KeepsList, fault_of}
use Rattle.walk_rest.specs.Plan.{entry_below}
use Rattle.walk_steps.specs.Inside.{entries_in}
use Rattle.walk_steps.specs.Sound.{opens}

-- a list stays this list, and what is kept stays kept
abbrev pub SameReading : Entries → Entries → Type 0
SameReading Unread new = new ≡ Unread
SameReading (Open list) new = new ≡ Open list
SameReading (Kept kept) Unread = ⊥
SameReading (Kept kept) (Open list) = ⊥
SameReading (Kept kept) (Kept left) = Unit {0}

-- all but the entries stays
pub record SameLevel (old new : Level) : Type 0 where
  pub folder : new.folder ≡ old.folder
  pub first : new.first ≡ old.first
  pub faults : new.faults.items ≡ old.faults.items
  pub entries : SameReading old.entries new.entries

-- the list of this level was read to its end and kept, and each failure was counted
pub record KeepsLevel (old : DiskState) (level : Level) (new : DiskState) (kept : Level) : Type 0 where
  pub folder : Folder
  pub folder_is : level.folder ≡ Some folder
  pub keeps : KeepsList old folder level new kept
  pub allowed : IsAllowed keeps.cuts old.faults new.faults

-- at this place stands the lowest of these levels whose list is open
pub record IsOldestOpen (levels : List Level) (place : ℕ) : Type 0 where
  pub lower : List Level
  pub opened : Level
  pub upper : List Level
  pub are : levels ≡ lower ++ opened ∷ upper
  pub place_is : place ≡ length lower
  pub is_open : IsOpenEntries opened.entries
  pub oldest : opens lower ≡ 0

-- the lowest of these levels whose list is open has read it to its end, and all others are as before
pub record KeepsOldest (old : DiskState) (levels : List Level) (new : DiskState) (now : List Level) : Type 0 where
  pub lower : List Level
  pub opened : Level
  pub kept : Level
  pub upper : List Level
  pub was : levels ≡ lower ++ opened ∷ upper
  pub now_are : now ≡ lower ++ kept ∷ upper
  pub is_open : IsOpenEntries opened.entries
  pub oldest : opens lower ≡ 0
  pub level : KeepsLevel old opened new kept
  pub below : AllSameReads old new lower
  pub above : AllSameReads old new upper

-- the list of a directory was opened and has these entries to come; or opening it failed, which was counted and came to be due, and nothing comes
abbrev pub OpensFolder : DiskState → Folder → List Due → List RawEntry → DiskState → List Due → Entries → Type 0
OpensFolder old folder due listed new now_due entries =
    ((entries_in new (Some folder) entries ≡ map (entry_below folder) listed) × (now_due ≡ due))
    ⊎ ((entries_in new (Some folder) entries ≡ []) × HasRisen old.faults new.faults
    × ((failure : Due) × (now_due ≡ due ++ failure ∷ []) × (fault_of failure ≡ record { path = Some folder.path; depth = folder.depth })))
