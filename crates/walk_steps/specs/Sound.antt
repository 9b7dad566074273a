-- The open lists of a walk.
use Rattle.std.specs.Prelude.{◌≡◌, ◌≢◌, ◌+◌, ◌^◌, ◌≤◌, ◌<◌, ℕ, max, Bool, All, List, [], ◌∷◌, Option, Some, None, if◌then◌else◌}
use Rattle.sd_io.specs.Disk.{DiskState, SameTree}
use Rattle.sd_io.specs.Lists.{IsOpen}
use Rattle.walk_rest.specs.declared.entry.DirEntry.{DirEntry}
use Rattle.walk_rest.specs.declared.options.Options.{Options}
use Rattle.walk_rest.specs.declared.level.Folder.{Folder}
use Rattle.walk_rest.specs.declared.level.Due.{Due}
use Rattle.walk_rest.specs.declared.level.Entries.{Entries}
use Rattle.walk_rest.specs.declared.level.Entries.TheVariants.{Unread, Open, Kept}
use Rattle.walk_rest.specs.declared.level.Level.{Level}
use Rattle.walk_steps.specs.declared.inside.Inside.{Inside}
use Rattle.walk_steps.specs.Inside.{IsRead, SameWalk, levels_of}

-- the depth of the entries of a folder; the root lies in none
abbrev pub depth_below : Option Folder → ℕ
depth_below None = 0
depth_below (Some folder) = folder.depth + 1

-- all entries have this depth
abbrev pub AllAt : ℕ → List DirEntry → Type 0
AllAt depth entries = All (λ (entry : DirEntry). entry.depth ≡ depth) entries

-- its list is open, or the entries that it kept lie directly below the folder
abbrev pub IsReadable : DiskState → Option Folder → Entries → Type 0
IsReadable state folder Unread = Unit {0}
IsReadable state None (Open list) = ⊥
IsReadable state (Some folder) (Open list) = IsOpen state list.number × (folder.depth + 1 < 2 ^ 64)
IsReadable state folder (Kept kept) = AllAt (depth_below folder) kept.items

-- it doesn't read this list
abbrev pub IsApart : ℕ → Entries → Type 0
IsApart number Unread = Unit {0}
IsApart number (Open list) = number ≢ list.number
IsApart number (Kept kept) = Unit {0}

abbrev pub AreApart : ℕ → List Level → Type 0
AreApart number [] = Unit {0}
AreApart number (level ∷ levels) = IsApart number level.entries × AreApart number levels

-- no level reads the list of these entries
abbrev pub AreApartFrom : Entries → List Level → Type 0
AreApartFrom Unread levels = Unit {0}
AreApartFrom (Open list) levels = AreApart list.number levels
AreApartFrom (Kept kept) levels = Unit {0}

-- each list is open, and no two levels read the same
abbrev pub AreSound : DiskState → List Level → Type 0
AreSound state [] = Unit {0}
AreSound state (level ∷ levels) = IsReadable state level.folder level.entries × AreApartFrom level.entries levels × AreSound state levels

abbrev pub AreRead : List Level → Type 0
AreRead [] = Unit {0}
AreRead (level ∷ levels) = IsRead level.entries × AreRead levels

-- the entries of an open list are items, as far as `max_depth` goes: its folder lies below that
abbrev pub IsShallow : ℕ → Option Folder → Entries → Type 0
IsShallow deepest folder Unread = Unit {0}
IsShallow deepest folder (Open list) = depth_below folder ≤ deepest
IsShallow deepest folder (Kept kept) = Unit {0}

abbrev pub AreShallow : ℕ → List Level → Type 0
AreShallow deepest [] = Unit {0}
AreShallow deepest (level ∷ levels) = IsShallow deepest level.folder level.entries × AreShallow deepest levels

-- of what wasn't read nothing is due before its entries
abbrev pub IsFresh : Entries → Option DirEntry → List Due → Type 0
IsFresh Unread first faults = (first ≡ None) × (faults ≡ [])
IsFresh (Open list) first faults = Unit {0}
IsFresh (Kept kept) first faults = Unit {0}

abbrev pub IsTopFresh : Option Level → Type 0
IsTopFresh None = Unit {0}
IsTopFresh (Some level) = IsFresh level.entries level.first level.faults.items

-- how many lists they hold open
abbrev pub open_in : Entries → ℕ
open_in Unread = 0
open_in (Open list) = 1
open_in (Kept kept) = 0

abbrev pub opens : List Level → ℕ
opens [] = 0
opens (level ∷ levels) = open_in level.entries + opens levels

-- how many lists may be open at once
abbrev pub open_limit : Options → ℕ
open_limit options = max 1 options.max_open

-- how many lists it may hold open: one that sorts holds none from one step to the next
abbrev pub held_limit : Bool → Options → ℕ
held_limit sorts options = if sorts then 0 else open_limit options

module _ {S : Type 0} where
  pub record IsSound (state : DiskState) (sorts : Bool) (inside : Inside S) : Type 0 where
    pub lists : AreSound state (levels_of inside)
    -- the topmost directory alone may be unread
    pub read : AreRead inside.stack.items
    -- nothing is below where nothing is on top
    pub rooted : inside.top ≡ None → inside.stack.items ≡ []
    pub few : opens (levels_of inside) ≤ held_limit sorts inside.options
    pub shallow : AreShallow inside.options.max_depth (levels_of inside)
    pub fresh : IsTopFresh inside.top

-- all lists but that of these entries stay
abbrev pub SameOtherThan : DiskState → Entries → DiskState → Type 0
SameOtherThan old entries new = (number : ℕ) → IsApart number entries → new.open_list number ≡ old.open_list number

-- Of the lists that were open beside those of the walk, as many are open now, and never more than so many beyond them were open in between.
abbrev pub StaysWithin : ℕ → DiskState → List Level → DiskState → List Level → Type 0
StaysWithin limit old before new after =
    (others : ℕ) → old.open_count ≡ others + opens before → (new.open_count ≡ others + opens after) × (new.open_most ≤ max old.open_most (others + limit))

-- A list that is open and that no level reads stays as it is, and no level comes to read it.
abbrev pub SameOthers : DiskState → List Level → DiskState → List Level → Type 0
SameOthers old before new after = (number : ℕ) → AreApart number before → IsOpen old number → (new.open_list number ≡ old.open_list number) × AreApart number after

module _ {S : Type 0} where
  -- the levels below the topmost, where that holds no list
  pub record IsSoundBelow (state : DiskState) (sorts : Bool) (inside : Inside S) : Type 0 where
    pub lists : AreSound state inside.stack.items
    pub read : AreRead inside.stack.items
    pub few : opens inside.stack.items ≤ held_limit sorts inside.options
    pub shallow : AreShallow inside.options.max_depth inside.stack.items

  -- The walk stays sound and within its limit of open lists, and what the disk tells otherwise stays, with all lists of others.
  pub record KeepsWalk (old : DiskState) (before : Inside S) (new : DiskState) (now : Inside S) : Type 0 where
    pub lists : AreSound new (levels_of now)
    pub within : StaysWithin (open_limit before.options) old (levels_of before) new (levels_of now)
    pub others : SameOthers old (levels_of before) new (levels_of now)
    pub same : SameWalk before now
    pub tree : SameTree old new
    pub faults : old.faults ≤ new.faults
    pub later : old.listed ≤ new.listed
