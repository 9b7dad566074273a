-- What is due of a walk that is under way.
use Rattle.std.specs.Prelude.{◌≡◌, ◌⊎◌, Bool, IsTrue, List, [], ◌∷◌, ◌++◌, map, reverse, Option, Some, None}
use Rattle.std.specs.declared.cmp.Ordering.{Ordering}
use Rattle.sd_io.specs.Tree.{Tree}
use Rattle.sd_io.specs.Disk.{DiskState}
use Rattle.walk_rest.specs.declared.entry.DirEntry.{DirEntry}
use Rattle.walk_rest.specs.declared.level.Folder.{Folder}
use Rattle.walk_rest.specs.declared.level.Entries.{Entries}
use Rattle.walk_rest.specs.declared.level.Entries.TheVariants.{Unread, Open, Kept}
use Rattle.walk_rest.specs.declared.level.Level.{Level}
use Rattle.walk_rest.specs.Plan.{Manner, entry_below}
use Rattle.walk_rest.specs.Listing.{manner_of, device_to}
use Rattle.walk_rest.specs.Rest.{Rest}
use Rattle.walk_rest.specs.Level.{HasParts, chain_above, left_in}
use Rattle.walk_steps.specs.declared.inside.Inside.{Inside}

abbrev pub top_levels : Option Level → List Level
top_levels None = []
top_levels (Some level) = level ∷ []

-- its list was opened or read
abbrev pub IsRead : Entries → Type 0
IsRead Unread = ⊥
IsRead (Open list) = Unit {0}
IsRead (Kept kept) = Unit {0}

-- the entries that are still to come of a list that was opened or read
abbrev pub entries_in : DiskState → Option Folder → Entries → List DirEntry
entries_in state folder Unread = []
entries_in state None (Open list) = []
entries_in state (Some folder) (Open list) = map (entry_below folder) (left_in (state.open_list list.number))
entries_in state folder (Kept kept) = reverse kept.items

abbrev pub entries_due : DiskState → Level → List DirEntry
entries_due state level = entries_in state level.folder level.entries

-- it wasn't read, or holds nothing
abbrev pub IsUntaken : Entries → Type 0
IsUntaken Unread = Unit {0}
IsUntaken (Open list) = ⊥
IsUntaken (Kept kept) = kept.items ≡ []

-- the root is all there is, and wasn't looked at, or it couldn't be and nothing comes of it
abbrev pub IsUnbegun : List Level → Type 0
IsUnbegun [] = Unit {0}
IsUnbegun (level ∷ []) = (level.folder ≡ None) × IsUntaken level.entries
IsUnbegun (level ∷ next ∷ levels) = ⊥

module _ {S : Type 0} where
  -- the directories that were entered and not left, the root's level first
  abbrev pub levels_of : Inside S → List Level
  levels_of inside = inside.stack.items ++ top_levels inside.top

  -- with this level on top
  abbrev pub with_top : Inside S → Level → Inside S
  with_top inside level = record inside { top = Some level }

  -- the entered directories, the nearest first
  abbrev pub chain_of : Inside S → List Folder
  chain_of inside = chain_above [] (levels_of inside)

  -- with this level on top
  abbrev pub chain_with : Inside S → Level → List Folder
  chain_with inside level = chain_of (with_top inside level)

  -- how the walk goes over a tree
  abbrev pub manner_in : Tree → Bool → (DirEntry → DirEntry → Ordering) → Inside S → Manner
  manner_in tree sorts compare inside = manner_of tree inside.options sorts compare inside.root

  -- the root's device is known where it counts, once the root was looked at
  abbrev pub KnowsDevice : Tree → Inside S → Type 0
  KnowsDevice tree inside = IsTrue inside.options.same_file_system → IsUnbegun (levels_of inside) ⊎ (inside.device ≡ device_to tree inside.root)

  -- this is left of the walk
  pub record HasRest (state : DiskState) (sorts : Bool) (compare : DirEntry → DirEntry → Ordering) (inside : Inside S) (rest : Rest) : Type 0 where
    pub parts : HasParts state (manner_in state.tree sorts compare inside) inside.root [] (levels_of inside) rest
    pub device : KnowsDevice state.tree inside

  -- how it goes stays
  pub record SameWalk (old new : Inside S) : Type 0 where
    pub options : new.options ≡ old.options
    pub order : new.order ≡ old.order
    pub root : new.root ≡ old.root
