-- A number that falls with each step of a walk.
use Rattle.std.specs.Prelude.{ℕ, ◌+◌, ◌*◌, List, [], ◌∷◌, length, Option, Some, None, if◌then◌else◌}
use Rattle.sd_io.specs.Disk.{DiskState, OpenList}
use Rattle.walk_rest.specs.declared.entry.DirEntry.{DirEntry}
use Rattle.walk_rest.specs.declared.level.Folder.{Folder}
use Rattle.walk_rest.specs.declared.level.Entries.{Entries}
use Rattle.walk_rest.specs.declared.level.Entries.TheVariants.{Unread, Open, Kept}
use Rattle.walk_rest.specs.declared.level.Level.{Level}
use Rattle.walk_rest.specs.Level.{listable}
use Rattle.walk_steps.specs.declared.inside.Inside.{Inside}
use Rattle.walk_steps.specs.Inside.{levels_of}

abbrev pub weight_open : Option OpenList → ℕ
weight_open None = 1
weight_open (Some list) = if list.is_at_end then 1 else 2

abbrev pub weight_in : DiskState → Entries → ℕ
weight_in state Unread = 3
weight_in state (Open list) = weight_open (state.open_list list.number)
weight_in state (Kept kept) = 1 + 5 * length kept.items

abbrev pub weight_first : Option DirEntry → ℕ
weight_first None = 0
weight_first (Some entry) = 1

-- the root has its own entry to come, until it is looked at
abbrev pub weight_root : Entries → Option Folder → ℕ
weight_root Unread None = 5
weight_root Unread (Some folder) = 0
weight_root (Open list) folder = 0
weight_root (Kept kept) folder = 0

abbrev pub weight_of : DiskState → Level → ℕ
weight_of state level = weight_in state level.entries + weight_root level.entries level.folder + weight_first level.first + length level.faults.items

abbrev pub weight_all : DiskState → List Level → ℕ
weight_all state [] = 0
weight_all state (level ∷ levels) = weight_of state level + weight_all state levels

-- what is left to do for these levels, with what the disk can still list
abbrev pub work_in : DiskState → List Level → ℕ
work_in state levels = 5 * listable state + weight_all state levels

abbrev pub work_of : DiskState → Level → ℕ
work_of state level = 5 * listable state + weight_of state level

module _ {S : Type 0} where
  abbrev pub left_to_do : DiskState → Inside S → ℕ
  left_to_do state inside = work_in state (levels_of inside)
