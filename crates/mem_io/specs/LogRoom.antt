-- The list of changes of a disk in memory: its room, and another device.
use Rattle.std.specs.Prelude.{◌≡◌, ◌≤◌, ◌+◌, ℕ, [], map, vec_len}
use Rattle.std.specs.Vec.{vec_capacity}
use Rattle.sd_io.specs.Tree.{NameList}
use Rattle.mem_io.specs.Log.{number_within, change_within}
use Rattle.mem_io.specs.declared.log.ChangeLog.{ChangeLog}

-- there is room for one more change
abbrev pub HasRoom : ChangeLog → Type 0
HasRoom log = vec_len log.changes + 1 ≤ vec_capacity log.changes

-- the top at first and all changes tell the device of the nodes whose places begin with `place`
pub record TellsDevice (old : ChangeLog) (place : NameList) (dev : ℕ) (new : ChangeLog) : Type 0 where
  pub first : new.first_dev ≡ number_within place dev [] old.first_dev
  pub changes : new.changes.items ≡ map (change_within place dev) old.changes.items
