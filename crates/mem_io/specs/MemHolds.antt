-- What stands on a disk in memory is one of the outcomes that it tells.
use Rattle.std.specs.Prelude.{ℕ, refl, List}
use Rattle.sd_io.specs.Disk.{HoldsPresent}
use Rattle.mem_io.specs.Log.{Tells}
use Rattle.mem_io.specs.LogHolds.{kept_holds}
use Rattle.mem_io.specs.MemDisk.{mem_state}
use Rattle.mem_io.specs.declared.log.Change.{Change}
use Rattle.mem_io.specs.declared.disk.MemDisk.{MemDisk}

abbrev pub first_in : MemDisk → ℕ
first_in d = d.medium.log.first_dev

abbrev pub changes_in : MemDisk → List Change
changes_in d = d.medium.log.changes.items

pub told_by : (d : MemDisk) → Tells (first_in d) (changes_in d) (mem_state d)
told_by d = record { clock = refl; outcomes = refl }

pub holds : (d : MemDisk) → HoldsPresent (mem_state d)
holds d = kept_holds (first_in d) (changes_in d) (mem_state d) (told_by d) d.medium.kept
