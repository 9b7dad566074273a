-- What a disk tells on which no call fails.
use Rattle.sd_io.specs.Tree.{IsTree}
use Rattle.sd_io.specs.Disk.{DiskState, HoldsPresent}
use Rattle.mem_io.specs.MemDisk.{mem_state}
use Rattle.mem_io.specs.MemHolds as memory
use Rattle.demo_tree.specs.declared.faultless.FaultlessDisk.{FaultlessDisk}

-- that of the disk in memory
abbrev pub faultless_state : FaultlessDisk → DiskState
faultless_state d = mem_state d.disk

pub is_tree : (d : FaultlessDisk) → IsTree (faultless_state d).tree
is_tree d = d.disk.medium.tree.sound.is_tree

pub holds : (d : FaultlessDisk) → HoldsPresent (faultless_state d)
holds d = memory.holds d.disk
