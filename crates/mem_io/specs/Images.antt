-- The image of a crash as a disk: what stands there is on the medium.
use Rattle.std.specs.Prelude.{◌≡◌, Option, Some, None, List, false}
use Rattle.sd_io.specs.Tree.{NameList, Node, Tree, node_at}
use Rattle.sd_io.specs.Outcomes.{Outcome, Outcomes, never_used, built}
use Rattle.sd_io.specs.Disk.{DiskState, outcomes_now}
use Rattle.mem_io.specs.MemTree.{dev_at}
use Rattle.mem_io.specs.MemTrail.{begins_with}

-- what stands at a place alone, or absent alone
abbrev pub alone_outcome : Option Node → List Outcome
alone_outcome None = never_used
alone_outcome (Some node) = built node

-- each place has one outcome: what stands there, or absent
abbrev pub StandsAlone : Outcomes → Tree → Type 0
StandsAlone outcomes tree = (q : NameList) → outcomes q ≡ alone_outcome (node_at tree q)

-- so it is on a disk as built, and on an image
abbrev pub IsAsBuilt : DiskState → Type 0
IsAsBuilt state = StandsAlone (outcomes_now state) state.tree

-- at each place that doesn't begin with the names of another the device is as before
abbrev pub SameDevicesOutside : NameList → Tree → Tree → Type 0
SameDevicesOutside place old new = (q : NameList) → begins_with place q ≡ false → dev_at new q ≡ dev_at old q
