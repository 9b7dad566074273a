-- What the host's disk tells: its counts and its open lists, and nothing of its tree and its outcomes.
use Rattle.std.specs.Prelude.{[]}
use Rattle.sd_io.specs.Disk.{DiskState, untold_tree, untold_outcomes}
use Rattle.open_lists.specs.OpenLists.{state_with}
use Rattle.host_io.specs.declared.disk.HostDisk.{HostDisk}

abbrev pub host_state : {R File Dir : Type 0} → HostDisk R File Dir → DiskState
host_state d = state_with (λ _. []) untold_tree 0 untold_outcomes d.counter.faults d.lists
