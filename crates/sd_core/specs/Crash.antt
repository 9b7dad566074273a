-- What a crash leaves of a command on a tree where at its start a crash leaves each place as it stands.
use Rattle.std.specs.Prelude.{◌≡◌, Option}
use Rattle.sd_io.specs.Tree.{NameList, Content}
use Rattle.sd_io.specs.Outcomes.{Leaves, content_at}
use Rattle.sd_io.specs.Disk.{DiskState, outcomes_now}

-- a crash leaves at each place what stands there
abbrev pub IsOnMedium : DiskState → Type 0
IsOnMedium state = (place : NameList) (found : Option Content) → Leaves (outcomes_now state place) found → found ≡ content_at state.tree place
