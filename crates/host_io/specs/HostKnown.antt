-- What a disk of the host's answers without asking the host.
use Rattle.std.specs.Prelude.{◌≡◌, ℕ, List, None}
use Rattle.host_io.specs.Folders.{TellsNothing, AsksForAll}
use Rattle.host_known.specs.KnownFile.{status_at}
use Rattle.host_io.specs.declared.disk.HostDisk.{HostDisk}

-- each question is asked of the host
abbrev pub AsksTheHost : {R File Dir : Type 0} → HostDisk R File Dir → Type 0
AsksTheHost disk = AsksForAll disk.folders

-- nothing that a list told is left to be asked for
abbrev pub HasNothingTold : {R File Dir : Type 0} → HostDisk R File Dir → Type 0
HasNothingTold disk = TellsNothing disk.folders.told

-- nothing is known of what stands at a path
abbrev pub KnowsNothingAt : {R File Dir : Type 0} → HostDisk R File Dir → List ℕ → Type 0
KnowsNothingAt disk path = status_at disk.folders.file path ≡ None
