-- Another device for the nodes of a tree in memory, and for what its changes tell.
use Rattle.std.specs.Prelude.{◌≡◌, ℕ, List, Some, None, IsSome, false}
use Rattle.sd_io.specs.Tree.{NameList, Name, Tree, node_at}
use Rattle.sd_io.specs.Paths.{steps, reached_plain}
use Rattle.mem_io.specs.MemTree.{PutsDevice}
use Rattle.mem_io.specs.LogRoom.{TellsDevice}
use Rattle.mem_io.specs.declared.log.ChangeLog.{ChangeLog}

-- the parts lead to a node, no link followed; it and all nodes below it have this device, and the changes tell it
pub record PutsDeviceFrom (old : Tree) (at : NameList) (parts : List Name) (dev : ℕ) (new : Tree) (log told : ChangeLog) : Type 0 where
  pub place : NameList
  pub leads : steps old (λ folder target rest. None) false at parts ≡ Some place
  pub stands : IsSome (node_at old place)
  pub puts : PutsDevice old place dev new
  pub tells : TellsDevice log place dev told

-- so does the path
pub record PutsDeviceBy (old : Tree) (path : List ℕ) (dev : ℕ) (new : Tree) (log told : ChangeLog) : Type 0 where
  pub place : NameList
  pub leads : reached_plain old path ≡ Some place
  pub stands : IsSome (node_at old place)
  pub puts : PutsDevice old place dev new
  pub tells : TellsDevice log place dev told
