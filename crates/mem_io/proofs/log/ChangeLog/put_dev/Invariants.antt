use Rattle.std.proofs.Common.{◌≡◌, ◌++◌, map, take, drop}
use Rattle.mem_io.specs.MemTrail.{names_of}
use Rattle.mem_io.specs.Log.{change_within}
use Rattle.mem_io.proofs.log.ChangeLog.put_dev.Given as goal

-- the changes so far tell the device, and the others are as before
abbrev pub invariant-loop-change : goal.invariant-loop-change
invariant-loop-change l = l.change-items ≡ map (change_within (names_of l.trail) l.dev) (take l.change-index l.initial.change-items) ++ drop l.change-index l.initial.change-items
