use Rattle.std.proofs.Common.{◌≡◌, take}
use Rattle.mem_io.proofs.place.Place.try_clone.Given as goal

-- the copy has the names so far
abbrev pub invariant-loop-name : goal.invariant-loop-name
invariant-loop-name l = l.copy ≡ take l.name-index l.name-items
