use Rattle.std.proofs.Common.{sym}
use Rattle.mem_io.specs.MemTrail.{names_of}
use Rattle.mem_io.proofs.trail.TrailLemmas.{parent_of-append}
use Rattle.mem_io.proofs.trail.above.Goals as goal

pub returns-in-Below : goal.returns-in-Below
returns-in-Below c = rw c.in-Below.is (sym (parent_of-append (names_of c.in-Below.before.now) _))
