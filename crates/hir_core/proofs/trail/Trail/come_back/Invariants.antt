use Rattle.std.proofs.Common.{◌≡◌, length}
use Rattle.hir_core.specs.Trails.{stops_of}
use Rattle.hir_core.proofs.trail.Trail.come_back.Given as goal

-- the alternatives are those of the start
abbrev pub invariant-loop-frame : goal.invariant-loop-frame
invariant-loop-frame l = stops_of l.self ≡ stops_of l.fn.self

abbrev pub decreases-loop-frame : goal.decreases-loop-frame
decreases-loop-frame l = length l.self.frames.items
