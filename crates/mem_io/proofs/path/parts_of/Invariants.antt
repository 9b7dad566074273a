use Rattle.std.proofs.Common.{◌≡◌, length, ◌++◌}
use Rattle.mem_io.specs.MemNode.{now_of}
use Rattle.sd_io.specs.Paths.{parts_of, pieces_left, kept}
use Rattle.mem_io.proofs.path.TextLemmas.{texts}
use Rattle.mem_io.proofs.path.parts_of.Given as goal

-- the parts so far, and those of the text that is left
abbrev pub invariant-loop-rest : goal.invariant-loop-rest
invariant-loop-rest l = texts l.parts.items ++ kept (pieces_left (now_of l.rest)) ≡ parts_of l.path

abbrev pub decreases-loop-rest : goal.decreases-loop-rest
decreases-loop-rest l = length (pieces_left (now_of l.rest))
