use Rattle.mem_io.specs.MemNode.{now_of}
use Rattle.mem_io.proofs.trail.TrailLemmas.{left_of}
use Rattle.mem_io.proofs.tree.MemTree.+node_from.Given as goal

-- the bytes that are left, and one
abbrev pub decreases-node_from : goal.decreases-node_from
decreases-node_from l = left_of (now_of l.rest)
