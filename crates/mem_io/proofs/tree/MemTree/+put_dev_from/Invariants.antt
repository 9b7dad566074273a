use Rattle.mem_io.specs.MemNode.{now_of}
use Rattle.mem_io.proofs.trail.TrailLemmas.{left_of}
use Rattle.mem_io.proofs.tree.MemTree.+put_dev_from.Given as goal

-- the bytes that are left, and one
abbrev pub decreases-put_dev_from : goal.decreases-put_dev_from
decreases-put_dev_from l = left_of (now_of l.rest)
