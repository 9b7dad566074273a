use Rattle.std.proofs.Common.{length}
use Rattle.mem_io.proofs.medium.Medium.+put_dev_along.Given as goal

-- the names that are left
abbrev pub decreases-put_dev_along : goal.decreases-put_dev_along
decreases-put_dev_along l = length l.names.now
