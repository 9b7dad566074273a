use Rattle.mem_io.proofs.disk.AloneLemmas.{top_is_alone}
use Rattle.mem_io.proofs.disk.MemDisk.new.Goals as goal

pub returns-clause-tree : goal.returns-clause-tree
returns-clause-tree c = top_is_alone c.new.result.tree.top c.new.result.tree.nodes.entries c.new.ensures.top c.new.ensures.nodes
