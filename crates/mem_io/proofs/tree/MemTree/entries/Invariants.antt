use Rattle.std.proofs.Common.{◌≡◌, ◌++◌}
use Rattle.mem_io.specs.MemTree.{entries_below}
use Rattle.mem_io.proofs.tree.MemTree.entries.Given as goal

-- the entries so far and those of the nodes that are left
abbrev pub invariant-loop-place : goal.invariant-loop-place
invariant-loop-place l = l.entries.items ++ entries_below l.folder l.place-iterator ≡ entries_below l.folder l.self.nodes.entries
