-- A disk's tree in memory, as contracts see it.
use Rattle.sd_io.specs.Tree.{Tree}
use Rattle.mem_io.specs.MemTree.{tree_of}
use Rattle.mem_io.specs.declared.tree.MemTree.{MemTree}

abbrev pub mem_tree : MemTree → Tree
mem_tree t = tree_of t.top t.nodes.entries
