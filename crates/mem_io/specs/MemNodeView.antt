use Rattle.sd_io.specs.Tree.{Node}
use Rattle.mem_io.specs.MemNode.{content_of}
use Rattle.mem_io.specs.declared.node.MemNode.TheInside.{Inside}

-- a node as contracts see it
abbrev pub node_of : Inside → Node
node_of n = record { content = content_of n.content; dev = n.dev; ino = n.ino }
