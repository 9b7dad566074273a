-- What a disk in memory keeps of a node.
use Rattle.std.specs.Prelude.{ℕ, List, Option, Some, None}
use Rattle.std.specs.Borrow.{Bor}
use Rattle.sd_io.specs.Tree.{Content, directory, link, file, other, Node}
use Rattle.mem_io.specs.declared.node.MemContent.{MemContent}
use Rattle.mem_io.specs.declared.node.MemContent.TheVariants as mem

abbrev pub content_of : MemContent → Content
content_of mem.Directory = directory
content_of (mem.Link target) = link target
content_of (mem.File bytes mode) = file bytes.items mode
content_of mem.Other = other

abbrev pub link_target : Content → Option (List ℕ)
link_target directory = None
link_target (link target) = Some target
link_target (file bytes mode) = None
link_target other = None

abbrev pub content_with : Content → List ℕ → Content
content_with directory bytes = directory
content_with (link target) bytes = link target
content_with (file _ mode) bytes = file bytes mode
content_with other bytes = other

-- a regular file's node with other bytes
abbrev pub with_bytes : Node → List ℕ → Node
with_bytes node bytes = record node { content = content_with node.content bytes }

-- what a reference in an option points to
abbrev pub now_of : {A : Type 0} → Option (Bor A) → Option A
now_of None = None
now_of (Some x) = Some x.now
