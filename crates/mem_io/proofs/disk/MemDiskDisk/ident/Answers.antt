use Rattle.std.proofs.Common.{true, sym, ap, ◌∙◌}
use Rattle.mem_io.specs.MemNode.{now_of}
use Rattle.mem_io.specs.MemTreeView.{mem_tree}
use Rattle.mem_io.proofs.disk.DiskLemmas.{leads_to_something}
use Rattle.mem_io.proofs.disk.MemDiskDisk.ident.Goals as goal

pub returns-in-None-clause-absent : goal.returns-in-None-clause-absent
returns-in-None-clause-absent c =
    λ e. leads_to_something (mem_tree c.args.self.now.medium.tree) c.args.self.now.medium.tree.sound.is_tree c.args.path.now true c.in-Some.place _ c.in_ok-place.ensures c.in-Some.is
    (sym c.node.ensures ∙ ap now_of c.in-None.is)
