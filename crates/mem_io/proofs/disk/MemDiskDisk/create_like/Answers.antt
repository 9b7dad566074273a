use Rattle.std.proofs.Common.{◌≡◌, None, rules}
use Rattle.sd_io.specs.Tree.{node_at}
use Rattle.mem_io.specs.MemTreeView.{mem_tree}
use Rattle.mem_io.proofs.disk.DiskLemmas.{builds_like, creates}
use Rattle.mem_io.proofs.disk.MemDiskDisk.create_like.Goals as goal

pub returns-clause-added : goal.returns-clause-added
returns-clause-added c =
    builds_like c.args.self.now _ c.args.path.now c.args.like.now _ _ c.in-Some.model c.in-Some-2.place _ c.in-Some-mode.mode c.in_ok-model.ensures c.in-Some.is c.mode.ensures c.in-Some-mode.is
    c.in_ok-place.ensures.answer c.in-Some-2.is c.in_ok-create.ensures.added c.in_ok-create.ensures.order c.in_ok-create.ensures.number

pub returns-clause-created : goal.returns-clause-created
returns-clause-created c =
    let free : node_at (mem_tree c.args.self.now.medium.tree) c.in-Some-2.place ≡ None = search rules in
    creates c.args.self.now _ c.args.path.now c.args.like.now _ c.in-Some-2.place c.in_ok-place.ensures.answer c.in-Some-2.is free c.in_ok-create.ensures.noted (returns-clause-added c)
