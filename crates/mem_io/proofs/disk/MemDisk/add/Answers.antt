use Rattle.mem_io.specs.MemNode.{content_of}
use Rattle.mem_io.proofs.disk.ChangingLemmas.{builds}
use Rattle.mem_io.proofs.disk.MemDisk.add.Goals as goal

pub returns-clause-added : goal.returns-clause-added
returns-clause-added c =
    let now = c.in_ok-build.ensures in
    builds c.args.self.now (record c.args.self.now { medium = c.build.new.self }) c.args.path.now (content_of c.args.content) c.in_ok-place.place c.in_ok-place.ensures.free now.added now.order now.number now.noted
