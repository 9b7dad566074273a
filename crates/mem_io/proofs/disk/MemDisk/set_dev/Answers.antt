use Rattle.mem_io.proofs.disk.MomentLemmas.{tells_device}
use Rattle.mem_io.proofs.disk.MemDisk.set_dev.Goals as goal

pub returns-then-set_dev-clause-outcomes : goal.returns-then-set_dev-clause-outcomes
returns-then-set_dev-clause-outcomes c = tells_device c.args.self.now (record c.args.self.now { medium = c.set_dev.new.self }) c.args.path.now c.args.dev (c.set_dev.ensures.put c.if-set_dev.true)
