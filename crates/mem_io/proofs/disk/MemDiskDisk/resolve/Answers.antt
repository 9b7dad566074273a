use Rattle.mem_io.specs.MemDisk.{mem_state}
use Rattle.mem_io.proofs.disk.DiskLemmas.{resolves}
use Rattle.mem_io.proofs.disk.MemDiskDisk.resolve.Goals as goal

pub returns-in_ok-path-in-Some-clause-answer : goal.returns-in_ok-path-in-Some-clause-answer
returns-in_ok-path-in-Some-clause-answer c =
    resolves (mem_state c.args.self.now) c.args.self.now.medium.tree.sound.is_tree c.args.path.now _ c.in-Some.place _ c.in_ok-reached.ensures c.in-Some.is c.in_ok-path-in-Some.ensures
