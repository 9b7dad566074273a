use Rattle.mem_io.proofs.disk.ChangingLemmas.{removes}
use Rattle.mem_io.proofs.disk.MemDiskDisk.remove.Goals as goal

pub returns-in_ok-remove-in-Some-clause-removed : goal.returns-in_ok-remove-in-Some-clause-removed
returns-in_ok-remove-in-Some-clause-removed c =
    let now = c.in_ok-remove-in-Some.ensures in
    removes c.args.self.now (record c.args.self.now { medium = c.remove.new.self; counter = c.pass.new.self }) c.args.path.now _ c.in-Some.place _
    c.in_ok-place.ensures.answer c.in-Some.is c.is_file.ensures c.if-is_file.true now.removed now.orders now.noted
