use Rattle.mem_io.proofs.disk.WritingLemmas.{syncs, may_have_written}
use Rattle.mem_io.proofs.disk.MemDiskDisk.sync.Goals as goal

pub returns-then-count-clause-failed : goal.returns-then-count-clause-failed
returns-then-count-clause-failed c = λ failed.
    may_have_written c.args.self.now (record c.args.self.now { medium = c.spoil.new.self; counter = c.fault.new.self }) c.args.path.now c.in_ok-spoil.ensures.spoiled

pub returns-in_ok-sync-in-Some-clause-synced : goal.returns-in_ok-sync-in-Some-clause-synced
returns-in_ok-sync-in-Some-clause-synced c =
    syncs c.args.self.now (record c.args.self.now { medium = c.sync.new.self; counter = c.count.new.self }) c.args.path.now _ c.in-Some.place _
    c.in_ok-place.ensures c.in-Some.is c.is_file.ensures c.if-is_file.true c.in_ok-sync-in-Some.ensures.noted
