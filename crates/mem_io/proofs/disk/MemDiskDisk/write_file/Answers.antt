use Rattle.std.proofs.Common.{◌≡◌, rules}
use Rattle.mem_io.proofs.disk.WritingLemmas.{writes, may_have_written}
use Rattle.mem_io.proofs.disk.MemDiskDisk.write_file.Goals as goal

pub returns-then-count-clause-failed : goal.returns-then-count-clause-failed
returns-then-count-clause-failed c = λ failed.
    may_have_written c.args.self.now (record c.args.self.now { medium = c.spoil.new.self; counter = c.fault.new.self }) c.args.path.now c.in_ok-spoil.ensures.spoiled

pub returns-clause-written : goal.returns-clause-written
returns-clause-written c =
    let copied : c.in_ok-copy.copy.items ≡ c.args.bytes.now = search rules in
    let now = c.in_ok-write.ensures in
    writes c.args.self.now (record c.args.self.now { medium = c.write.new.self; counter = c.count.new.self }) c.args.path.now c.args.bytes.now c.in_ok-copy.copy.items _ c.in-Some.place _
    c.in_ok-place.ensures c.in-Some.is c.is_file.ensures c.if-not-is_file.false copied now.put now.orders now.noted
