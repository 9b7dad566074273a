use Rattle.std.proofs.Common.{sym, ◌∙◌}
use Rattle.std.proofs.lemmas.Bool.{false≢true}
use Rattle.mem_io.proofs.disk.RenamingLemmas.{renames, may_have_renamed}
use Rattle.mem_io.proofs.disk.MemDiskDisk.rename.Goals as goal

pub returns-then-count-clause-failed : goal.returns-then-count-clause-failed
returns-then-count-clause-failed c = λ failed.
    may_have_renamed c.args.self.now (record c.args.self.now { medium = c.unsettle.new.self; counter = c.fault.new.self }) c.args.from.now c.args.to.now c.in_ok-unsettle.ensures.unsettled

pub returns-in_ok-rename-in-Some-clause-renamed : goal.returns-in_ok-rename-in-Some-clause-renamed
returns-in_ok-rename-in-Some-clause-renamed c =
    let can = rw c.in-Some.is at c.in_ok-ends.ensures.can in
    let now = c.in_ok-rename-in-Some.ensures in
    renames c.args.self.now (record c.args.self.now { medium = c.rename.new.self; counter = c.count.new.self }) c.args.from.now c.args.to.now c.in-Some.source c.in-Some.target can now.moved now.orders now.noted

pub returns-in_ok-rename-in-Some-clause-to_fail : goal.returns-in_ok-rename-in-Some-clause-to_fail
returns-in_ok-rename-in-Some-clause-to_fail c = λ to_fail. absurd (false≢true (sym c.if-count.false ∙ c.count.ensures.to_fail.1 to_fail))
