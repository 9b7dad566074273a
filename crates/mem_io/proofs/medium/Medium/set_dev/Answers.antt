use Rattle.mem_io.specs.MemTreeView.{mem_tree}
use Rattle.mem_io.proofs.medium.MediumLemmas.{device_kept}
use Rattle.mem_io.proofs.medium.Medium.set_dev.Goals as goal

pub invariant_of-self : goal.invariant_of-self
invariant_of-self c =
    let self = c.args.self.now in
    let e = c.put_dev.ensures in
    record { kept = device_kept (mem_tree self.tree) (mem_tree c.put_dev.new.self) c.args.path.now c.args.dev self.log c.put_dev.new.log c.put_dev.result e.put e.same e.same_log self.kept }
