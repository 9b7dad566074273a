use Rattle.mem_io.specs.MemTreeView.{mem_tree}
use Rattle.mem_io.proofs.log.ChangeLemmas.{new_kept}
use Rattle.mem_io.proofs.disk.AloneLemmas.{top_is_alone}
use Rattle.mem_io.proofs.medium.Medium.new.Goals as goal

pub invariant_of-result : goal.invariant_of-result
invariant_of-result c =
    let alone = top_is_alone c.new.result.top c.new.result.nodes.entries c.new.ensures.top c.new.ensures.nodes in
    record { kept = rw (c.new-2.ensures.first, c.new-2.ensures.none) (new_kept (mem_tree c.new.result) alone.top alone.others) }
