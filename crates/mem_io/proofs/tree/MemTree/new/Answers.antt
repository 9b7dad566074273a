use Rattle.std.proofs.Common.{arith, ap, ◌<◌}
use Rattle.sd_io.specs.Tree.{Node}
use Rattle.mem_io.proofs.tree.SoundLemmas.{sound_new}
use Rattle.mem_io.proofs.tree.MemTree.new.Goals as goal

pub invariant_of-result : goal.invariant_of-result
invariant_of-result c =
    let low : c.new.result.ino < 2 = rw c.new.ensures (omega arith) in
    record { sound = rw c.new-2.ensures.empty (sound_new c.new.result (ap (λ (n : Node). n.content) c.new.ensures) low) }
