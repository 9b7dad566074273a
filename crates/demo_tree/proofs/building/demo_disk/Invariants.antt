use Rattle.mem_io.specs.MemDisk.{mem_state, IsUncalled}
use Rattle.demo_tree.specs.Demo.{IsDemo}
use Rattle.demo_tree.proofs.building.demo_disk.Given as goal

abbrev pub invariant-loop-i : goal.invariant-loop-i
invariant-loop-i l = record { demo : IsDemo l.i (mem_state l.disk).tree; uncalled : IsUncalled l.disk }
