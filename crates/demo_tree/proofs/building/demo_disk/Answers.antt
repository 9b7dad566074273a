use Rattle.std.specs.Prelude.{codes}
use Rattle.sd_io.specs.Tree.{directory}
use Rattle.mem_io.specs.MemDisk.{mem_state, Builds}
use Rattle.demo_tree.specs.Demo.{demo_place}
use Rattle.demo_tree.proofs.building.NameLemmas.{demo_parts}
use Rattle.demo_tree.proofs.building.BuildLemmas.{demo_can_stand, demo_first, built_puts, built_where_told, tree_stands, counts_kept}
use Rattle.demo_tree.proofs.building.demo_disk.Goals as goal

pub memory_alone-requires : goal.memory_alone-requires
memory_alone-requires c = λ bad. demo_can_stand _ c.new-disk.ensures.tree (c.add_dir.ensures.bad_path bad)

pub loop-i-init : goal.loop-i-init
loop-i-init c =
    let old = c.new-disk.result in
    let new = c.add_dir.new.self in
    let built : Builds old (codes "/demo") directory new =
    built_where_told c.memory_alone.result c.add_dir.result (Builds old (codes "/demo") directory new)
    c.in_ok-memory_alone.field-0 c.memory_alone.ensures c.in_ok-memory_alone.was c.add_dir.ensures.added in
    record {
      demo =
          demo_first (mem_state old).tree (mem_state new).tree c.new-disk.ensures.tree (tree_stands new)
          (built_puts old new (codes "/demo") directory demo_place demo_parts built);
      uncalled = counts_kept old new c.add_dir.ensures.counts c.new-disk.ensures.unused.uncalled;
    }
