use Rattle.std.proofs.Common.{◌≡◌, ap, ◌∙◌, arith}
use Rattle.sd_io.specs.Tree.{directory}
use Rattle.sd_io.specs.Paths.{parts_of}
use Rattle.mem_io.specs.MemDisk.{mem_state, Builds}
use Rattle.demo_tree.specs.Demo.{demo_folder}
use Rattle.demo_tree.specs.Building.{HasNextFolder}
use Rattle.demo_tree.proofs.building.BuildLemmas.{folder_can_stand, folder_stands, folder_added, built_puts, told_of_built}
use Rattle.demo_tree.proofs.building.NameLemmas.{folder_parts}
use Rattle.demo_tree.proofs.building.add_folder.Goals as goal

pub memory_alone-requires : goal.memory_alone-requires
memory_alone-requires c = λ bad.
    folder_can_stand c.args.i (mem_state c.args.disk.now).tree c.as_str.result.now (omega arith) c.requires (c.as_str.ensures.value
    ∙ c.in_ok-path.ensures) (c.add_dir.ensures.bad_path bad)

pub returns-then-i-ge-FOLDERS-clause-added : goal.returns-then-i-ge-FOLDERS-clause-added
returns-then-i-ge-FOLDERS-clause-added c = folder_stands c.args.i (mem_state c.args.disk.now).tree (omega arith) c.requires

pub returns-clause-added : goal.returns-clause-added
returns-clause-added c =
    let parts : parts_of c.as_str.result.now ≡ demo_folder c.args.i = ap parts_of (c.as_str.ensures.value ∙ c.in_ok-path.ensures) ∙ folder_parts c.args.i in
    told_of_built c.memory_alone.result c.add_dir.result
    (Builds c.args.disk.now c.as_str.result.now directory c.add_dir.new.self) (HasNextFolder c.args.i (mem_state c.add_dir.new.self).tree)
    c.memory_alone.ensures c.add_dir.ensures.added
    (λ built. folder_added c.args.i (mem_state c.args.disk.now).tree (mem_state c.add_dir.new.self).tree c.requires
    (built_puts c.args.disk.now c.add_dir.new.self c.as_str.result.now directory (demo_folder c.args.i) parts built))
