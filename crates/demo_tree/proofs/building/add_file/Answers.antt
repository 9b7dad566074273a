use Rattle.std.proofs.Common.{◌≡◌, ◌+◌, List, ℕ, ap, subst, ◌∙◌}
use Rattle.sd_io.specs.Tree.{file}
use Rattle.sd_io.specs.Paths.{parts_of}
use Rattle.mem_io.specs.MemDisk.{mem_state, Builds}
use Rattle.demo_tree.specs.Demo.{demo_file, demo_bytes, demo_mode, IsDemo}
use Rattle.demo_tree.proofs.building.BuildLemmas.{Puts, file_can_stand, file_added, built_puts, told_of_built, tree_stands}
use Rattle.demo_tree.proofs.building.NameLemmas.{file_parts}
use Rattle.demo_tree.proofs.building.add_file.Goals as goal

pub memory_alone-requires : goal.memory_alone-requires
memory_alone-requires c = λ bad.
    file_can_stand c.args.i (mem_state c.args.disk.now).tree c.as_str.result.now c.requires.few c.requires.folder (c.as_str.ensures.value
    ∙ c.in_ok-path.ensures) (c.add_file.ensures.bad_path bad)

pub returns-clause-added : goal.returns-clause-added
returns-clause-added c =
    let old = (mem_state c.args.disk.now).tree in
    let new = (mem_state c.add_file.new.self).tree in
    let place = (demo_file c.args.i).place in
    let parts : parts_of c.as_str.result.now ≡ place = ap parts_of (c.as_str.ensures.value ∙ c.in_ok-path.ensures) ∙ file_parts c.args.i in
    let bytes : c.as_bytes.result.now ≡ demo_bytes c.args.i = c.as_bytes.ensures.value ∙ c.in_ok-text.ensures in
    told_of_built c.memory_alone.result c.add_file.result
    (Builds c.args.disk.now c.as_str.result.now (file c.as_bytes.result.now demo_mode) c.add_file.new.self) (IsDemo (c.args.i + 1) new)
    c.memory_alone.ensures c.add_file.ensures.added
    (λ built. file_added c.args.i old new c.requires.few c.requires.folder (tree_stands c.add_file.new.self)
    (subst (λ (text : List ℕ). Puts old place (file text demo_mode) new) bytes
    (built_puts c.args.disk.now c.add_file.new.self c.as_str.result.now (file c.as_bytes.result.now demo_mode) place parts built)))
