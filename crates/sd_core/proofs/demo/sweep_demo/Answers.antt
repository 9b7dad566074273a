use Rattle.std.proofs.Common.{refl, sym, subst}
use Rattle.std.specs.Prelude.{All, IfErr}
use Rattle.sd_io.specs.Disk.{DiskState}
use Rattle.sd_io.specs.Files.{path_text}
use Rattle.chosen_files.specs.Globs.{IsValid}
use Rattle.demo_tree.specs.Demo.{IsDemo, demo_place}
use Rattle.demo_tree.specs.FaultlessDisk.{faultless_state}
use Rattle.sd_core.specs.Demo.{DemoWantsMemory}
use Rattle.sd_core.proofs.demo.DemoEndLemmas.{reports_demo, is_clear, refused_for_memory, refused_so}
use Rattle.sd_core.proofs.demo.RoomLemmas.{demo_has_room}
use Rattle.sd_core.proofs.demo.sweep_demo.Goals as goal

pub returns : goal.returns
returns g c =
    let change = g.R.Replaces.change c.args.replacer.now in
    let n = c.args.n in
    let globs = c.args.globs.now in
    let old = faultless_state c.new-disk.result in
    let new = faultless_state c.sweep.new.disk in
    let sweeps = c.sweep.ensures in
    let demo : IsDemo n old.tree = subst (λ (s : DiskState). IsDemo n s.tree) (sym c.new-disk.ensures) c.in-Ok.ensures.demo in
    let complete : All IsValid globs → IfErr c.sweep.result (DemoWantsMemory n) = λ valid.
    refused_for_memory change n globs old new demo c.requires (sweeps.however refl) c.sweep.result sweeps.fails
    (sweeps.complete (is_clear change n globs old new demo c.requires c.new-disk.result.no_faults c.sweep.new.disk.no_faults valid)
    (demo_has_room n old.tree (path_text demo_place) globs demo)) in
    record {
      counted = reports_demo change n globs old new demo c.requires c.sweep.result (sweeps.rewritten refl);
      fails = refused_so n globs c.sweep.result (λ place at. (sweeps.bad_glob place at).1) complete;
      bad_glob = λ place at. (sweeps.bad_glob place at).1;
      complete = complete;
    }
