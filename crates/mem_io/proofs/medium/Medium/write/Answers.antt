use Rattle.std.proofs.Common.{◌∙◌, ap}
use Rattle.sd_io.specs.Tree.{node_at}
use Rattle.mem_io.specs.Log.{has_devices}
use Rattle.mem_io.specs.Medium.{outcomes_told}
use Rattle.mem_io.proofs.log.OwnDeviceLemmas.{devices_bytes}
use Rattle.mem_io.specs.MemTreeView.{mem_tree}
use Rattle.mem_io.proofs.log.ChangeLemmas.{write_keeps}
use Rattle.mem_io.proofs.medium.MediumLemmas.{kept_after, puts_file}
use Rattle.mem_io.proofs.medium.Medium.write.Goals as goal

pub invariant_of-self-2 : goal.invariant_of-self-2
invariant_of-self-2 c =
    let self = c.args.self.now in
    let puts = c.put_bytes.ensures.put in
    record {
      kept = kept_after _ _ _ _ _ _ _ _ c.reserve.ensures.first c.note.ensures.first c.reserve.ensures.kept c.note.ensures.noted
          (write_keeps (mem_tree self.tree) (mem_tree c.put_bytes.new.self) c.args.place _ c.requires (puts_file _ _ _ _ puts c.requires) puts.others
          (ap (λ o. has_devices o (outcomes_told self c.args.place)) puts.holds ∙ devices_bytes (node_at (mem_tree self.tree) c.args.place) _ _ ∙ self.kept.devices c.args.place) self.kept);
    }
