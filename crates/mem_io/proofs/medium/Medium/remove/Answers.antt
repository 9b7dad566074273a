use Rattle.mem_io.specs.MemTreeView.{mem_tree}
use Rattle.mem_io.proofs.log.ChangeLemmas.{remove_keeps}
use Rattle.mem_io.proofs.medium.MediumLemmas.{kept_after}
use Rattle.mem_io.proofs.medium.Medium.remove.Goals as goal

pub invariant_of-self-2 : goal.invariant_of-self-2
invariant_of-self-2 c =
    let self = c.args.self.now in
    record {
      kept = kept_after _ _ _ _ _ _ _ _ c.reserve.ensures.first c.note.ensures.first c.reserve.ensures.kept c.note.ensures.noted
          (remove_keeps (mem_tree self.tree) (mem_tree c.remove.new.self) c.args.place _ c.requires c.remove.ensures.removed self.kept);
    }
