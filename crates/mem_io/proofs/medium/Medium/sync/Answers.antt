use Rattle.std.proofs.Common.{◌≡◌, ◌∙◌, sym, ap, Some}
use Rattle.sd_io.specs.Tree.{Node, node_at}
use Rattle.mem_io.specs.MemNode.{now_of}
use Rattle.mem_io.specs.MemTreeView.{mem_tree}
use Rattle.mem_io.proofs.log.ChangeLemmas.{sync_keeps}
use Rattle.mem_io.proofs.medium.MediumLemmas.{kept_after}
use Rattle.mem_io.proofs.medium.Medium.sync.Goals as goal

pub invariant_of-self-2 : goal.invariant_of-self-2
invariant_of-self-2 c =
    let self = c.args.self.now in
    let stands : node_at (mem_tree self.tree) c.args.place ≡ Some c.in_ok-copy.copy = sym c.node.ensures ∙ ap now_of c.in-Some.is ∙ ap (λ (n : Node). Some n) (sym c.in_ok-copy.ensures) in
    record { kept = kept_after _ _ _ _ _ _ _ _ c.reserve.ensures.first c.note.ensures.first c.reserve.ensures.kept c.note.ensures.noted (sync_keeps (mem_tree self.tree) c.args.place c.in_ok-copy.copy _ stands c.requires self.kept) }
