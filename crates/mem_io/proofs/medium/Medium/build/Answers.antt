use Rattle.std.proofs.Common.{◌∙◌, ap}
use Rattle.sd_io.specs.Tree.{Content}
use Rattle.sd_io.specs.Paths.{parent_of}
use Rattle.mem_io.specs.MemTree.{dev_at}
use Rattle.mem_io.specs.MemTreeView.{mem_tree}
use Rattle.mem_io.proofs.log.ChangeLemmas.{build_keeps}
use Rattle.mem_io.proofs.medium.MediumLemmas.{kept_after, built_kept}
use Rattle.mem_io.proofs.medium.Medium.build.Goals as goal

pub invariant_of-self-2 : goal.invariant_of-self-2
invariant_of-self-2 c =
    let self = c.args.self.now in
    let tree = mem_tree self.tree in
    let kept = build_keeps tree (mem_tree c.add.new.self) c.args.place _ _ _ c.requires.is_place c.requires.free c.in_ok-add.ensures.added self.kept in
    let node = c.in_ok-node.ensures ∙ ap (λ (x : Content). record { content = x; dev = dev_at tree (parent_of c.args.place); ino = self.tree.next_ino }) c.in_ok-copy.ensures in
    record { kept = kept_after _ _ _ _ _ _ _ _ c.reserve.ensures.first c.note.ensures.first c.reserve.ensures.kept c.note.ensures.noted (built_kept (mem_tree c.add.new.self) c.args.place c.in_ok-built.built _ c.in_ok-node.node _ c.in_ok-built.ensures node kept) }
