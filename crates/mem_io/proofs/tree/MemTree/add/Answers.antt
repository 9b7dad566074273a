use Rattle.mem_io.proofs.tree.SoundLemmas.{adds, sound_added}
use Rattle.mem_io.proofs.tree.AddedLemmas.{adds_name}
use Rattle.sd_io.specs.Tree.{Node}
use Rattle.std.proofs.Common.{ap}
use Rattle.mem_io.proofs.tree.MemTree.add.Goals as goal

pub invariant_of-self-2 : goal.invariant_of-self-2
invariant_of-self-2 c =
    let self = c.args.self.now in
    record { sound = sound_added self.top self.nodes.entries _ c.args.place _ _ _ c.requires.is_place c.in_ok-insert.ensures.updates.0 c.in_ok-node.ensures self.sound c.requires.free c.insert.ensures.ordered }

pub returns-clause-added : goal.returns-clause-added
returns-clause-added c =
    let self = c.args.self.now in
    adds self.top self.nodes.entries _ c.args.place _ _ _ c.requires.is_place c.in_ok-insert.ensures.updates.0 c.in_ok-node.ensures

pub returns-clause-order : goal.returns-clause-order
returns-clause-order c =
    let self = c.args.self.now in
    adds_name self.top self.nodes.entries _ c.args.place _ _ self.sound c.requires.is_place c.requires.free (ap (λ (n : Node). n.ino) c.in_ok-node.ensures) c.in_ok-insert.ensures.entries
