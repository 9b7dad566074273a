use Rattle.mem_io.specs.MemTreeView.{mem_tree}
use Rattle.mem_io.proofs.tree.SoundLemmas.{file_not_top, takes, sound_taken}
use Rattle.mem_io.proofs.tree.OrderLemmas.{orders_taken}
use Rattle.mem_io.proofs.tree.MemTree.remove.Goals as goal

pub invariant_of-self : goal.invariant_of-self
invariant_of-self c =
    let self = c.args.self.now in
    record { sound = sound_taken self.top self.nodes.entries _ c.args.place.now _ self.sound c.requires c.remove-node.ensures.updates.0 c.remove-node.ensures.ordered }

pub returns-clause-removed : goal.returns-clause-removed
returns-clause-removed c =
    let self = c.args.self.now in
    takes self.top self.nodes.entries _ c.args.place.now (file_not_top (mem_tree self) _ self.sound.is_tree c.requires) c.remove-node.ensures.updates.0

pub returns-clause-orders : goal.returns-clause-orders
returns-clause-orders c =
    let self = c.args.self.now in
    orders_taken self.top self.top self.nodes.entries _ self.sound.ordered c.remove-node.ensures.ordered c.args.place.now (returns-clause-removed c)
