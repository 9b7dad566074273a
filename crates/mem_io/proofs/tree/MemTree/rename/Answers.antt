use Rattle.std.proofs.Common.{sym, ◌∙◌}
use Rattle.mem_io.specs.MemTreeView.{mem_tree}
use Rattle.mem_io.proofs.tree.SoundLemmas.{same_places, moves_nowhere, ready, place_kept, file_found, moves, sound_moved, certain}
use Rattle.mem_io.proofs.tree.OrderLemmas.{orders_moved}
use Rattle.mem_io.proofs.tree.MemTree.rename.Goals as goal

pub returns-then-eq-clause-moved : goal.returns-then-eq-clause-moved
returns-then-eq-clause-moved c = moves_nowhere (mem_tree c.args.self.now) c.args.from.now c.args.to (same_places _ _ (sym c.eq.ensures ∙ c.if-eq.true))

-- the file is always found
pub invariant_of-self-in_default : goal.invariant_of-self-in_default
invariant_of-self-in_default c =
    let self = c.args.self.now in
    let steps = ready self.nodes.entries _ _ c.args.from.now c.args.to _ _ _ c.eq.ensures c.if-eq.false c.in_ok-try_clone.ensures c.in_ok-insert.ensures.updates.0 c.remove.ensures.updates.0 in
    absurd (file_found self.top self.nodes.entries _ _ c.args.from.now c.args.to self.sound.is_tree c.requires.is_file steps (sym c.in_default.ensures.value))

pub returns-in_default-clause-moved : goal.returns-in_default-clause-moved
returns-in_default-clause-moved c =
    let self = c.args.self.now in
    let steps = ready self.nodes.entries _ _ c.args.from.now c.args.to _ _ _ c.eq.ensures c.if-eq.false c.in_ok-try_clone.ensures c.in_ok-insert.ensures.updates.0 c.remove.ensures.updates.0 in
    absurd (file_found self.top self.nodes.entries _ _ c.args.from.now c.args.to self.sound.is_tree c.requires.is_file steps (sym c.in_default.ensures.value))

pub returns-in_default-clause-orders : goal.returns-in_default-clause-orders
returns-in_default-clause-orders c =
    let self = c.args.self.now in
    let steps = ready self.nodes.entries _ _ c.args.from.now c.args.to _ _ _ c.eq.ensures c.if-eq.false c.in_ok-try_clone.ensures c.in_ok-insert.ensures.updates.0 c.remove.ensures.updates.0 in
    absurd (file_found self.top self.nodes.entries _ _ c.args.from.now c.args.to self.sound.is_tree c.requires.is_file steps (sym c.in_default.ensures.value))

pub invariant_of-self-2 : goal.invariant_of-self-2
invariant_of-self-2 c =
    let self = c.args.self.now in
    let steps = ready self.nodes.entries _ _ c.args.from.now c.args.to _ _ _ c.eq.ensures c.if-eq.false c.in_ok-try_clone.ensures c.in_ok-insert.ensures.updates.0 c.remove.ensures.updates.0 in
    let put = certain c.insert-2.result _ _ c.insert-2.ensures.updates c.insert-2.ensures.absent (place_kept self.nodes.entries _ _ c.args.from.now c.args.to steps) in
    record { sound = sound_moved self.top self.nodes.entries _ _ _ c.args.from.now c.args.to _ _ self.sound c.requires.is_file c.requires.is_place c.requires.may_come steps (sym c.in-Some.ensures.value) put.0 c.insert-2.ensures.ordered }

-- the second insert takes no memory
pub returns-in_err-insert-2-clause-refused : goal.returns-in_err-insert-2-clause-refused
returns-in_err-insert-2-clause-refused c =
    let self = c.args.self.now in
    let steps = ready self.nodes.entries _ _ c.args.from.now c.args.to _ _ _ c.eq.ensures c.if-eq.false c.in_ok-try_clone.ensures c.in_ok-insert.ensures.updates.0 c.remove.ensures.updates.0 in
    absurd (place_kept self.nodes.entries _ _ c.args.from.now c.args.to steps c.in_err-insert-2.ensures.absent)

pub returns-clause-moved : goal.returns-clause-moved
returns-clause-moved c =
    let self = c.args.self.now in
    let steps = ready self.nodes.entries _ _ c.args.from.now c.args.to _ _ _ c.eq.ensures c.if-eq.false c.in_ok-try_clone.ensures c.in_ok-insert.ensures.updates.0 c.remove.ensures.updates.0 in
    moves self.top self.nodes.entries _ _ _ c.args.from.now c.args.to _ self.sound.is_tree c.requires.is_file c.requires.is_place steps (sym c.in-Some.ensures.value) c.in_ok-insert-2.ensures.updates.0

pub returns-clause-orders : goal.returns-clause-orders
returns-clause-orders c =
    let self = c.args.self.now in
    orders_moved self.top self.top self.nodes.entries _ self.sound.ordered c.insert-2.ensures.ordered c.args.from.now c.args.to (returns-clause-moved c)
