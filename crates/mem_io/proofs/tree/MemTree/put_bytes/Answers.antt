use Rattle.std.proofs.Common.{sym, ap}
use Rattle.std.specs.Prelude.{is_some}
use Rattle.mem_io.proofs.tree.SoundLemmas.{found_not_top, puts, puts_nowhere, sound_put}
use Rattle.mem_io.proofs.tree.OrderLemmas.{orders_put}
use Rattle.mem_io.proofs.tree.MemTree.put_bytes.Goals as goal

pub invariant_of-self : goal.invariant_of-self
invariant_of-self c =
    let self = c.args.self.now in
    let found = sym c.in-Some.ensures.value in
    let after = c.get_mut.follows.holds c.put_bytes.new.self in
    record { sound = sound_put self.top self.nodes.entries _ c.args.place.now c.args.bytes.items _ _ _ self.sound found c.put_bytes.ensures (after.3 (ap is_some found)).0 after.4 }

pub returns-in-Some-clause-put : goal.returns-in-Some-clause-put
returns-in-Some-clause-put c =
    let self = c.args.self.now in
    let found = sym c.in-Some.ensures.value in
    let after = c.get_mut.follows.holds c.put_bytes.new.self in
    puts self.top self.nodes.entries _ c.args.place.now c.args.bytes.items _ _ (found_not_top self.nodes.entries _ _ found self.sound.no_top) found c.put_bytes.ensures (after.3 (ap is_some found)).0

pub returns-in_default-clause-put : goal.returns-in_default-clause-put
returns-in_default-clause-put c =
    let self = c.args.self.now in
    puts_nowhere self.top self.nodes.entries _ c.args.place.now c.args.bytes.items self.sound.is_tree (sym c.in_default.ensures.value) (ap (λ n. n.entries) c.get_mut.follows.holds-at-none)

pub returns-in-Some-clause-orders : goal.returns-in-Some-clause-orders
returns-in-Some-clause-orders c =
    let self = c.args.self.now in
    let found = sym c.in-Some.ensures.value in
    let after = c.get_mut.follows.holds c.put_bytes.new.self in
    orders_put self.top self.top self.nodes.entries _ self.sound.ordered after.4 c.args.place.now c.args.bytes.items (returns-in-Some-clause-put c)
