use Rattle.std.proofs.Common.{◌≡◌, [], subst, arith}
use Rattle.std.proofs.lemmas.List.{nil_from_length}
use Rattle.hir_program.proofs.scan.reach.ReachLemmas.{Walks, Walks-visited, walk_weight-visited, Walks-end}
use Rattle.hir_program.proofs.scan.reach.reach.Goals as goal

pub loop-place-preserved : goal.loop-place-preserved
loop-place-preserved c =
    Walks-visited c.args.spots.now c.args.look c.args.from c.loop-place.reached.items c.loop-place.stack.items c.pop.new.self.items c.in-Some.place c.in-Some.ensures.items
    c.deref_mut.result.now c.visit.new.reached c.deref_mut.ensures.value c.in_ok-visit.ensures.reached c.visit.new.stack.items c.in_ok-visit.ensures.stack
    c.loop-place.reached.len (omega arith) c.loop-place.invariant

pub loop-place-smaller : goal.loop-place-smaller
loop-place-smaller c =
    walk_weight-visited c.args.spots.now c.args.look c.args.from c.loop-place.reached.items c.loop-place.stack.items c.pop.new.self.items c.in-Some.place c.in-Some.ensures.items
    c.deref_mut.result.now c.visit.new.reached c.deref_mut.ensures.value c.in_ok-visit.ensures.reached c.visit.new.stack.items c.in_ok-visit.ensures.stack
    c.loop-place.reached.len (omega arith)

pub returns-clause-from : goal.returns-clause-from
returns-clause-from c =
    let empty : c.loop-place.stack.items ≡ [] = nil_from_length _ (omega (arith, c.in_default.ensures.cases.0)) in
    (Walks-end c.args.spots.now c.args.look c.args.from c.loop-place.reached.items (subst (Walks c.args.spots.now c.args.look c.args.from c.loop-place.reached.items) empty c.loop-place.invariant)).0

pub returns-clause-closed : goal.returns-clause-closed
returns-clause-closed c =
    let empty : c.loop-place.stack.items ≡ [] = nil_from_length _ (omega (arith, c.in_default.ensures.cases.0)) in
    (Walks-end c.args.spots.now c.args.look c.args.from c.loop-place.reached.items (subst (Walks c.args.spots.now c.args.look c.args.from c.loop-place.reached.items) empty c.loop-place.invariant)).1
