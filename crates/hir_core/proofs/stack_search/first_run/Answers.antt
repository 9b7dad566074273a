use Rattle.std.proofs.Common.{◌≡◌, [], ◌∷◌, ◌++◌, ◌+◌, length, sym, ap, ◌∙◌, subst, arith}
use Rattle.std.proofs.lemmas.List.{nil_from_length}
use Rattle.std.specs.List.{AllByRecursion}
use Rattle.hir_tree.specs.Runs.{Run, begin, first}
use Rattle.hir_program.specs.Program.{way}
use Rattle.hir_core.specs.StackSearch.{Place, LiesBefore, IsSound, places_of, gives_at, pending, run_of}
use Rattle.hir_core.proofs.stack_search.StackLemmas.{sound-begin, pending-one, popped-gives, popped-weight, popped-sound}
use Rattle.hir_core.proofs.stack_search.first_run.Goals as goal

pub loop-next-init : goal.loop-next-init
loop-next-init c = record {
  gives = rw (c.in_ok-push.ensures.items, c.new-stack.ensures.items, c.in_ok-begin_at.ensures) (pending-one c.args.text.now c.args.spots.now _);
  sound =
      let start = ap (λ (p : Place). p.1) c.in_ok-begin_at.ensures in
      rw (c.in_ok-push.ensures.items, c.new-stack.ensures.items)
      (subst (IsSound c.args.text.now (c.args.groups + 1)) (sym start) (sound-begin c.args.text.now c.args.at c.args.groups c.requires.within), tt);
}

pub advance-requires-clause-within : goal.advance-requires-clause-within
advance-requires-clause-within c =
    (popped-sound c.args.text.now c.args.spots.now _ c.pop.new.self.items c.in-Some.next c.in-Some.ensures.items (c.args.groups + 1) c.loop-next.invariant.sound).1.within

pub returns-in-Some-2-clause-first : goal.returns-in-Some-2-clause-first
returns-in-Some-2-clause-first c =
    let text = c.args.text.now in
    let spots = c.args.spots.now in
    let step = rw c.in-Some-2.is at c.in_ok-found.ensures in
    let whole : gives_at text spots (0, way [] (begin c.args.at c.args.groups)) ≡ run_of c.in-Some-2.found ∷ pending text spots (places_of c.pop.new.self.items) =
    sym c.loop-next.invariant.gives ∙ popped-gives text spots _ c.pop.new.self.items c.in-Some.next c.in-Some.ensures.items
    ∙ ap (λ xs. xs ++ pending text spots (places_of c.pop.new.self.items)) step.0 in
    sym (ap first whole)

pub returns-in-Some-2-clause-lie : goal.returns-in-Some-2-clause-lie
returns-in-Some-2-clause-lie c =
    let step = rw c.in-Some-2.is at c.in_ok-found.ensures in
    let sound = popped-sound c.args.text.now c.args.spots.now _ c.pop.new.self.items c.in-Some.next c.in-Some.ensures.items (c.args.groups + 1) c.loop-next.invariant.sound in
    subst (λ (r : Run). AllByRecursion (LiesBefore r.at) r.groups) (sym step.1) sound.1.ended

pub returns-in-Some-2-clause-counted : goal.returns-in-Some-2-clause-counted
returns-in-Some-2-clause-counted c =
    let step = rw c.in-Some-2.is at c.in_ok-found.ensures in
    let sound = popped-sound c.args.text.now c.args.spots.now _ c.pop.new.self.items c.in-Some.next c.in-Some.ensures.items (c.args.groups + 1) c.loop-next.invariant.sound in
    ap (λ (r : Run). length r.groups) step.1 ∙ sound.1.counted

pub loop-next-smaller : goal.loop-next-smaller
loop-next-smaller c =
    let step = rw c.in_default-2.is at c.in_ok-found.ensures in
    omega (arith, step.1, popped-weight c.args.text.now c.args.spots.now _ c.pop.new.self.items c.in-Some.next c.in-Some.ensures.items)

pub loop-next-preserved : goal.loop-next-preserved
loop-next-preserved c =
    let text = c.args.text.now in
    let spots = c.args.spots.now in
    let step = rw c.in_default-2.is at c.in_ok-found.ensures in
    let sound = popped-sound text spots _ c.pop.new.self.items c.in-Some.next c.in-Some.ensures.items (c.args.groups + 1) c.loop-next.invariant.sound in
    record {
      gives = sym step.0 ∙ sym (popped-gives text spots _ c.pop.new.self.items c.in-Some.next c.in-Some.ensures.items) ∙ c.loop-next.invariant.gives;
      sound = step.2 (c.args.groups + 1) sound.1 sound.0;
    }

pub returns-clause-first : goal.returns-clause-first
unfolding pending
returns-clause-first c =
    let text = c.args.text.now in
    let spots = c.args.spots.now in
    let empty : c.loop-next.stack.items ≡ [] = nil_from_length _ (omega (arith, c.in_default.ensures.cases.0)) in
    let whole : gives_at text spots (0, way [] (begin c.args.at c.args.groups)) ≡ [] =
    sym c.loop-next.invariant.gives ∙ ap (λ xs. pending text spots (places_of xs)) empty in
    sym (ap first whole)
