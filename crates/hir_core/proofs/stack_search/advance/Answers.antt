use Rattle.std.proofs.Common.{◌≡◌, false, ◌∷◌, sym, ap, ◌∙◌}
use Rattle.std.specs.Prelude.{◌||◌, ◌==◌}
use Rattle.hir_tree.specs.Runs.{is_seen}
use Rattle.hir_core.specs.StackSearch.{members, place_of, places_of}
use Rattle.hir_program.specs.declared.spot.Spot.TheVariants as spot
use Rattle.hir_core.proofs.stack_search.StackLemmas.{SameSeen, seen-members, unmarked_unless, advance-match, advance-past, advance-seen, advance-close, advance-marked}
use Rattle.hir_core.proofs.stack_search.advance.Goals as goal

pub returns-in_default : goal.returns-in_default
returns-in_default c =
    advance-past c.args.text.now c.args.spots.now c.requires.falls c.args.from.spot (place_of c.args.from).1 (places_of c.args.stack.now.items)
    c.in_default.ensures.lookup.3

pub returns-in-Match : goal.returns-in-Match
returns-in-Match c =
    advance-match c.args.text.now c.args.spots.now c.requires.falls c.args.from.spot (place_of c.args.from).1
    (places_of c.args.stack.now.items) (places_of c.args.stack.now.items) (sym (c.in-Some.ensures.lookup.3.1 spot.Fail) ∙ c.in-Match.is)

pub returns-in-Close : goal.returns-in-Close
returns-in-Close c =
    advance-close c.args.text.now c.args.spots.now c.requires.falls c.args.from.spot _ _ (place_of c.args.from).1
    (places_of c.args.stack.now.items) (places_of c.lead.new.stack.items)
    (sym (c.in-Some.ensures.lookup.3.1 spot.Fail) ∙ c.in-Close.is) (rw c.in-Close.is at c.in_ok-lead.ensures)

pub returns-then-has : goal.returns-then-has
returns-then-has c =
    advance-seen c.args.text.now c.args.spots.now c.requires.falls c.args.from.spot (place_of c.args.from).1 c.in-Some.spot.now
    (places_of c.args.stack.now.items) (sym (c.in-Some.ensures.lookup.3.1 spot.Fail))
    (unmarked_unless _ c.in_default-spot.not-Match c.in_default-spot-2.not-Close)
    (seen-members c.args.from.seen c.args.from.spot ∙ sym c.if-has.ensures)

pub returns : goal.returns
returns c =
    let q = c.args.from.spot in
    let new : is_seen q (members c.args.from.seen) ≡ false = seen-members c.args.from.seen q ∙ sym c.if-has.ensures in
    let same : SameSeen (q ∷ members c.args.from.seen) (members c.add.new.self) =
    λ m. ap (λ b. (q == m) || b) (seen-members c.args.from.seen m) ∙ sym (c.in_ok-add.ensures m) ∙ sym (seen-members c.add.new.self m) in
    advance-marked c.args.text.now c.args.spots.now c.requires.falls q (place_of c.args.from).1 (members c.add.new.self) c.in-Some.spot.now
    (places_of c.args.stack.now.items) (places_of c.lead-2.new.stack.items) (sym (c.in-Some.ensures.lookup.3.1 spot.Fail))
    (unmarked_unless _ c.in_default-spot.not-Match c.in_default-spot-2.not-Close) new same c.in_ok-lead-2.ensures
