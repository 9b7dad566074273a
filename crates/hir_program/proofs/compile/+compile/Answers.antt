use Rattle.std.proofs.Common.{◌≡◌, ◌+◌, ◌-◌, [], ◌∷◌, ◌++◌, OnOk, map, true, false, ap, sym, ◌∙◌, subst, arith, rules}
use Rattle.hir_tree.specs.Core.{Core, choice_all, copies, empty, group, numbers, pair, pair_all, plus, up_to}
use Rattle.hir_tree.specs.Cores.{core_of}
use Rattle.hir_program.specs.Laid.{Lays}
use Rattle.hir_program.specs.declared.spot.Spot.TheVariants as spot
use Rattle.hir_tree.specs.declared.hir.Hir.{the_lemmas}
use Rattle.hir_tree.proofs.CoreNumbersLemmas.{optional_numbers, some_numbers}
use Rattle.hir_tree.proofs.CoresLemmas.{core_concat, core_alternation}
use Rattle.hir_program.proofs.compile.CompileLemmas.{on_ok, length_pushed, lays_group, lays_greedy, lays_lazy, lays_last, lays_empties, waits_pair, waits_choice, waits_choices, choices_hold, waits_row, row_holds, waits_copies, waits_lazy, waits_greedy}
use Rattle.hir_program.proofs.size.SizeLemmas.{copies_alone, copies_more, copies_below, copies_endless, copies_hold, up_to_some, up_to_one, up_to_hold}
use Rattle.hir_program.proofs.compile.+compile.Goals as goal

pub compile-lay_row-requires : goal.compile-lay_row-requires
compile-lay_row-requires t c =
    let parts : core_of c.args.hir.now ≡ pair_all (map core_of c.parts.result.now) =
    ap core_of c.in-Concat.is ∙ core_concat c.in-Concat.hirs ∙ ap (λ ps. pair_all (map core_of ps)) (sym c.parts.ensures) in
    (search (rules, the_lemmas), omega (arith, c.requires, ap numbers parts))

pub compile-lay_choice-requires : goal.compile-lay_choice-requires
compile-lay_choice-requires t c =
    let parts : core_of c.args.hir.now ≡ choice_all (map core_of c.parts-in-Alternation.result.now) =
    ap core_of c.in-Alternation.is ∙ core_alternation c.in-Alternation.hirs ∙ ap (λ ps. choice_all (map core_of ps)) (sym c.parts-in-Alternation.ensures) in
    (search (rules, the_lemmas), omega (arith, c.requires, ap numbers parts))

pub compile-returns-in_ok-push_ends-in-Capture : goal.compile-returns-in_ok-push_ends-in-Capture
compile-returns-in_ok-push_ends-in-Capture t c =
    let index = c.in-Capture.group.index in
    let body = core_of c.deref-in-Capture.result.now in
    let whole : group index body ≡ core_of c.args.hir.now = sym (ap core_of c.in-Capture.is ∙ ap (λ part. group index (core_of part)) (sym c.deref-in-Capture.ensures)) in
    on_ok c.compile.result
    (λ l. subst (Lays c.args.out.now.items c.compile.new.out.items c.args.next) whole
    (lays_group c.args.out.now.items c.push_ends.new.out.items c.compile.new.out.items c.args.next c.len.result index body (omega arith)
    (c.in_ok-push_ends-in-Capture.ensures ∙ ap (λ n. c.args.out.now.items ++ spot.Open (n + 2) ∷ spot.Close index c.args.next ∷ []) (sym c.len.ensures)) l))
    c.compile.ensures

pub compile-returns-in-Concat : goal.compile-returns-in-Concat
compile-returns-in-Concat t c =
    let parts : pair_all (map core_of c.parts.result.now) ≡ core_of c.args.hir.now =
    ap (λ ps. pair_all (map core_of ps)) c.parts.ensures ∙ sym (ap core_of c.in-Concat.is ∙ core_concat c.in-Concat.hirs) in
    subst (λ (core : Core). OnOk c.lay_row.result (Lays c.args.out.now.items c.lay_row.new.out.items c.args.next core)) parts c.lay_row.ensures

pub compile-returns-in-Alternation : goal.compile-returns-in-Alternation
compile-returns-in-Alternation t c =
    let parts : choice_all (map core_of c.parts-in-Alternation.result.now) ≡ core_of c.args.hir.now =
    ap (λ ps. choice_all (map core_of ps)) c.parts-in-Alternation.ensures ∙ sym (ap core_of c.in-Alternation.is ∙ core_alternation c.in-Alternation.hirs) in
    subst (λ (core : Core). OnOk c.lay_choice.result (Lays c.args.out.now.items c.lay_choice.new.out.items c.args.next core)) parts c.lay_choice.ensures

pub lay_any-returns-in_ok-lay_rounds : goal.lay_any-returns-in_ok-lay_rounds
lay_any-returns-in_ok-lay_rounds t c =
    let rounds = plus c.args.greedy (core_of c.args.part.now) in
    let n = c.len-first.result in
    on_ok c.lay_empty.result
    (lays_greedy c.args.greedy c.args.out.now.items c.push_split.new.out.items c.lay_rounds.new.out.items c.lay_empty.new.out.items c.args.next n
    (n + 1 + 2 + c.size.result) rounds c.if-greedy.true (omega arith) (omega (arith, c.size.ensures, c.requires, optional_numbers c.args.greedy rounds))
    c.in_ok-push_split.ensures c.in_ok-lay_rounds.ensures)
    c.lay_empty.ensures

pub lay_any-returns-in_ok-lay_empty : goal.lay_any-returns-in_ok-lay_empty
lay_any-returns-in_ok-lay_empty t c =
    let rounds = plus c.args.greedy (core_of c.args.part.now) in
    let n = c.len-first.result in
    on_ok c.lay_rounds-else-greedy.result
    (lays_lazy c.args.greedy c.args.out.now.items c.push_split-else-greedy.new.out.items c.lay_empty-else-greedy.new.out.items c.lay_rounds-else-greedy.new.out.items
    c.args.next n (n + 1 + 1) rounds c.if-greedy.false (omega arith) (omega arith) c.in_ok-push_split-2.ensures c.in_ok-lay_empty.ensures)
    c.lay_rounds-else-greedy.ensures

pub lay_at_least-lay_copies-requires : goal.lay_at_least-lay_copies-requires
lay_at_least-lay_copies-requires t c =
    let a = core_of c.args.part.now in
    (search rules, omega (arith, c.requires, ap numbers (copies_endless c.args.greedy c.args.least a (omega arith)), copies_below (c.args.least - 1) a (plus c.args.greedy a)))

pub lay_at_least-lay_rounds-requires : goal.lay_at_least-lay_rounds-requires
lay_at_least-lay_rounds-requires t c =
    let a = core_of c.args.part.now in
    let laid = c.in_ok-lay_copies.ensures c.args.next (plus c.args.greedy a) in
    (search rules, omega (arith, c.requires, ap numbers (copies_endless c.args.greedy c.args.least a (omega arith)), laid.size))

pub lay_at_least-returns : goal.lay_at_least-returns
lay_at_least-returns t c =
    let a = core_of c.args.part.now in
    on_ok c.lay_rounds.result
    (λ l. subst (Lays c.args.out.now.items c.lay_rounds.new.out.items c.args.next) (copies_endless c.args.greedy c.args.least a (omega arith))
    ((c.in_ok-lay_copies.ensures c.args.next (plus c.args.greedy a)).whole c.lay_rounds.new.out.items l))
    c.lay_rounds.ensures

pub lay_choice-loop-part-preserved : goal.lay_choice-loop-part-preserved
lay_choice-loop-part-preserved t c =
    let parts = c.args.parts.now in
    let part = c.part-item.result in
    let n = c.len-first.result in
    let held = choices_hold core_of parts c.loop-part.part-index part part (omega arith) c.part-item.is in
    waits_choices core_of parts c.loop-part.part-index part part c.args.out.now.items c.loop-part.out.items c.compile.new.out.items c.args.next (choice_all (map core_of parts))
    (omega arith) c.part-item.is
    (λ b. waits_choice c.loop-part.out.items c.push_split.new.out.items c.compile.new.out.items c.args.next n (n + 1 + c.size.result) (core_of part) b (omega arith) (omega (arith, held, c.size.ensures, c.requires, c.loop-part.invariant.size))
    c.in_ok-push_split.ensures c.in_ok-compile.ensures)
    c.loop-part.invariant

pub lay_copies-lay_first-requires : goal.lay_copies-lay_first-requires
lay_copies-lay_first-requires t c =
    let a = core_of c.args.part.now in
    let held = copies_hold c.args.count a empty (omega arith) in
    let left = copies_hold c.loop-left._left a empty (omega arith) in
    (search rules, (omega (arith, c.size-size.ensures, c.requires, held), omega (arith, c.requires, left, (c.loop-left.invariant 0 empty).size)))

pub lay_copies-loop-left-preserved : goal.lay_copies-loop-left-preserved
lay_copies-loop-left-preserved t c next b =
    let a = core_of c.args.part.now in
    waits_copies c.args.out.now.items c.loop-left.out.items c.lay_first.new.out.items next c.loop-left._left (copies c.args.count a b) a b (omega arith)
    c.in_ok-lay_first.ensures (c.loop-left.invariant next b)

pub lay_copies-returns : goal.lay_copies-returns
lay_copies-returns t c next b =
    let none : c.loop-left._left ≡ 0 = omega arith in
    rw none at (c.loop-left.invariant next b)

pub lay_first-returns : goal.lay_first-returns
lay_first-returns t c =
    let n = c.len-first.result in
    on_ok c.compile.result
    (λ l next b. waits_pair c.args.out.now.items c.push_jump.new.out.items c.compile.new.out.items next n (n + 1 + c.args.size) (core_of c.args.part.now) b
    (omega arith) (omega (arith, c.requires.size)) c.in_ok-push_jump.ensures l)
    c.compile.ensures

pub lay_greedy-lay_first-requires : goal.lay_greedy-lay_first-requires
lay_greedy-lay_first-requires t c =
    let a = core_of c.args.part.now in
    let held = up_to_hold true c.args.count a c.requires.some in
    let left = up_to_some true c.loop-left._left a (omega arith) in
    let more = length_pushed c.loop-left.out.items c.push_split.new.out.items _ c.in_ok-push_split.ensures in
    (search rules, (omega (arith, c.size-size.ensures, c.requires.fits, held), omega (arith, c.requires.fits, left, more, c.loop-left.invariant.waits.size)))

pub lay_greedy-overflow_sub-left_out-in-loop-left : goal.lay_greedy-overflow_sub-left_out-in-loop-left
lay_greedy-overflow_sub-left_out-in-loop-left t c =
    omega (arith, c.loop-left.invariant.last, c.loop-left.invariant.waits.size, up_to_some true c.loop-left._left (core_of c.args.part.now) (omega arith))

pub lay_greedy-loop-left-preserved : goal.lay_greedy-loop-left-preserved
lay_greedy-loop-left-preserved t c =
    let a = core_of c.args.part.now in
    let left = up_to_some true c.loop-left._left a (omega arith) in
    let size = c.loop-left.invariant.waits.size in
    let last = c.loop-left.invariant.last in record {
      waits = waits_greedy c.args.out.now.items c.loop-left.out.items c.push_split.new.out.items c.lay_first.new.out.items c.args.next c.len-in-loop-left.result
          c.loop-left.left_out c.args.count c.loop-left._left (up_to true c.args.count a) a (omega arith) c.loop-left.invariant.within (omega arith)
          (omega (arith, left, size, last, c.len-in-loop-left.ensures)) c.in_ok-push_split.ensures c.in_ok-lay_first.ensures c.loop-left.invariant.waits;
      some = omega arith;
      within = omega (arith, c.loop-left.invariant.within);
      last = omega (arith, left, size, last, c.loop-left.invariant.within);
    }

pub lay_greedy-compile-requires : goal.lay_greedy-compile-requires
lay_greedy-compile-requires t c =
    let left = up_to_one true c.loop-left._left (core_of c.args.part.now) (omega (arith, c.loop-left.invariant.some)) in
    let more = length_pushed c.loop-left.out.items c.push_split-2.new.out.items _ c.in_ok-push_split-2.ensures in
    (search rules, omega (arith, c.requires.fits, left, more, c.loop-left.invariant.waits.size))

pub lay_greedy-returns : goal.lay_greedy-returns
lay_greedy-returns t c =
    let a = core_of c.args.part.now in
    let one : c.loop-left._left ≡ 1 = omega (arith, c.loop-left.invariant.some) in
    let left = up_to_one true c.loop-left._left a one in
    on_ok c.lay_empties.result
    (lays_empties c.args.out.now.items c.loop-left.out.items c.push_split-2.new.out.items c.compile.new.out.items c.lay_empties.new.out.items c.args.next c.len-2.result
    c.loop-left.left_out c.args.count c.loop-left._left (up_to true c.args.count a) a one c.requires.some (omega arith)
    (omega (arith, left, c.loop-left.invariant.waits.size, c.loop-left.invariant.last, c.len-2.ensures)) c.in_ok-push_split-2.ensures c.loop-left.invariant.waits
    c.in_ok-compile.ensures)
    c.lay_empties.ensures

pub lay_lazy-lay_or_none-requires : goal.lay_lazy-lay_or_none-requires
lay_lazy-lay_or_none-requires t c =
    omega (arith, c.requires.fits, up_to_some false c.loop-left._left (core_of c.args.part.now) (omega arith), c.loop-left.invariant.waits.size)

pub lay_lazy-lay_first-requires : goal.lay_lazy-lay_first-requires
lay_lazy-lay_first-requires t c =
    let a = core_of c.args.part.now in
    let held = up_to_hold false c.args.count a c.requires.some in
    let left = up_to_some false c.loop-left._left a (omega arith) in
    let rest = pair a (up_to false (c.loop-left._left - 1) a) in
    let out = (c.in_ok-lay_or_none.ensures rest).size in
    (search rules, (omega (arith, c.size-size.ensures, c.requires.fits, held), omega (arith, c.requires.fits, left, out, optional_numbers false rest, c.loop-left.invariant.waits.size)))

pub lay_lazy-loop-left-preserved : goal.lay_lazy-loop-left-preserved
lay_lazy-loop-left-preserved t c =
    let a = core_of c.args.part.now in record {
      waits = waits_lazy c.args.out.now.items c.loop-left.out.items c.lay_or_none.new.out.items c.lay_first.new.out.items c.args.next c.loop-left._left
          (up_to false c.args.count a) a (omega arith) c.in_ok-lay_or_none.ensures c.in_ok-lay_first.ensures c.loop-left.invariant.waits;
      some = omega arith;
    }

pub lay_lazy-lay_or_none-requires-2 : goal.lay_lazy-lay_or_none-requires-2
lay_lazy-lay_or_none-requires-2 t c =
    omega (
      arith,
      c.requires.fits,
      up_to_one false c.loop-left._left (core_of c.args.part.now) (omega (arith, c.loop-left.invariant.some)),
      c.loop-left.invariant.waits.size,
      some_numbers (core_of c.args.part.now),
    )

pub lay_lazy-compile-requires : goal.lay_lazy-compile-requires
lay_lazy-compile-requires t c =
    let a = core_of c.args.part.now in
    let left = up_to_one false c.loop-left._left a (omega (arith, c.loop-left.invariant.some)) in
    let out = (c.in_ok-lay_or_none-2.ensures a).size in
    (search rules, omega (arith, c.requires.fits, left, out, optional_numbers false a, c.loop-left.invariant.waits.size))

pub lay_lazy-returns : goal.lay_lazy-returns
lay_lazy-returns t c =
    let a = core_of c.args.part.now in
    on_ok c.compile.result
    (lays_last c.args.out.now.items c.loop-left.out.items c.lay_or_none-2.new.out.items c.compile.new.out.items c.args.next c.loop-left._left (up_to false c.args.count a) a
    (omega (arith, c.loop-left.invariant.some)) c.in_ok-lay_or_none-2.ensures c.loop-left.invariant.waits)
    c.compile.ensures

pub lay_row-lay_first-requires : goal.lay_row-lay_first-requires
lay_row-lay_first-requires t c =
    let part = c.index-parts-i.result in
    let held = row_holds core_of c.args.parts.now c.loop-i.i part part (omega arith) c.index-parts-i.is in
    (search (rules, the_lemmas), (omega (arith, held, c.size.ensures, c.requires, c.loop-i.invariant.size), omega (arith, held, c.requires, c.loop-i.invariant.size)))

pub lay_row-loop-i-preserved : goal.lay_row-loop-i-preserved
lay_row-loop-i-preserved t c =
    let parts = c.args.parts.now in
    let part = c.index-parts-i.result in
    waits_row core_of parts c.loop-i.i part part c.args.out.now.items c.loop-i.out.items c.lay_first.new.out.items c.args.next (pair_all (map core_of parts))
    (omega arith) c.index-parts-i.is c.in_ok-lay_first.ensures c.loop-i.invariant

pub lay_with_more-lay_copies-requires : goal.lay_with_more-lay_copies-requires
lay_with_more-lay_copies-requires t c =
    let a = core_of c.args.part.now in
    let rest = up_to c.args.greedy c.args.more a in
    (search rules, omega (arith, c.requires, ap numbers (copies_more c.args.greedy c.args.least c.args.more a (omega arith)), copies_below c.args.least a rest))

pub lay_with_more-lay_up_to-requires : goal.lay_with_more-lay_up_to-requires
lay_with_more-lay_up_to-requires t c =
    let a = core_of c.args.part.now in
    let rest = up_to c.args.greedy c.args.more a in
    let laid = (c.in_ok-lay_copies.ensures c.args.next rest).size in
    (search rules, (omega arith, omega (arith, c.requires, ap numbers (copies_more c.args.greedy c.args.least c.args.more a (omega arith)), laid)))

pub lay_with_more-returns-then-more-gt0 : goal.lay_with_more-returns-then-more-gt0
lay_with_more-returns-then-more-gt0 t c =
    let a = core_of c.args.part.now in
    on_ok c.lay_up_to.result
    (λ l. subst (Lays c.args.out.now.items c.lay_up_to.new.out.items c.args.next) (copies_more c.args.greedy c.args.least c.args.more a (omega arith))
    ((c.in_ok-lay_copies.ensures c.args.next (up_to c.args.greedy c.args.more a)).whole c.lay_up_to.new.out.items l))
    c.lay_up_to.ensures

pub lay_with_more-lay_copies-requires-2 : goal.lay_with_more-lay_copies-requires-2
lay_with_more-lay_copies-requires-2 t c =
    let a = core_of c.args.part.now in
    (search rules, omega (arith, c.requires, ap numbers (copies_alone c.args.greedy c.args.least c.args.more a (omega arith) (omega arith)), copies_below (c.args.least - 1) a a))

pub lay_with_more-compile-requires : goal.lay_with_more-compile-requires
lay_with_more-compile-requires t c =
    let a = core_of c.args.part.now in
    let laid = (c.in_ok-lay_copies-2.ensures c.args.next a).size in
    (search rules, omega (arith, c.requires, ap numbers (copies_alone c.args.greedy c.args.least c.args.more a (omega arith) (omega arith)), laid))

pub lay_with_more-returns : goal.lay_with_more-returns
lay_with_more-returns t c =
    let a = core_of c.args.part.now in
    on_ok c.compile.result
    (λ l. subst (Lays c.args.out.now.items c.compile.new.out.items c.args.next) (copies_alone c.args.greedy c.args.least c.args.more a (omega arith) (omega arith))
    ((c.in_ok-lay_copies-2.ensures c.args.next a).whole c.compile.new.out.items l))
    c.compile.ensures
