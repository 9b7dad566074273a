use Rattle.std.proofs.Common.{◌≡◌, ◌+◌, ◌≤◌, [], length, sym, ap, ◌∙◌, subst, arith}
use Rattle.std.proofs.lemmas.List.{nil_from_length}
use Rattle.std.proofs.lemmas.Bool.{eqb-true}
use Rattle.hir_core.specs.Pass.{best_in, counted}
use Rattle.hir_core.proofs.block.ThreadsLemmas.{answer-start, answer-there, answer-done, none-from}
use Rattle.sd_base.specs.Steps.{IsTicked}
use Rattle.sd_base.proofs.StepsLemmas.{at_most, at_most_add, at_most_more, ticked_none}
use Rattle.hir_core.proofs.block.TryLemmas.{blocks_to}
use Rattle.hir_core.proofs.blocks.Blocks.search.Goals as goal

pub returns-then-branch-clause-first : goal.returns-then-branch-clause-first
returns-then-branch-clause-first g c =
    let found = c.in_ok-follow_first_way.ensures.found c.if-branch.true in
    answer-there c.args.text.now c.args.spots.now c.args.groups c.args.at c.pass_over.new.self.place c.from-starts.result.place
    (best_in c.follow_first_way.new.self.best) c.from-starts.ensures c.pass_over.ensures.after found.0
    (c.pass_over.ensures.none c.args.spots.now c.requires.filters) found.1 found.2

pub loop-begin-init : goal.loop-begin-init
loop-begin-init g c =
    let threads = c.in_ok-follow_first_way.ensures.threads ∙ c.clear.ensures in
    let best = ap best_in (c.in_ok-follow_first_way.ensures.best c.if-branch.false) ∙ c.clear-2.ensures in
    let silent = c.in_ok-follow_first_way.ensures.silent c.if-branch.false in
    record {
      from = none-from c.args.text.now c.pass_over.new.self.place c.follow_first_way.new.self.threads threads;
      answer =
          answer-start c.args.text.now c.args.spots.now c.args.groups c.args.at c.pass_over.new.self.place c.from-starts.result.place
          c.follow_first_way.new.self.threads (best_in c.follow_first_way.new.self.best) threads best c.from-starts.ensures c.pass_over.ensures.after
          c.pass_over.ensures.within (c.pass_over.ensures.none c.args.spots.now c.requires.filters);
      within = c.pass_over.ensures.within;
      starts = c.pass_over.ensures.within;
      after = omega (arith, c.pass_over.ensures.after, c.from-starts.ensures);
      next = λ e. omega arith;
      ticks = at_most (omega arith) (subst (λ steps. IsTicked g.L.Ledger.noted 0 c.args.steps.now steps) (sym silent) (ticked_none g.L.Ledger.noted c.args.steps.now));
    }

pub returns-clause-first : goal.returns-clause-first
returns-clause-first g c =
    sym (answer-done c.args.text.now c.args.spots.now c.args.groups c.loop-begin.starts.place c.loop-begin.begin c.loop-begin.self.threads
    (best_in c.loop-begin.self.best) (omega arith) c.loop-begin.invariant.from c.loop-begin.invariant.next)
    ∙ c.loop-begin.invariant.answer

pub returns-in_err-round-clause-ticks : goal.returns-in_err-round-clause-ticks
returns-in_err-round-clause-ticks g c =
    at_most_more
    (blocks_to c.args.at c.loop-begin.begin c.min-end.result (length c.args.text.now + 1) (counted c.args.spots.now) c.loop-begin.invariant.after
    (omega (arith, c.min-end.ensures, c.clamp-count.ensures)) (omega (arith, c.min-end.ensures)))
    (at_most_add c.loop-begin.invariant.ticks c.round.ensures.ticks)

pub returns-then-is_some-clause-ticks : goal.returns-then-is_some-clause-ticks
returns-then-is_some-clause-ticks g c =
    at_most_more
    (blocks_to c.args.at c.loop-begin.begin c.min-end.result (length c.args.text.now + 1) (counted c.args.spots.now) c.loop-begin.invariant.after
    (omega (arith, c.min-end.ensures, c.clamp-count.ensures)) (omega (arith, c.min-end.ensures)))
    (at_most_add c.loop-begin.invariant.ticks c.round.ensures.ticks)

pub loop-begin-preserved-then-is_empty : goal.loop-begin-preserved-then-is_empty
loop-begin-preserved-then-is_empty g c =
    let none_left = eqb-true _ _ (sym c.if-is_empty.ensures) in
    let empty : c.round.new.self.threads ≡ [] = nil_from_length _ (omega (arith, none_left)) in
    let past : c.min-end.result ≤ c.round.new.starts.place = c.in_ok-round.ensures.past (sym c.if-is_some.ensures) in
    let onward : c.loop-begin.begin ≤ c.min-end.result = omega (arith, c.min-end.ensures, c.clamp-count.ensures) in
    record {
      from = none-from c.args.text.now c.round.new.starts.place c.round.new.self.threads empty;
      answer = c.in_ok-round.ensures.answer ∙ c.loop-begin.invariant.answer;
      within = c.in_ok-round.ensures.within;
      starts = c.in_ok-round.ensures.within;
      after = omega (arith, c.loop-begin.invariant.after, onward, past);
      next = λ e. omega arith;
      ticks =
          at_most_more
          (blocks_to c.args.at c.loop-begin.begin c.min-end.result c.round.new.starts.place (counted c.args.spots.now) c.loop-begin.invariant.after onward past)
          (at_most_add c.loop-begin.invariant.ticks c.round.ensures.ticks);
    }

pub loop-begin-preserved : goal.loop-begin-preserved
loop-begin-preserved g c =
    let onward : c.loop-begin.begin ≤ c.min-end.result = omega (arith, c.min-end.ensures, c.clamp-count.ensures) in
    record {
      from = c.in_ok-round.ensures.from;
      answer = c.in_ok-round.ensures.answer ∙ c.loop-begin.invariant.answer;
      within = omega (arith, c.min-end.ensures);
      starts = c.in_ok-round.ensures.within;
      after = omega (arith, c.loop-begin.invariant.after, onward);
      next = c.in_ok-round.ensures.past;
      ticks =
          at_most_more
          (blocks_to c.args.at c.loop-begin.begin c.min-end.result c.min-end.result (counted c.args.spots.now) c.loop-begin.invariant.after onward (omega arith))
          (at_most_add c.loop-begin.invariant.ticks c.round.ensures.ticks);
    }
