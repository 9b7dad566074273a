use Rattle.std.proofs.Common.{◌∙◌, sym, refl, [], append-nil}
use Rattle.grep_matcher.specs.Reached.{at_first}
use Rattle.grep_matcher.proofs.references.ReachedLemmas.{reached_on}
use Rattle.grep_matcher.proofs.references.ReferenceLemmas.{turn, last_turn, tail_is, extends_twice, keeps_on, appends_on, answers_on}
use Rattle.grep_matcher.proofs.references.interpolate.Goals as goal

pub append_front-requires-clause-keeps : goal.append_front-requires-clause-keeps
append_front-requires-clause-keeps g c = keeps_on (goal.A-step g) (λ d. d.now.items) _ _ c.loop-place.invariant.adding c.requires.keeps

pub loop-place-init : goal.loop-place-init
loop-place-init g c = record {
  appends = c.requires.appends;
  answers = c.requires.answers;
  adding = at_first;
  looking = at_first;
  kept = ([], sym (append-nil c.args.dst.now.items));
  expanded = λ text_of number_of appends answers. refl;
}

pub loop-place-preserved : goal.loop-place-preserved
loop-place-preserved g c = record {
  appends = c.in_ok-taken.ensures.appends_on;
  answers = c.in_ok-taken.ensures.answers_on;
  adding = reached_on _ _ _ c.loop-place.invariant.adding _ c.in_ok-taken.ensures.adding;
  looking = reached_on _ _ _ c.loop-place.invariant.looking _ c.in_ok-taken.ensures.looking;
  kept = extends_twice _ _ _ _ _ c.loop-place.invariant.kept c.in_ok-extend_from_slice.ensures.items c.append_front.ensures.kept;
  expanded = λ text_of number_of appends answers. c.loop-place.invariant.expanded text_of number_of appends answers
      ∙ turn text_of number_of _ _ _ _ _ _ _ _ _ c.in-Some.ensures c.split_at.ensures.front c.split_at.ensures.back c.in_ok-extend_from_slice.ensures.items c.in_ok-taken.ensures.taken
      (c.in_ok-taken.ensures.added text_of number_of (appends_on (goal.A-step g) (λ d. d.now.items) _ _ c.loop-place.invariant.adding text_of appends)
      (answers_on (goal.N-step g) (λ name. name.now) _ _ c.loop-place.invariant.looking number_of answers)) (tail_is c.split_at.result.1.now c.in_ok-taken.taken);
}

pub returns-clause-expanded : goal.returns-clause-expanded
returns-clause-expanded g c text_of number_of appends answers =
    sym (c.loop-place.invariant.expanded text_of number_of appends answers ∙ last_turn text_of number_of _ _ _ c.in_default.ensures c.in_ok-extend_from_slice-2.ensures.items)
