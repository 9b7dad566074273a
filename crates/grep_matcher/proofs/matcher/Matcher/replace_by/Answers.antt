use Rattle.std.proofs.Common.{rules, ◌≡◌, ◌++◌, [], Ok, arith, slice_range}
use Rattle.grep_matcher.specs.Visits.{at_the_end, at_answer}
use Rattle.grep_matcher.proofs.visiting.CoverCallLemmas.{leads_start, turn, stop_as, over, written_by, replaced_one, extends_more, still, memory_caused}
use Rattle.grep_matcher.proofs.matcher.Matcher.replace_by.Goals as goal

pub spans-init : goal.spans-init
spans-init g c = record { ready = c.requires.callable; behind = omega arith; within = omega arith; kept = ([], search rules); leads = leads_start _ _ _ _ _ _ _ (omega arith) }

pub returns-in_default-clause-replaced : goal.returns-in_default-clause-replaced
returns-in_default-clause-replaced g c =
    written_by _ _ _ _ at_the_end tt (over _ _ _ _ _ _ _ _ _ _ _ c.spans.invariant.leads c.in-Ok.ensures.found c.in_default.not-Some) (search rules) c.put_rest.ensures.ok

pub returns-in_default-clause-failed : goal.returns-in_default-clause-failed
returns-in_default-clause-failed g c = memory_caused _ _ c.put_rest.ensures.memory

pub returns-in-Ok-false-clause-failed : goal.returns-in-Ok-false-clause-failed
returns-in-Ok-false-clause-failed g c = memory_caused _ _ c.put_rest-in-Ok-false.ensures.memory

pub returns-in-Ok-false-clause-replaced : goal.returns-in-Ok-false-clause-replaced
returns-in-Ok-false-clause-replaced g c =
    let no = c.in-Ok-false.field-0-test in
    let copied : c.put.new.dst.items ≡ c.spans.dst.items ++ slice_range c.args.haystack.now c.spans.copied c.in-Some.found.start = search rules in
    written_by _ _ _ _ (at_answer (Ok c.in-Ok-false.field-0)) tt
    (stop_as _ _ _ _ _ _ _ _ _ _ _ _ _ _ _ c.spans.invariant.leads c.in-Ok.ensures.found c.in-Some.is
    (replaced_one (goal.F-step g) (λ d. d.now.items) c.args.haystack.now _ _ _ _ _ _ _ c.append.ensures copied c.end.ensures) c.in-Ok-false.is (λ e. cc))
    (search rules) c.put_rest-in-Ok-false.ensures.ok

pub spans-preserved : goal.spans-preserved
spans-preserved g c =
    let yes = c.in-Ok-true.field-0-test in
    let is_true = c.in-Ok-true.is in
    let copied : c.put.new.dst.items ≡ c.spans.dst.items ++ slice_range c.args.haystack.now c.spans.copied c.in-Some.found.start = search rules in
    record {
      ready = still _ (λ f span r h. (d : _) × (e : _) × goal.F-step g f span d r e h) _ _ _ _ _ c.requires.stays c.spans.invariant.ready (_, _, c.append.ensures) (cc);
      behind = search rules;
      within = search rules;
      kept = extends_more _ _ _ _ _ c.spans.invariant.kept copied (c.requires.keeps _ _ _ _ _ _ c.append.ensures);
      leads = turn _ _ _ _ _ _ _ _ _ _ _ _ _ _ _ _ c.spans.invariant.leads c.in-Ok.ensures.found c.in-Some.is c.after-from.ensures
          (replaced_one (goal.F-step g) (λ d. d.now.items) c.args.haystack.now _ _ _ _ _ _ _ c.append.ensures copied c.end-copied.ensures) (cc) c.end-in-spans.ensures;
    }
