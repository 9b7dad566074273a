use Rattle.std.proofs.Common.{rules, refl, ◌≡◌, ◌++◌, [], Ok, Some, arith, slice_range, length}
use Rattle.grep_matcher.specs.Visits.{at_the_end, at_answer, AppendsWithGroups}
use Rattle.grep_matcher.proofs.captures.GroupLemmas.{first_accepted, none_found}
use Rattle.grep_matcher.proofs.visiting.CoverCallLemmas.{leads_start, leads_end, turn, stop_as, written_by, replaced_one, extends_more, still, memory_caused}
use Rattle.grep_matcher.proofs.matcher.Matcher.replace_with_captures_at_by.Goals as goal

pub spans-init : goal.spans-init
spans-init g c = record { ready = c.requires.callable; fit = c.requires.fit; behind = omega arith; within = c.requires.place; kept = ([], search rules); leads = leads_start _ _ _ _ _ _ _ c.requires.place }

pub returns-in-Ok-false-clause-replaced : goal.returns-in-Ok-false-clause-replaced
returns-in-Ok-false-clause-replaced g c =
    written_by _ _ _ _ at_the_end tt (leads_end _ _ _ _ _ _ _ _ _ _ c.spans.invariant.leads (none_found _ _ _ _ _ _ c.in-Ok-false.ensures.found c.in-Ok-false.field-0-test)) (search rules) c.put_rest.ensures.ok

pub returns-in-Ok-false-clause-failed : goal.returns-in-Ok-false-clause-failed
returns-in-Ok-false-clause-failed g c = memory_caused _ _ c.put_rest.ensures.memory

pub returns-in-Ok-false-append-clause-replaced : goal.returns-in-Ok-false-append-clause-replaced
returns-in-Ok-false-append-clause-replaced g c =
    let m = c.args.self.now in
    let h = c.args.haystack.now in
    let found = c.as_match-found.result in
    let first = first_accepted (g.Self.Matcher.has_groups m) (g.Self.Matcher.preferred m h) (length h) (g.Self.Matcher.groups_at m h) (g.met.Self.Matcher.lawful_groups m h) _ _ _ found _ c.in-Ok-true.ensures.found c.in-Ok-true.field-0-test c.as_match-found.ensures in
    let no = c.in-Ok-false-append.field-0-test in
    let copied : c.put.new.dst.items ≡ c.spans.dst.items ++ slice_range h c.spans.copied found.start = search rules in
    written_by _ _ _ _ (at_answer (Ok c.in-Ok-false-append.field-0)) tt
    (stop_as _ _ _ _ _ _ _ _ _ _ _ (Some found) found _ _ c.spans.invariant.leads first.0 refl
    (replaced_one (λ f span d r e f'. AppendsWithGroups (goal.F-step g) (λ x. g.Self.Captures.Captures.groups x.now) (g.Self.Matcher.groups_at m h) f span d r e f') (λ d. d.now.items) h _ _ _ _ _ _ _ (_, first.1, c.append.ensures) copied c.end.ensures) c.in-Ok-false-append.is (λ e. cc))
    (search rules) c.put_rest-in-Ok-false-append.ensures.ok

pub returns-in-Ok-false-append-clause-failed : goal.returns-in-Ok-false-append-clause-failed
returns-in-Ok-false-append-clause-failed g c = memory_caused _ _ c.put_rest-in-Ok-false-append.ensures.memory

pub spans-preserved : goal.spans-preserved
spans-preserved g c =
    let m = c.args.self.now in
    let h = c.args.haystack.now in
    let found = c.as_match-found.result in
    let first = first_accepted (g.Self.Matcher.has_groups m) (g.Self.Matcher.preferred m h) (length h) (g.Self.Matcher.groups_at m h) (g.met.Self.Matcher.lawful_groups m h) _ _ _ found _ c.in-Ok-true.ensures.found c.in-Ok-true.field-0-test c.as_match-found.ensures in
    let yes = c.in-Ok-true-append.field-0-test in
    let is_true = c.in-Ok-true-append.is in
    let copied : c.put.new.dst.items ≡ c.spans.dst.items ++ slice_range h c.spans.copied found.start = search rules in
    record {
      ready = still _ (λ f x r f'. (d : _) × (e : _) × goal.F-step g f x d r e f') _ _ _ _ _ c.requires.stays c.spans.invariant.ready (_, _, c.append.ensures) (cc);
      fit = c.in-Ok-true.ensures.kept;
      behind = search rules;
      within = search rules;
      kept = extends_more _ _ _ _ _ c.spans.invariant.kept copied (c.requires.keeps _ _ _ _ _ _ c.append.ensures);
      leads = turn _ _ _ _ _ _ _ _ _ _ _ _ (Some found) found _ _ c.spans.invariant.leads first.0 refl c.after-from.ensures
          (replaced_one (λ f span d r e f'. AppendsWithGroups (goal.F-step g) (λ x. g.Self.Captures.Captures.groups x.now) (g.Self.Matcher.groups_at m h) f span d r e f') (λ d. d.now.items) h _ _ _ _ _ _ _ (_, first.1, c.append.ensures) copied c.end-copied.ensures) (cc) c.end-in-spans.ensures;
    }
