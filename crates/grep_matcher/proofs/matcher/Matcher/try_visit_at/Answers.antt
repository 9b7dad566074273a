use Rattle.std.proofs.Common.{Ok, Err, refl}
use Rattle.grep_matcher.specs.Visits.{at_the_end, at_answer}
use Rattle.grep_matcher.proofs.visiting.CoverCallLemmas.{leads_start, leads_broken, turn, stop_as, over, on_err, still}
use Rattle.grep_matcher.proofs.matcher.Matcher.try_visit_at.Goals as goal

pub loop-found-init : goal.loop-found-init
loop-found-init g c = record { ready = c.requires.callable; leads = leads_start _ _ _ _ _ _ _ c.requires.place }

pub returns-in_err-found-clause-broken : goal.returns-in_err-found-clause-broken
returns-in_err-found-clause-broken g c = on_err _ _ (leads_broken _ _ _ _ _ _ _ _ _ _ c.loop-found.invariant.leads)

pub returns-in-Ok-false-clause-visited : goal.returns-in-Ok-false-clause-visited
returns-in-Ok-false-clause-visited g c =
    let no = c.in-Ok-false.field-0-test in
    (at_answer (Ok c.in-Ok-false.field-0), tt, stop_as _ _ _ _ _ _ _ _ _ _ _ _ _ _ _ c.loop-found.invariant.leads c.in_ok-found.ensures.found c.in-Some.is c.matched.ensures c.in-Ok-false.is (λ e. cc))

pub returns-in-Err-clause-visited : goal.returns-in-Err-clause-visited
returns-in-Err-clause-visited g c =
    (at_answer (Err c.in-Err.error), refl, stop_as _ _ _ _ _ _ _ _ _ _ _ _ _ _ _ c.loop-found.invariant.leads c.in_ok-found.ensures.found c.in-Some.is c.matched.ensures c.in-Err.is (λ e. cc))

pub loop-found-preserved : goal.loop-found-preserved
loop-found-preserved g c =
    let i = c.in-Ok-true.is in
    let t = c.in-Ok-true.field-0-test in
    record {
      ready = still _ (goal.F-step g) _ _ _ _ _ c.requires.stays c.loop-found.invariant.ready c.matched.ensures (cc);
      leads = turn _ _ _ _ _ _ _ _ _ _ _ _ _ _ _ _ c.loop-found.invariant.leads c.in_ok-found.ensures.found c.in-Some.is c.after-from.ensures c.matched.ensures (cc) c.end.ensures;
    }

pub returns-clause-visited : goal.returns-clause-visited
returns-clause-visited g c = (at_the_end, tt, over _ _ _ _ _ _ _ _ _ _ _ c.loop-found.invariant.leads c.in_ok-found.ensures.found c.in_default.not-Some)
