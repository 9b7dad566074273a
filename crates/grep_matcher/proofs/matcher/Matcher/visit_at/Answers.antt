use Rattle.grep_matcher.specs.Visits.{at_the_end, at_answer}
use Rattle.grep_matcher.proofs.visiting.CoverCallLemmas.{leads_start, leads_broken, turn, stop, over, on_err, still}
use Rattle.grep_matcher.proofs.matcher.Matcher.visit_at.Goals as goal

pub loop-found-init : goal.loop-found-init
loop-found-init g c = record { ready = c.requires.callable; leads = leads_start _ _ _ _ _ _ _ c.requires.place }

pub returns-in_err-found-clause-broken : goal.returns-in_err-found-clause-broken
returns-in_err-found-clause-broken g c = on_err _ _ (leads_broken _ _ _ _ _ _ _ _ _ _ c.loop-found.invariant.leads)

pub returns-then-not-matched-clause-visited : goal.returns-then-not-matched-clause-visited
returns-then-not-matched-clause-visited g c =
    let no = c.if-not-matched.true in
    (at_answer c.matched.result, tt, stop _ _ _ _ _ _ _ _ _ _ _ _ _ _ c.loop-found.invariant.leads c.in_ok-found.ensures.found c.in-Some.is c.matched.ensures (λ e. cc))

pub loop-found-preserved : goal.loop-found-preserved
loop-found-preserved g c = record {
  ready = still _ (goal.F-step g) _ _ _ _ _ c.requires.stays c.loop-found.invariant.ready c.matched.ensures c.if-not-matched.false;
  leads = turn _ _ _ _ _ _ _ _ _ _ _ _ _ _ _ _ c.loop-found.invariant.leads c.in_ok-found.ensures.found c.in-Some.is c.after-from.ensures c.matched.ensures c.if-not-matched.false c.end.ensures;
}

pub returns-clause-visited : goal.returns-clause-visited
returns-clause-visited g c = (at_the_end, tt, over _ _ _ _ _ _ _ _ _ _ _ c.loop-found.invariant.leads c.in_ok-found.ensures.found c.in_default.not-Some)
