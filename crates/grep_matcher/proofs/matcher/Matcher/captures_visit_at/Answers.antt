use Rattle.std.proofs.Common.{refl, Some, length}
use Rattle.grep_matcher.specs.Visits.{at_the_end, at_answer}
use Rattle.grep_matcher.proofs.captures.GroupLemmas.{first_accepted, none_found}
use Rattle.grep_matcher.proofs.visiting.CoverCallLemmas.{leads_start, leads_broken, leads_end, turn, stop, on_err, still}
use Rattle.grep_matcher.proofs.matcher.Matcher.captures_visit_at.Goals as goal

pub loop-caps-init : goal.loop-caps-init
loop-caps-init g c = record { ready = c.requires.callable; fit = c.requires.fit; leads = leads_start _ _ _ _ _ _ _ c.requires.place }

pub returns-in_err-next_captures-clause-broken : goal.returns-in_err-next_captures-clause-broken
returns-in_err-next_captures-clause-broken g c = on_err _ _ (leads_broken _ _ _ _ _ _ _ _ _ _ c.loop-caps.invariant.leads)

pub returns-then-not-matched-clause-visited : goal.returns-then-not-matched-clause-visited
returns-then-not-matched-clause-visited g c =
    let m = c.args.self.now in
    let h = c.args.haystack.now in
    let found = c.as_match-found.result in
    let no = c.if-not-matched.true in
    let first = first_accepted (g.Self.Matcher.has_groups m) (g.Self.Matcher.preferred m h) (length h) (g.Self.Matcher.groups_at m h) (g.met.Self.Matcher.lawful_groups m h) _ _ _ found _ c.in_ok-next_captures.ensures.found c.if-branch.true c.as_match-found.ensures in
    (at_answer c.matched.result, tt, stop _ _ _ _ _ _ _ _ _ _ _ (Some found) found _ c.loop-caps.invariant.leads first.0 refl (_, first.1, c.matched.ensures) (λ e. cc))

pub loop-caps-preserved : goal.loop-caps-preserved
loop-caps-preserved g c =
    let m = c.args.self.now in
    let h = c.args.haystack.now in
    let found = c.as_match-found.result in
    let first = first_accepted (g.Self.Matcher.has_groups m) (g.Self.Matcher.preferred m h) (length h) (g.Self.Matcher.groups_at m h) (g.met.Self.Matcher.lawful_groups m h) _ _ _ found _ c.in_ok-next_captures.ensures.found c.if-branch.true c.as_match-found.ensures in
    record {
      ready = still _ (goal.F-step g) _ _ _ _ _ c.requires.stays c.loop-caps.invariant.ready c.matched.ensures c.if-not-matched.false;
      fit = c.in_ok-next_captures.ensures.kept;
      leads = turn _ _ _ _ _ _ _ _ _ _ _ _ (Some found) found _ _ c.loop-caps.invariant.leads first.0 refl c.after-from.ensures (_, first.1, c.matched.ensures) c.if-not-matched.false c.end.ensures;
    }

pub returns-clause-visited : goal.returns-clause-visited
returns-clause-visited g c = (at_the_end, tt, leads_end _ _ _ _ _ _ _ _ _ _ c.loop-caps.invariant.leads (none_found _ _ _ _ _ _ c.in_ok-next_captures.ensures.found c.if-branch.false))
