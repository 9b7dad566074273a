use Rattle.grep_matcher.proofs.visiting.CoverCallLemmas.{some_last_tried, some_last_broken}
use Rattle.grep_matcher.proofs.matcher.Matcher.try_captures_iter_at.Goals as goal

pub returns-clause-visited : goal.returns-clause-visited
returns-clause-visited g c = some_last_tried _ _ _ _ _ _ _ _ c.try_captures_visit_at.ensures.visited

pub returns-clause-broken : goal.returns-clause-broken
returns-clause-broken g c = some_last_broken _ _ _ _ _ _ _ _ c.try_captures_visit_at.ensures.broken
