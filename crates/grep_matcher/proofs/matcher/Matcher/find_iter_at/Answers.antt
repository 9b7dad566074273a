use Rattle.grep_matcher.proofs.visiting.CoverCallLemmas.{some_last, some_last_broken}
use Rattle.grep_matcher.proofs.matcher.Matcher.find_iter_at.Goals as goal

pub returns-clause-visited : goal.returns-clause-visited
returns-clause-visited g c = some_last _ _ _ _ _ _ _ _ c.visit_at.ensures.visited

pub returns-clause-broken : goal.returns-clause-broken
returns-clause-broken g c = some_last_broken _ _ _ _ _ _ _ _ c.visit_at.ensures.broken
