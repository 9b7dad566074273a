use Rattle.grep_matcher.proofs.visiting.CoverCallLemmas.{cover_exists}
use Rattle.grep_matcher.proofs.laws.a_fair_cover_exists.Goals as goal

pub returns : goal.returns
returns c = cover_exists
