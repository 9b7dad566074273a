use Rattle.grep_matcher.proofs.laws.CoverLemmas.{fair_cover_unique}
use Rattle.grep_matcher.proofs.captures.GroupLemmas.{none_captured}
use Rattle.grep_matcher.proofs.laws.captures_at_the_same_spans.Goals as goal

pub returns-clause-same : goal.returns-clause-same
returns-clause-same c = fair_cover_unique

pub returns-clause-none : goal.returns-clause-none
returns-clause-none c = none_captured
