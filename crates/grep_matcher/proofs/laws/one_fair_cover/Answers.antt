use Rattle.grep_matcher.proofs.laws.CoverLemmas.{fair_cover_unique}
use Rattle.grep_matcher.proofs.laws.one_fair_cover.Goals as goal

pub returns : goal.returns
returns c = fair_cover_unique
