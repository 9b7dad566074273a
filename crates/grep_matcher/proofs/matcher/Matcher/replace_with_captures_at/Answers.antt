use Rattle.grep_matcher.proofs.visiting.CoverCallLemmas.{written_forgets}
use Rattle.grep_matcher.proofs.matcher.Matcher.replace_with_captures_at.Goals as goal

pub returns-clause-replaced : goal.returns-clause-replaced
returns-clause-replaced g c = written_forgets _ _ _ _ _ _ _ _ _ _ c.replace_with_captures_at_by.ensures.replaced
