use Rattle.grep_regex.proofs.laws.NoMatchLemmas.{not-taken}
use Rattle.grep_regex.proofs.laws.what_is_not_taken_is_in_no_match.Goals as goal

pub returns : goal.returns
returns c = not-taken
