use Rattle.grep_regex.proofs.laws.OptionsLemmas.{no-terminator}
use Rattle.grep_regex.proofs.laws.no_match_holds_a_terminator.Goals as goal

pub returns : goal.returns
returns c = no-terminator
