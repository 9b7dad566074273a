use Rattle.grep_regex.proofs.laws.OptionsLemmas.{sizes-kept}
use Rattle.grep_regex.proofs.laws.stripping_keeps_spots_and_groups.Goals as goal

pub returns : goal.returns
returns c = sizes-kept
