use Rattle.grep_regex.proofs.laws.TreeLemmas.{stripping-filters}
use Rattle.grep_regex.proofs.laws.stripping_leaves_the_clear_runs.Goals as goal

pub returns : goal.returns
returns c = stripping-filters
