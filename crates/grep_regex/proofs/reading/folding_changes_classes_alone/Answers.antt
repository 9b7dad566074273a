use Rattle.grep_regex.proofs.reading.FoldingLemmas.{refolded}
use Rattle.grep_regex.proofs.reading.folding_changes_classes_alone.Goals as goal

pub returns : goal.returns
returns c = refolded
