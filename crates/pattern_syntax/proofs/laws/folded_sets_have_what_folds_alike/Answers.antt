use Rattle.pattern_syntax.proofs.FoldLemmas.{with_alike_holds}
use Rattle.pattern_syntax.proofs.laws.folded_sets_have_what_folds_alike.Goals as goal

pub returns : goal.returns
returns c = with_alike_holds
