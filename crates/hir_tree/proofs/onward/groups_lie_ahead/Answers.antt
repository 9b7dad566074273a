use Rattle.hir_tree.proofs.onward.AheadLemmas.{groups-from}
use Rattle.hir_tree.proofs.onward.groups_lie_ahead.Goals as goal

pub returns : goal.returns
returns c core groups text at within = groups-from at text core groups
