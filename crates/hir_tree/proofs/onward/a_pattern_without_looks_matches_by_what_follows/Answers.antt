use Rattle.hir_tree.specs.Cores.{core_of_tree}
use Rattle.hir_tree.proofs.onward.FollowsLemmas.{preferred-same}
use Rattle.hir_tree.proofs.onward.OnwardLemmas.{core-has_none}
use Rattle.hir_tree.proofs.onward.a_pattern_without_looks_matches_by_what_follows.Goals as goal

pub returns : goal.returns
returns c tree nowhere groups one other at long follows = preferred-same one other at long follows (core_of_tree tree) (core-has_none tree nowhere) groups
