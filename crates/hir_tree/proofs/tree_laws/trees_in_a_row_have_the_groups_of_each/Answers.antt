use Rattle.std.proofs.Common.{ap}
use Rattle.hir_tree.specs.Spots.{greatest}
use Rattle.hir_tree.proofs.count.SpotsLemmas.{groups_each}
use Rattle.hir_tree.proofs.tree_laws.trees_in_a_row_have_the_groups_of_each.Goals as goal

pub returns-clause-concat : goal.returns-clause-concat
returns-clause-concat c parts = ap greatest (groups_each parts)

pub returns-clause-alternation : goal.returns-clause-alternation
returns-clause-alternation c parts = ap greatest (groups_each parts)
