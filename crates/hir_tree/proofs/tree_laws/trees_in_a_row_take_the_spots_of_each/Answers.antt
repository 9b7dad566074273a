use Rattle.hir_tree.proofs.count.SpotsLemmas.{concat_spots, alternation_spots}
use Rattle.hir_tree.proofs.tree_laws.trees_in_a_row_take_the_spots_of_each.Goals as goal

pub returns-clause-concat : goal.returns-clause-concat
returns-clause-concat c = concat_spots

pub returns-clause-alternation : goal.returns-clause-alternation
returns-clause-alternation c = alternation_spots
