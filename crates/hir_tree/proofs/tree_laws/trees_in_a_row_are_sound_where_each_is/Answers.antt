use Rattle.hir_tree.proofs.tree_laws.TreeLemmas.{sound_each}
use Rattle.hir_tree.proofs.tree_laws.trees_in_a_row_are_sound_where_each_is.Goals as goal

pub returns-clause-concat : goal.returns-clause-concat
returns-clause-concat c = sound_each

pub returns-clause-alternation : goal.returns-clause-alternation
returns-clause-alternation c = sound_each
