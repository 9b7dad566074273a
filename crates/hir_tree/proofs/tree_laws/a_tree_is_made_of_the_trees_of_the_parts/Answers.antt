use Rattle.hir_tree.proofs.tree_laws.TreeLemmas.{tree_concat, tree_alternation}
use Rattle.hir_tree.proofs.tree_laws.a_tree_is_made_of_the_trees_of_the_parts.Goals as goal

pub returns-clause-concat : goal.returns-clause-concat
returns-clause-concat c = tree_concat

pub returns-clause-alternation : goal.returns-clause-alternation
returns-clause-alternation c = tree_alternation
