use Rattle.hir_tree.proofs.core_laws.CoreSpotsLemmas.{core_within}
use Rattle.hir_tree.proofs.core_laws.a_core_takes_no_more_than_the_spots_of_its_tree.Goals as goal

pub returns : goal.returns
returns c = core_within
