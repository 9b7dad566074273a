use Rattle.hir_tree.proofs.core_laws.CoreNumbersLemmas.{numbers_within}
use Rattle.hir_tree.proofs.core_laws.a_core_has_fewer_numbers_than_twice_the_spots_of_its_tree.Goals as goal

pub returns : goal.returns
returns c = numbers_within
