use Rattle.std.proofs.Common.{ap}
use Rattle.hir_tree.specs.Core.{pair_all, choice_all}
use Rattle.hir_tree.proofs.core_laws.CoresLemmas.{cores_each}
use Rattle.hir_tree.proofs.core_laws.a_core_is_made_of_the_cores_of_the_parts.Goals as goal

pub returns-clause-concat : goal.returns-clause-concat
returns-clause-concat c parts = ap pair_all (cores_each parts)

pub returns-clause-alternation : goal.returns-clause-alternation
returns-clause-alternation c parts = ap choice_all (cores_each parts)
