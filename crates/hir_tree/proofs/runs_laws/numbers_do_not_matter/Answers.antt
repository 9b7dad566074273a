use Rattle.hir_tree.proofs.runs_laws.NumbersLemmas.{runs-renumbered}
use Rattle.hir_tree.proofs.runs_laws.numbers_do_not_matter.Goals as goal

pub returns : goal.returns
returns c = runs-renumbered
