use Rattle.hir_tree.proofs.runs_laws.NumbersLemmas.{preferred-first}
use Rattle.hir_tree.proofs.runs_laws.preferred_is_the_first_run.Goals as goal

pub returns : goal.returns
returns c = preferred-first
