use Rattle.hir_tree.proofs.runs_laws.NumbersLemmas.{choice-joined}
use Rattle.hir_tree.proofs.runs_laws.choices_join_runs.Goals as goal

pub returns : goal.returns
returns c = choice-joined
