use Rattle.std.proofs.Common.{◌+◌}
use Rattle.hir_tree.proofs.runs_laws.RunsLemmas.{runs-Forward, after-eq}
use Rattle.hir_tree.proofs.runs_laws.rounds_are_not_cut_off.Goals as goal

pub returns : goal.returns
returns c text greedy body n r within = after-eq text greedy (n + 1) _ (runs-Forward text body (n + 2)) r within
