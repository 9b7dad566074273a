use Rattle.std.proofs.Common.{◌≤◌, length}
use Rattle.std.proofs.lemmas.List.Elements.{All-from_recursion}
use Rattle.hir_tree.specs.Runs.{Run, runs}
use Rattle.hir_tree.proofs.ListLemmas.{All-weaker}
use Rattle.hir_tree.proofs.runs_laws.RunsLemmas.{GoesOn, runs-Forward}
use Rattle.hir_tree.proofs.runs_laws.runs_go_forward.Goals as goal

pub returns : goal.returns
returns c text core n r within =
    All-from_recursion _ _
    (All-weaker (GoesOn text r) (λ (s : Run). (r.at ≤ s.at) × (s.at ≤ length text)) (runs text core n r) (runs-Forward text core n r within)
    (λ s on. (on.forward, on.within)))
