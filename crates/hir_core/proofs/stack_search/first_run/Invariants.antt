use Rattle.std.proofs.Common.{◌≡◌, ◌+◌, []}
use Rattle.hir_tree.specs.Runs.{begin}
use Rattle.hir_program.specs.Program.{way}
use Rattle.hir_core.specs.StackSearch.{places_of, gives_at, pending, weight, AllSound}
use Rattle.hir_core.proofs.stack_search.first_run.Given as goal

-- what is left to try gives what the whole search is to give
abbrev pub invariant-loop-next : goal.invariant-loop-next
invariant-loop-next l = record {
  gives : pending l.text l.spots (places_of l.stack.items) ≡ gives_at l.text l.spots (0, way [] (begin l.at l.groups));
  sound : AllSound l.text (l.groups + 1) (places_of l.stack.items);
}

abbrev pub decreases-loop-next : goal.decreases-loop-next
decreases-loop-next l = weight l.text l.spots (places_of l.stack.items)
