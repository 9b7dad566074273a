use Rattle.std.proofs.Common.{◌≡◌, ℕ, ◌<◌, ◌≤◌, None}
use Rattle.hir_core.specs.StackSearch.{first_at}
use Rattle.hir_core.proofs.stack_search.first_from.Given as goal

-- the places so far have none
abbrev pub invariant-loop-place : goal.invariant-loop-place
invariant-loop-place l = (at : ℕ) → l.at ≤ at → at < l.place → first_at l.text l.spots l.groups at ≡ None
