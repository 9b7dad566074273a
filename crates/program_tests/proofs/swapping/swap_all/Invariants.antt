use Rattle.std.proofs.Common.{◌≡◌, ◌≤◌, ◌+◌, ◌++◌, length}
use Rattle.program_tests.specs.Swapped.{swapped, spans}
use Rattle.program_tests.proofs.swapping.swap_all.Given as goal

abbrev pub invariant-loop-first : goal.invariant-loop-first
invariant-loop-first l = record {
  bytes : l.new_bytes.items ++ swapped l.swap.find.now l.swap.with.now 0 l.rest ≡ swapped l.swap.find.now l.swap.with.now 0 l.content;
  counted : l.count + spans l.swap.find.now 0 l.rest ≡ spans l.swap.find.now 0 l.content;
  few : l.count + length l.rest ≤ length l.content;
}

abbrev pub decreases-loop-first : goal.decreases-loop-first
decreases-loop-first l = length l.rest
