use Rattle.std.proofs.Common.{◌≡◌, ℕ, ◌+◌, ◌-◌, ◌≤◌, true, false, length, drop, map}
use Rattle.hir_tree.specs.Core.{Core, choice_all, copies, numbers, pair_all, up_to}
use Rattle.hir_tree.specs.Cores.{core_of}
use Rattle.hir_program.specs.Laid.{Waits}
use Rattle.hir_program.proofs.compile.CompileLemmas.{WaitsEmpties}
use Rattle.hir_program.proofs.compile.+compile.Given as goal

abbrev pub invariant-lay_row-loop-i : goal.invariant-lay_row-loop-i
invariant-lay_row-loop-i l = Waits l.fn.out.items l.out.items l.next (pair_all (map core_of l.parts)) (pair_all (map core_of (drop l.i l.parts)))

abbrev pub invariant-lay_choice-loop-part : goal.invariant-lay_choice-loop-part
invariant-lay_choice-loop-part l =
    Waits l.fn.out.items l.out.items l.next (choice_all (map core_of l.parts)) (choice_all (map core_of (drop l.part-index l.parts)))

abbrev pub invariant-lay_copies-loop-left : goal.invariant-lay_copies-loop-left
invariant-lay_copies-loop-left l =
    (next : ℕ) (b : Core) → Waits l.fn.out.items l.out.items next (copies l.count (core_of l.part) b) (copies l._left (core_of l.part) b)

abbrev pub invariant-lay_greedy-loop-left : goal.invariant-lay_greedy-loop-left
invariant-lay_greedy-loop-left l = record {
  waits : WaitsEmpties l.fn.out.items l.out.items l.next (l.count - l._left) (up_to true l.count (core_of l.part)) (up_to true l._left (core_of l.part));
  some : 1 ≤ l._left;
  within : l._left ≤ l.count;
  last : l.left_out + (l.count - l._left) + 1 ≡ length l.fn.out.items + numbers (up_to true l.count (core_of l.part));
}

abbrev pub invariant-lay_lazy-loop-left : goal.invariant-lay_lazy-loop-left
invariant-lay_lazy-loop-left l = record {
  waits : Waits l.fn.out.items l.out.items l.next (up_to false l.count (core_of l.part)) (up_to false l._left (core_of l.part));
  some : 1 ≤ l._left;
}
