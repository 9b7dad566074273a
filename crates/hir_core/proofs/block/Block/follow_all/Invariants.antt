use Rattle.std.proofs.Common.{◌++◌, drop}
use Rattle.hir_core.specs.Blocks.{KeepsMarks}
use Rattle.hir_core.specs.Tries.{CountsTries}
use Rattle.hir_core.specs.Pass.{first_of, stops_give}
use Rattle.hir_core.proofs.block.ThreadsLemmas.{Threads}
use Rattle.hir_core.proofs.block.Block.follow_all.Given as goal

-- what was kept, and the threads that are left, have the first run of what was kept before and all threads
abbrev pub invariant-loop-i : goal.invariant-loop-i
invariant-loop-i g l = record {
  threads :
      Threads l.text l.spots l.places.begin l.places.end (first_of (stops_give l.text l.spots l.fn.self.later ++ stops_give l.text l.spots l.threads)) l.self.marks
      l.self.later (drop l.i l.threads);
  marks : KeepsMarks l.fn.self.marks l.self.marks;
  ticks : CountsTries g.L.Ledger.noted l.spots l.places.begin l.places.end l.fn.self.marks l.self.marks l.fn.steps l.steps;
}
