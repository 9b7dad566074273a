use Rattle.std.proofs.Common.{◌≡◌, ◌++◌, length, drop}
use Rattle.hir_core.specs.Pass.{CountsVisits, first_of, stops_give}
use Rattle.hir_core.proofs.pass.RoundLemmas.{Rounds}
use Rattle.hir_core.proofs.closure.Closure.follow_all.Given as goal

-- what was kept, and the threads that are left, have the first run of what was kept before and all threads
abbrev pub invariant-loop-i : goal.invariant-loop-i
invariant-loop-i g l = record {
  rounds :
      Rounds l.text l.spots l.at (first_of (stops_give l.text l.spots l.fn.self.later ++ stops_give l.text l.spots l.threads)) l.self.visited l.self.later
      (drop l.i l.threads);
  room : length l.self.visited ≡ length l.fn.self.visited;
  ticks : CountsVisits g.L.Ledger.noted l.spots l.fn.self.visited l.self.visited l.fn.steps l.steps;
}
