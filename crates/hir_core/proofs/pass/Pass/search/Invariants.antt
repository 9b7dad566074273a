use Rattle.std.proofs.Common.{◌≡◌, ◌+◌, ◌-◌, ◌*◌, ◌≤◌, length}
use Rattle.sd_base.specs.Steps.{TicksAtMost}
use Rattle.hir_core.specs.Pass.{stops_give, first_from, answer, best_in, AllFrom, counted}
use Rattle.hir_core.proofs.pass.Pass.search.Given as goal

-- the threads are at the place or later, and the answer is the one that is sought
abbrev pub invariant-loop-place : goal.invariant-loop-place
invariant-loop-place g l = record {
  from : AllFrom l.text l.place l.self.threads;
  answer :
      answer l.text l.spots l.groups l.place (stops_give l.text l.spots l.self.threads) (best_in l.self.best)
      ≡ first_from l.text l.spots l.groups (length l.text + 1 - l.at) l.at;
  after : l.at ≤ l.place;
  within : l.place ≤ length l.text + 1;
  ticks : TicksAtMost g.L.Ledger.noted ((l.place - l.at) * counted l.spots) l.fn.steps l.steps;
}

abbrev pub decreases-loop-place : goal.decreases-loop-place
decreases-loop-place g l = length l.text + 1 - l.place
