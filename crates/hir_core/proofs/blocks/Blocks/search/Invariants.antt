use Rattle.std.proofs.Common.{◌≡◌, ◌+◌, ◌-◌, ◌*◌, ◌≤◌, false, length}
use Rattle.std.specs.Prelude.{is_some}
use Rattle.sd_base.specs.Steps.{TicksAtMost}
use Rattle.hir_core.specs.Pass.{stops_give, first_from, answer, best_in, AllFrom, counted}
use Rattle.hir_core.proofs.blocks.Blocks.search.Given as goal

-- the threads are in the block or past it, and the answer is the one that is sought
abbrev pub invariant-loop-begin : goal.invariant-loop-begin
invariant-loop-begin g l = record {
  from : AllFrom l.text l.begin l.self.threads;
  answer :
      answer l.text l.spots l.groups l.starts.place (stops_give l.text l.spots l.self.threads) (best_in l.self.best)
      ≡ first_from l.text l.spots l.groups (length l.text + 1 - l.at) l.at;
  within : l.begin ≤ length l.text + 1;
  starts : l.starts.place ≤ length l.text + 1;
  after : l.at ≤ l.begin;
  next : is_some (best_in l.self.best) ≡ false → l.begin ≤ l.starts.place;
  ticks : TicksAtMost g.L.Ledger.noted ((l.begin - l.at) * counted l.spots) l.fn.steps l.steps;
}

abbrev pub decreases-loop-begin : goal.decreases-loop-begin
decreases-loop-begin g l = length l.text + 1 - l.begin
