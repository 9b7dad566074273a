use Rattle.std.proofs.Common.{◌+◌, ◌*◌, drop, length}
use Rattle.sd_base.specs.Steps.{TicksAtMost}
use Rattle.glob_match.proofs.matching.MatchingLemmas.{MatchedSoFar}
use Rattle.glob_match.proofs.matching.places_after.Given as goal

abbrev pub invariant-loop-token : goal.invariant-loop-token
invariant-loop-token g l = record {
  places : MatchedSoFar l.tokens (drop l.token-index l.tokens) l.path l.braces.items l.places.items;
  ticks : TicksAtMost g.L.Ledger.noted (l.token-index * (length l.path + 1)) l.fn.steps l.steps;
}
