use Rattle.std.proofs.Common.{◌≡◌, vec_len}
use Rattle.hir_program.specs.Masks.{CoverTheirSpots, HaveOwnBits}
use Rattle.hir_program.proofs.scan.reach.firsts.Given as goal

-- each mask so far covers its spot, and has its own bit
abbrev pub invariant-loop-place : goal.invariant-loop-place
invariant-loop-place l = record {
  count : vec_len l.firsts ≡ l.place;
  covers : CoverTheirSpots l.spots l.of l.look l.firsts.items;
  own : HaveOwnBits l.spots l.of l.firsts.items;
}
