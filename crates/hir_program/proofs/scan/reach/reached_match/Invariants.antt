use Rattle.std.proofs.Common.{◌≡◌, ℕ, ◌<◌, true}
use Rattle.hir_program.specs.Program.{spot_at}
use Rattle.hir_program.specs.Masks.{is_reached}
use Rattle.hir_program.specs.declared.spot.Spot.TheVariants as spot
use Rattle.hir_program.proofs.scan.reach.reached_match.Given as goal

-- the spots so far were not reached, or end no match
abbrev pub invariant-loop-i : goal.invariant-loop-i
invariant-loop-i l = (q : ℕ) → q < l.i → spot_at l.spots q ≡ spot.Match → is_reached l.reached q ≡ true → ⊥
