use Rattle.std.proofs.Common.{◌≡◌, ℕ, ◌*◌, ◌%◌, ◌^◌, ◌<◌, sym, subst, arith}
use Rattle.std.proofs.lemmas.Nat.{pow_below}
use Rattle.hir_program.specs.Masks.{Covers}
use Rattle.hir_program.proofs.scan.reach.DeadLemmas.{Covers-own}
use Rattle.hir_program.proofs.scan.reach.own_mask.Goals as goal

pub returns-in-Some-clause-covers : goal.returns-in-Some-clause-covers
returns-in-Some-clause-covers c =
    let bit : ℕ = c.in-Some.bit in
    let found = c.in-Some.ensures.some in
    let below : 2 ^ bit < 2 ^ 64 = pow_below bit 64 (omega (arith, found.0)) in
    let whole : 1 * 2 ^ bit % 2 ^ 64 ≡ 2 ^ bit = omega arith in
    subst (λ (mask : ℕ). Covers c.args.spots.now c.args.of.now c.args.look mask c.args.place) (sym whole)
    (Covers-own c.args.spots.now c.args.of.now c.args.look bit c.args.place found.0 found.1)
