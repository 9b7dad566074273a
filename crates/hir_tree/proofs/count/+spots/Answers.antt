use Rattle.std.proofs.Common.{◌≡◌, [], map, drop, ap, arith}
use Rattle.std.specs.Prelude.{sum}
use Rattle.std.proofs.Math.ListN.{drop_of_length-le}
use Rattle.hir_tree.specs.Spots.{spots_of}
use Rattle.hir_tree.proofs.count.SpotsLemmas.{spots_concat, spots_alternation}
use Rattle.hir_tree.proofs.count.+spots.Goals as goal

pub spots-returns-in-Concat : goal.spots-returns-in-Concat
spots-returns-in-Concat t c =
    omega (
      arith,
      c.max.ensures,
      c.total_spots.ensures,
      ap (λ parts. sum (map spots_of parts)) c.parts.ensures,
      ap spots_of c.in-Concat.is,
      spots_concat c.in-Concat.hirs,
    )

pub spots-returns-in-Alternation : goal.spots-returns-in-Alternation
spots-returns-in-Alternation t c =
    omega (
      arith,
      c.max-in-Alternation.ensures,
      c.saturating_add-in-Alternation.ensures,
      c.len-in-Alternation.ensures,
      c.total_spots-in-Alternation.ensures,
      ap (λ parts. sum (map spots_of parts)) c.parts-in-Alternation.ensures,
      ap spots_of c.in-Alternation.is,
      spots_alternation c.in-Alternation.hirs,
    )

pub total_spots-returns : goal.total_spots-returns
total_spots-returns t c =
    let none : drop c.loop-part.part-index c.args.parts.now ≡ [] = drop_of_length-le c.args.parts.now c.loop-part-test.false in
    omega (arith, c.loop-part.invariant.0, c.loop-part.invariant.1, ap (λ parts. sum (map spots_of parts)) none)
