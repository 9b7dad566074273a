use Rattle.std.proofs.Common.{◌≡◌, ◌∙◌, List, All, map, ap, chars, sym, subst, arith}
use Rattle.std.proofs.lemmas.List.{take_all}
use Rattle.std.specs.declared.ops.Range.{Range}
use Rattle.std.proofs.Common.{ℕ}
use Rattle.glob_match.specs.Captures.{byte_range, LiesOnBoundaries}
use Rattle.glob_match.proofs.captures.CaptureRangesLemmas.{ranges_cut}
use Rattle.glob_match.proofs.captures.byte_ranges.Goals as goal

pub returns-clause-boundaries : goal.returns-clause-boundaries
returns-clause-boundaries c =
    let all : c.loop-capture.ranges.items ≡ map (byte_range (chars c.args.path.now)) c.args.captures.now = c.loop-capture.invariant ∙ ap (map (byte_range (chars c.args.path.now))) (take_all c.loop-capture.capture-index c.args.captures.now (omega arith)) in
    subst (λ (rs : List (Range ℕ)). All (LiesOnBoundaries c.args.path.now) rs) (sym all) (ranges_cut c.args.path.now c.args.captures.now _ c.utf8.path c.requires)
