use Rattle.std.proofs.Common.{sym, ◌∙◌, arith}
use Rattle.hir_tree.proofs.ranges.SortedLemmas.{in_set-here}
use Rattle.hir_tree.proofs.ranges.holds_number.Goals as goal

pub returns-then-number-range : goal.returns-then-number-range
returns-then-number-range c =
    sym (in_set-here c.args.ranges.now c.loop-range.range-index (0, 0) c.args.number (omega arith) (omega arith) c.loop-range.invariant.apart)
    ∙ c.loop-range.invariant.same
