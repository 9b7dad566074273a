use Rattle.std.proofs.lemmas.Result.{on_ok_weaker}
use Rattle.hir_tree.proofs.char_ranges.CharRangesLemmas.{chars_are_ranges, chars_united}
use Rattle.hir_tree.proofs.char_ranges.CharRanges.add.Goals as goal

pub returns-clause-apart : goal.returns-clause-apart
returns-clause-apart c =
    chars_are_ranges c.unite.new.self c.unite.ensures.apart
    (c.unite.ensures.below 0x10F800 c.number_of-2.ensures.in_range c.self.invariant.1)

pub returns-clause-united : goal.returns-clause-united
returns-clause-united c =
    on_ok_weaker c.unite.result
    (λ both. chars_united c.self.inside.ranges c.unite.new.self _ _ _ _ _ c.self.view_is c.number_of.ensures.number c.number_of-2.ensures.number both)
    c.unite.ensures.united
