use Rattle.std.proofs.Common.{sym, ◌∙◌}
use Rattle.hir_tree.specs.Tree.{tree_of}
use Rattle.grep_regex.specs.Exact.{IsTidy}
use Rattle.grep_regex.specs.Stripping.{asks_for}
use Rattle.grep_regex.proofs.stripping.WalkLemmas.{all-next, any-next, on-false, row, row-asks, row-tidy}
use Rattle.grep_regex.proofs.stripping.+asks.Goals as goal

pub asks_for-returns-in-Concat-clause-asks : goal.asks_for-returns-in-Concat-clause-asks
asks_for-returns-in-Concat-clause-asks t c =
    let law = c.a_tree_is_made_of_the_trees_of_the_parts.ensures in
    let hirs = c.in-Concat.hirs in
    c.one_asks_for.ensures.asks
    ∙ row-asks c.args.byte (tree_of c.args.hir.now) c.parts.result.now
    (row c.args.hir.now hirs c.parts.result.now c.in-Concat.is (law.concat hirs) (law.alternation hirs) c.parts.ensures)

pub asks_for-returns-in-Concat-clause-sorted : goal.asks_for-returns-in-Concat-clause-sorted
asks_for-returns-in-Concat-clause-sorted t c =
    let law = c.a_tree_is_made_of_the_trees_of_the_parts.ensures in
    let hirs = c.in-Concat.hirs in
    on-false c.one_asks_for.result
    (row-tidy (tree_of c.args.hir.now) c.parts.result.now
    (row c.args.hir.now hirs c.parts.result.now c.in-Concat.is (law.concat hirs) (law.alternation hirs) c.parts.ensures))
    c.one_asks_for.ensures.sorted

pub one_asks_for-loop-part-preserved : goal.one_asks_for-loop-part-preserved
one_asks_for-loop-part-preserved t c =
    let parts = c.args.parts.now in
    let part = c.part-item.result in record {
      asks =
          any-next (λ hir. asks_for c.args.byte (tree_of hir)) parts c.loop-part.part-index part c.loop-part-test.true c.part-item.is c.loop-part.invariant.asks
          (sym c.if-asks_for.ensures.asks);
      sorted =
          all-next (λ hir. IsTidy (tree_of hir)) parts c.loop-part.part-index part c.loop-part-test.true c.part-item.is c.loop-part.invariant.sorted
          c.if-asks_for.ensures.sorted;
    }
