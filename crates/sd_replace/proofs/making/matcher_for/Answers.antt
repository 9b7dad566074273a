use Rattle.hir_tree.specs.Spots.{groups_of_tree}
use Rattle.hir_tree.specs.Tree.{tree_of}
use Rattle.sd_replace.proofs.making.MakingLemmas.{line_feed_ends}
use Rattle.sd_replace.proofs.making.matcher_for.Goals as goal

pub returns-in_ok-matcher-in-InEachLine-clause-clear : goal.returns-in_ok-matcher-in-InEachLine-clause-clear
returns-in_ok-matcher-in-InEachLine-clause-clear c = λ lines.
    c.in_ok-matcher-in-InEachLine.ensures.clear.held_by_none (groups_of_tree (tree_of c.in_ok-matcher-in-InEachLine.matcher.searcher)) 10
    (line_feed_ends c.line_builder_of.result c.args.is_literal c.args.letters.now c.line_builder_of.ensures)
