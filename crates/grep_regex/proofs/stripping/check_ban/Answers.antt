use Rattle.std.proofs.Common.{sym, ◌∙◌, true≢false}
use Rattle.hir_tree.specs.Tree.{tree_of}
use Rattle.grep_regex.proofs.laws.ExactLemmas.{asks-must, must-take}
use Rattle.grep_regex.proofs.stripping.check_ban.Goals as goal

pub returns-then-asks_for-clause-rule : goal.returns-then-asks_for-clause-rule
returns-then-asks_for-clause-rule c = must-take c.args.byte (tree_of c.args.hir.now) (sym c.if-asks_for.ensures.asks)

pub returns-clause-rule : goal.returns-clause-rule
returns-clause-rule c = λ takes.
    true≢false (sym (asks-must c.args.byte (tree_of c.args.hir.now) c.if-asks_for.ensures.sorted takes) ∙ sym c.if-asks_for.ensures.asks)
