use Rattle.std.proofs.Common.{sym, ap, ◌∙◌}
use Rattle.hir_tree.specs.Tree.{tree_of}
use Rattle.grep_regex.specs.Options.{numbered_from}
use Rattle.grep_regex.proofs.assembling.NumberingLemmas.{numbered_from-zero}
use Rattle.grep_regex.proofs.assembling.moved_on.Goals as goal

pub returns-then-by-eq0 : goal.returns-then-by-eq0
returns-then-by-eq0 c = sym (ap (λ n. numbered_from n (tree_of c.args.hir)) c.if-by-eq0.true ∙ numbered_from-zero (tree_of c.args.hir))
