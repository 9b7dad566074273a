use Rattle.sd_replace.proofs.searching.GroupsLemmas.{first_groups}
use Rattle.hir_tree.specs.Tree.{tree_of}
use Rattle.sd_replace.proofs.searching.first_at.Goals as goal

pub returns-then-branch-clause-groups : goal.returns-then-branch-clause-groups
returns-then-branch-clause-groups c =
    first_groups (tree_of c.args.matcher.now.searcher) c.args.matcher.now.whole c.args.content.now c.args.from c.captures_at.new.caps _ c.as_match.result
    c.in_ok-captures_at.ensures.found c.if-branch.true c.as_match.ensures
