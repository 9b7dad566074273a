use Rattle.std.proofs.Common.{subst}
use Rattle.grep_matcher.specs.NoMatch.{IsInNoMatch}
use Rattle.hir_tree.specs.Spots.{groups_of_tree}
use Rattle.hir_tree.specs.Tree.{tree_of}
use Rattle.grep_regex.specs.Matching.{end_at}
use Rattle.grep_regex.specs.declared.matcher.Pattern.{Pattern}
use Rattle.grep_regex.proofs.laws.NoMatchLemmas.{not-taken}
use Rattle.grep_regex.proofs.matcher.RegexMatcherMatcher.non_matching_bytes.Goals as goal

pub returns-clause-in_no_match : goal.returns-clause-in_no_match
returns-clause-in_no_match c = λ byte within is.
    let tree = tree_of c.self.inside.pattern.searcher in
    let not_taken = ((c.self.invariant.non_matching byte within).0 is).1 in
    subst (λ (p : Pattern). IsInNoMatch (end_at (tree_of p.searcher)) byte) c.self.view_is (not-taken byte tree (groups_of_tree tree) not_taken)
