use Rattle.std.proofs.Common.{IfOk, length, subst, true}
use Rattle.std.proofs.lemmas.Result.{IfOk-weaker}
use Rattle.grep_matcher.specs.Cover.{prefers}
use Rattle.grep_matcher.specs.Groups.{HasFirst, captured}
use Rattle.hir_core.specs.Found.{IsFound}
use Rattle.hir_tree.specs.Tree.{tree_of}
use Rattle.grep_regex.specs.Matching.{end_at, match_at, spans_at}
use Rattle.grep_regex.specs.declared.matcher.Pattern.{Pattern}
use Rattle.grep_regex.proofs.matcher.FoundLemmas.{captures-found}
use Rattle.grep_regex.proofs.matcher.RegexMatcherMatcher.captures_at.Goals as goal

pub returns-clause-found : goal.returns-clause-found
returns-clause-found c =
    let text = c.args.haystack.now in
    let at = c.args.at in
    let found = c.search_at.result in
    let slots = c.search_at.new.slots in
    let tree = tree_of c.self.inside.pattern.searcher in
    subst
    (λ (p : Pattern). IfOk found (HasFirst (prefers (captured true (end_at (tree_of p.searcher) text))) at (length text) (spans_at (tree_of p.searcher) text) slots))
    c.self.view_is (
    IfOk-weaker found (λ there. IsFound (match_at tree text) at (length text) there slots) _
    (λ there is. captures-found tree c.self.inside.pattern.whole text at c.requires.place there slots is) c.search_at.ensures.searched.found
    )
