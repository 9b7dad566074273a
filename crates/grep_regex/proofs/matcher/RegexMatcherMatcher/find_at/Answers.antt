use Rattle.std.proofs.Common.{length, subst, sym}
use Rattle.grep_matcher.specs.Cover.{IsFirst, prefers}
use Rattle.hir_tree.specs.Tree.{tree_of}
use Rattle.grep_regex.specs.Matching.{end_at}
use Rattle.grep_regex.specs.declared.matcher.Pattern.{Pattern}
use Rattle.grep_regex.proofs.matcher.FoundLemmas.{match-found, span-found}
use Rattle.grep_regex.proofs.matcher.RegexMatcherMatcher.find_at.Goals as goal

pub returns-clause-found : goal.returns-clause-found
returns-clause-found c =
    let text = c.args.haystack.now in
    let pattern = c.self.inside.pattern in
    let first = match-found (tree_of pattern.searcher) pattern.whole text c.args.at c.requires.place c.in_ok-search_at.field-0 c.search_at.new.slots c.in_ok-search_at.ensures.searched.found in
    subst (λ (p : Pattern). IsFirst (prefers (end_at (tree_of p.searcher) text)) c.args.at (length text) c.get-found.result) c.self.view_is
    (subst (IsFirst (prefers (end_at (tree_of pattern.searcher) text)) c.args.at (length text)) (sym c.get-found.ensures) first)

pub returns-in-Some-clause-found : goal.returns-in-Some-clause-found
returns-in-Some-clause-found c =
    let text = c.args.haystack.now in
    let pattern = c.self.inside.pattern in
    let first = span-found (tree_of pattern.searcher) pattern.whole text c.args.at c.requires.place c.in-Some.found c.in-Some.ensures.found in
    subst (λ (p : Pattern). IsFirst (prefers (end_at (tree_of p.searcher) text)) c.args.at (length text) c.in-Some.found) c.self.view_is first
