use Rattle.sd_replace.specs.Replacer.{replacement_of}
use Rattle.hir_tree.specs.Tree.{tree_of}
use Rattle.grep_matcher.specs.Cover.{IsFirst, accepts}
use Rattle.grep_matcher.specs.Span.{Span}
use Rattle.grep_regex.specs.Matching.{end_at}
use Rattle.grep_regex.specs.MatchingLemmas.{lawful_ends}
use Rattle.std.proofs.Common.{Option, None, length, subst}
use Rattle.sd_replace.proofs.changing.ChangingLemmas.{nothing_changes, something_changes}
use Rattle.sd_replace.proofs.replacer.Replacer.change_by.Goals as goal

pub returns-in_default-clause-changed : goal.returns-in_default-clause-changed
returns-in_default-clause-changed c =
    let self = c.args.self.now in
    let bytes = c.args.content.now in
    nothing_changes (replacement_of self) bytes (lawful_ends (tree_of self.matcher.searcher) self.matcher.whole bytes) c.in_ok-first.field-0 c.in_default.not-Some c.in_ok-first.ensures.found

pub returns-clause-changed : goal.returns-clause-changed
returns-clause-changed c =
    let self = c.args.self.now in
    let bytes = c.args.content.now in
    let first = subst (λ (o : Option Span). IsFirst (accepts None (end_at (tree_of self.matcher.searcher) bytes)) 0 (length bytes) o) c.in-Some.is c.in_ok-first.ensures.found in
    (c.in_ok-changed.ensures.changed, something_changes (replacement_of self) self.matcher.whole bytes c.in_ok-changed.changed.new_bytes.items c.in_ok-changed.changed.count c.in-Some.first first c.in_ok-changed.ensures.changed)
