use Rattle.std.proofs.Common.{ℕ, List, None, length, refl, subst}
use Rattle.grep_matcher.specs.Cover.{IsFirst, accepts}
use Rattle.grep_regex.specs.Matching.{end_at}
use Rattle.grep_regex.specs.MatchingLemmas.{lawful_ends}
use Rattle.hir_tree.specs.Tree.{tree_of}
use Rattle.sd_replace.specs.Replacer.{replacement_of}
use Rattle.sd_replace.proofs.changing.ChangingLemmas.{nothing_changes}
use Rattle.sd_replace.proofs.replacer.Replacer.rewrite_by.Goals as goal

pub returns-in_default-clause-rewritten : goal.returns-in_default-clause-rewritten
returns-in_default-clause-rewritten c =
    let self = c.args.self.now in
    let bytes = c.args.content.items in
    let found = c.in_ok-first.field-0 in (
      refl,
      nothing_changes (replacement_of self) bytes (lawful_ends (tree_of self.matcher.searcher) self.matcher.whole bytes) found c.in_default.not-Some
          (subst (λ (l : List ℕ). IsFirst (accepts None (end_at (tree_of self.matcher.searcher) l)) 0 (length l) found) c.as_slice.ensures.value c.in_ok-first.ensures.found),
    )
