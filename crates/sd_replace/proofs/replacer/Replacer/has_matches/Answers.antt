use Rattle.std.proofs.Common.{◌≡◌, ◌<◌, ℕ, Bool, List, Option, Ok, Err, Result, IfOk, length, subst, sym, ◌↔◌}
use Rattle.std.specs.Prelude.{IsTrue, is_some}
use Rattle.grep_matcher.specs.Cover.{IsFirst, prefers}
use Rattle.grep_matcher.specs.Span.{Span}
use Rattle.grep_regex.specs.Matching.{end_at}
use Rattle.grep_regex.specs.MatchingLemmas.{lawful_ends}
use Rattle.hir_tree.specs.Tree.{tree_of}
use Rattle.sd_replace.specs.Replacement.{Changes}
use Rattle.sd_replace.specs.Replacer.{replacement_of}
use Rattle.sd_replace.proofs.changing.ChangingLemmas.{has_first}
use Rattle.sd_replace.proofs.replacer.Replacer.has_matches.Goals as goal

-- from what is found to what is told
tells : {E : Type 0} (found : Option Span → Type 0) (Q : Bool → Type 0) → ((span : Option Span) → found span → Q (is_some span)) → (answer : Result Bool E)
    → IfOk answer (λ there. (span : Option Span) × found span × (there ≡ is_some span)) → IfOk answer Q
tells found Q step (Ok there) (span, is, same) = subst Q (sym same) (step span is)
tells found Q step (Err error) h = tt

pub returns : goal.returns
returns c =
    let self = c.args.self.now in
    let bytes = c.args.content.now in
    tells (IsFirst (prefers (end_at (tree_of self.matcher.searcher) bytes)) 0 (length bytes))
    (λ there. (new_bytes : List ℕ) × (count : ℕ) × Changes (replacement_of self) bytes new_bytes count × (IsTrue there ↔ (0 < count)))
    (λ span first. has_first (replacement_of self) bytes (lawful_ends (tree_of self.matcher.searcher) self.matcher.whole bytes) span first) c.is_match.result c.is_match.ensures.found
