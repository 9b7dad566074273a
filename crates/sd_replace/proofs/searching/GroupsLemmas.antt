-- The groups that a search fills in.
use Rattle.std.proofs.Common.{◌≡◌, ℕ, Bool, true, false, List, length, Option, Some, sym, subst, ap, ◌∙◌}
use Rattle.std.proofs.lemmas.Option.{same_Some}
use Rattle.grep_matcher.specs.Cover.{prefers}
use Rattle.grep_matcher.specs.Groups.{captured, group_at, HasFirst}
use Rattle.grep_matcher.specs.References.{LieIn}
use Rattle.grep_matcher.specs.Span.{Span}
use Rattle.grep_regex.specs.Matching.{MatchesAreWhole, end_at, spans_at}
use Rattle.grep_regex.specs.MatchingLemmas.{lawful_spans}
use Rattle.hir_tree.specs.Tree.{Tree}
use Rattle.sd_replace.specs.Searching.{AreOfMatch}

-- those of the first match are the groups of the span that group 0 is, and lie in the text
pub first_groups : (tree : Tree) → MatchesAreWhole tree → (text : List ℕ) (from : ℕ) (groups : List (Option Span)) (found : Bool) (x : Span)
    → HasFirst (prefers (captured true (end_at tree text))) from (length text) (spans_at tree text) groups found → found ≡ true → group_at groups 0 ≡ Some x
    → AreOfMatch tree text x.start groups
first_groups tree whole text from groups true x (span, first, same) is set =
    let law = lawful_spans tree whole text span.start span.end first.1 first.2 in
    let same_span : law.0.0 ≡ x = same_Some law.0.0 x (sym law.0.1 ∙ (ap (λ (g : List (Option Span)). group_at g 0) (sym same) ∙ set)) in
    let start : span.start ≡ x.start = sym law.0.2 ∙ ap (λ (s : Span). s.start) same_span in
    (same ∙ ap (spans_at tree text) start, subst (λ (g : List (Option Span)). LieIn g text) (sym same) (λ i s there. (law.1 i s there).1))
first_groups tree whole text from groups false x first is set = absurd (cc)
