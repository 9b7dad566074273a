use Rattle.std.proofs.Common.{◌≡◌, ◌≤◌, Some, [], length}
use Rattle.std.proofs.lemmas.List.Elements.{recursion_from_All, All-from_recursion, All-weaker}
use Rattle.grep_regex.specs.Matching.{end_at}
use Rattle.hir_tree.specs.Tree.{tree_of}
use Rattle.sd_replace.specs.Replacement.{HoldsNoLineFeed, replaced_of}
use Rattle.sd_replace.specs.Replacer.{replacement_of}
use Rattle.sd_replace.proofs.laws.WithinLemmas.{each_within}
use Rattle.sd_replace.proofs.laws.no_replaced_span_holds_a_line_feed.Goals as goal

pub returns : goal.returns
returns c = λ replacer by_line bytes spans cover.
    let each = All-weaker (λ span. (0 ≤ span.start) × (span.start ≤ length bytes) × (end_at (tree_of replacer.matcher.searcher) bytes span.start ≡ Some span.end)) (HoldsNoLineFeed bytes)
    (λ span is i from to. replacer.clear by_line bytes span.start span.end i is.1 is.2 from to) spans cover.each_preferred in
    All-from_recursion (HoldsNoLineFeed bytes) (replaced_of (replacement_of replacer) bytes spans)
    (each_within (HoldsNoLineFeed bytes) replacer.counted replacer.limit bytes [] spans (recursion_from_All (HoldsNoLineFeed bytes) spans each))
