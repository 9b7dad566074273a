use Rattle.std.proofs.Common.{subst, sym}
use Rattle.hir_tree.specs.Tree.{Tree}
use Rattle.grep_regex.specs.Matching.{IsKept}
use Rattle.grep_regex.proofs.matcher.RegexMatcher.of_tree.Goals as goal

pub invariant_of-result-2 : goal.invariant_of-result-2
invariant_of-result-2 c =
    let names = c.in_ok-names_in.field-0.items in
    subst (λ (tree : Tree). IsKept tree c.group_count.result names c.non_matching_bytes.result c.args.terminator) (sym c.in_ok-searcher.ensures)
    (record { groups = c.group_count.ensures; names = c.in_ok-names_in.ensures; non_matching = c.non_matching_bytes.ensures; terminator = c.requires.ends })
