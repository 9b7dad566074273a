use Rattle.std.proofs.Common.{◌≡◌, Some, length}
use Rattle.grep_regex.specs.Matching.{match_at}
use Rattle.hir_tree.specs.Cores.{core_of_tree}
use Rattle.hir_tree.specs.Groups.{EachLiesWithin, start_of}
use Rattle.hir_tree.specs.Spots.{groups_of_tree}
use Rattle.sd_replace.specs.OneChange.{one_change}
use Rattle.sd_replace.proofs.laws.WithinLemmas.{both}
use Rattle.sd_replace.proofs.laws.one_change.Goals as goal

pub returns : goal.returns
returns c = λ replacement. one_change replacement (λ text at within.
    let tree = replacement.pattern in
    both (λ found. start_of found ≡ Some at) (EachLiesWithin (length text)) (match_at tree text at)
    (c.preferred_matches_are_whole.ensures.begins (core_of_tree tree) (groups_of_tree tree) text at within)
    (c.preferred_matches_are_whole.ensures.lies (core_of_tree tree) (groups_of_tree tree) text at within))
