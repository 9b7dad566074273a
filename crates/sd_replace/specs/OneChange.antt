-- A replacer does one thing to the same bytes.
use Rattle.std.proofs.Common.{List, length, sym, ◌∙◌, ap}
use Rattle.grep_matcher.specs.Replaced.{replaced_from}
use Rattle.grep_matcher.specs.Span.{Span}
use Rattle.grep_matcher.proofs.CoverLemmas.{fair_cover_unique}
use Rattle.grep_regex.specs.Matching.{MatchesAreWhole, end_at}
use Rattle.grep_regex.specs.MatchingLemmas.{lawful_ends}
use Rattle.sd_change.specs.Change.{IsOne}
use Rattle.sd_replace.specs.Replacement.{Replacement, Changes, replaced_of, text_at}

pub one_change : (replacement : Replacement) → MatchesAreWhole replacement.pattern → IsOne (Changes replacement)
one_change replacement whole bytes new_bytes others m n one other =
    let lawful = lawful_ends replacement.pattern whole bytes in
    let same = fair_cover_unique (end_at replacement.pattern bytes) 0 (length bytes) one.spans other.spans lawful one.cover other.cover in (
      one.bytes_are ∙ (ap (λ (spans : List Span). replaced_from (text_at replacement bytes) bytes 0 (replaced_of replacement bytes spans)) same ∙ sym other.bytes_are),
      one.count_is ∙ (ap (λ (spans : List Span). length (replaced_of replacement bytes spans)) same ∙ sym other.count_is),
    )
