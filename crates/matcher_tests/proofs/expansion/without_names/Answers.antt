use Rattle.std.proofs.Common.{rules, None}
use Rattle.grep_matcher.specs.References.{group_text}
use Rattle.grep_matcher.proofs.ReferenceLemmas.{with_numbers}
use Rattle.matcher_tests.proofs.expansion.without_names.Goals as goal

pub returns : goal.returns
returns c =
    with_numbers c.interpolate.result _ (λ name. name.now) _ c.args.dst.now.items c.interpolate.new.dst.items c.args.replacement.now (group_text c.args.haystack.now c.args.groups.now.0) (λ _. None)
    c.interpolate.ensures.expanded (λ f name answer h reached called. search rules)
