use Rattle.std.proofs.Common.{◌||◌, ap, sym, ◌∙◌, arith}
use Rattle.std.proofs.lemmas.Bool.Decides.{nat_tests}
use Rattle.regex_class.specs.Ranges.{in_range, in_ranges}
use Rattle.regex_class.proofs.RangesLemmas.{in_ranges-push, or-false}
use Rattle.pattern_syntax.proofs.sets.cases.add_upper_case.Goals as goal

pub returns-in_ok-push : goal.returns-in_ok-push
unfolding in_range
returns-in_ok-push c x =
    ap (λ rs. in_ranges rs x) c.in_ok-push.ensures.items ∙ in_ranges-push c.args.ranges.now.items _ x
    ∙ ap (λ b. in_ranges c.args.ranges.now.items x || b) (grind (arith, nat_tests, c.max-first.ensures, c.min-last.ensures))

pub returns-else-first-last : goal.returns-else-first-last
unfolding in_range
returns-else-first-last c x =
    sym (ap (λ b. in_ranges c.args.ranges.now.items x || b) (grind (arith, nat_tests, c.max-first.ensures, c.min-last.ensures))
    ∙ or-false (in_ranges c.args.ranges.now.items x))
