use Rattle.std.proofs.Common.{sym, ap, ◌∙◌}
use Rattle.regex_class.specs.Ranges.{in_ranges}
use Rattle.pattern_syntax.specs.Class as class
use Rattle.pattern_syntax.specs.ClassReading.{operation_of}
use Rattle.pattern_syntax.proofs.classes.UnionLemmas.{both_sets, left_alone, one_alone}
use Rattle.pattern_syntax.proofs.classes.open_class.combined.Goals as goal

pub returns-in_ok-intersection-in-Both : goal.returns-in_ok-intersection-in-Both
returns-in_ok-intersection-in-Both c x =
    both_sets c.in_ok-intersection-in-Both.field-0 c.args.first.now c.args.second.now c.in_ok-intersection-in-Both.ensures x
    ∙ ap (λ o. class.combined (operation_of o) (in_ranges c.args.first.now.ranges.items) (in_ranges c.args.second.now.ranges.items) x) (sym c.in-Both.is)

pub returns-in_ok-difference-in-Minus : goal.returns-in_ok-difference-in-Minus
returns-in_ok-difference-in-Minus c x =
    left_alone c.in_ok-difference-in-Minus.field-0 c.args.first.now c.args.second.now c.in_ok-difference-in-Minus.ensures x
    ∙ ap (λ o. class.combined (operation_of o) (in_ranges c.args.first.now.ranges.items) (in_ranges c.args.second.now.ranges.items) x) (sym c.in-Minus.is)

pub returns-in_ok-symmetric_difference-in-Either : goal.returns-in_ok-symmetric_difference-in-Either
returns-in_ok-symmetric_difference-in-Either c x =
    one_alone c.in_ok-symmetric_difference-in-Either.field-0 c.args.first.now c.args.second.now c.in_ok-symmetric_difference-in-Either.ensures x
    ∙ ap (λ o. class.combined (operation_of o) (in_ranges c.args.first.now.ranges.items) (in_ranges c.args.second.now.ranges.items) x) (sym c.in-Either.is)
