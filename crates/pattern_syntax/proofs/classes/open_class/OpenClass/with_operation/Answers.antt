use Rattle.std.proofs.Common.{Some, refl, ap, ◌∙◌}
use Rattle.pattern_syntax.specs.Class.{waits}
use Rattle.pattern_syntax.specs.ClassReading.{held, operation_of}
use Rattle.pattern_syntax.specs.Sets.{Set}
use Rattle.pattern_syntax.proofs.RangesLemmas.{same_set}
use Rattle.pattern_syntax.proofs.classes.UnionLemmas.{same_frame, none_held}
use Rattle.pattern_syntax.proofs.classes.open_class.OpenClass.with_operation.Goals as goal

pub returns : goal.returns
returns c =
    same_frame _ _ _ _ _ _ _ _ _ _ _ _ _ _ refl (ap (λ (s : Set). waits s (operation_of c.args.operation)) (same_set _ _ c.in_ok-set.ensures))
    (ap held c.new.ensures.items ∙ none_held) (ap Some c.in_ok-depth.ensures) refl refl refl
