use Rattle.std.proofs.Common.{ap, ◌∙◌, refl, rules}
use Rattle.pattern_syntax.specs.ClassReading.{held}
use Rattle.pattern_syntax.proofs.classes.UnionLemmas.{same_frame, held_append}
use Rattle.pattern_syntax.proofs.classes.open_class.OpenClass.add.Goals as goal

pub returns : goal.returns
returns c =
    same_frame _ _ _ _ _ _ _ _ _ _ _ _ _ _ refl refl
    (ap held c.in_ok-extend_from_slice.ensures.items ∙ held_append c.args.self.now.ranges.items c.args.ranges.now)
    refl (search rules) (search rules) c.in_both-self.ensures
