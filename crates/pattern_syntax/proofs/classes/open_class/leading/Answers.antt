use Rattle.std.proofs.Common.{◌≡◌, false, ◌==◌, ◌&&◌, ◌||◌, nat_lt, ap, ◌∙◌}
use Rattle.pattern_syntax.specs.ClassReading.{held}
use Rattle.pattern_syntax.proofs.classes.UnionLemmas.{none_held_at}
use Rattle.pattern_syntax.proofs.classes.StartLemmas.{first_pushed, first_none, second_pushed, second_none}
use Rattle.pattern_syntax.proofs.classes.open_class.leading.Goals as goal
use Rattle.pattern_syntax.proofs.classes.open_class.leading.Goals.{then-head-gt0+in_ok-push, else-head-gt0, then-head+in_ok-push-2, else-head}

pub returns : goal.returns
returns c x =
    let dashes = c.args.head.dashes in
    let before : held c.new-ranges.result.items x ≡ false = ap (λ items. held items x) c.new-ranges.ensures.items ∙ none_held_at x in
    let first : held c.if-head-gt0.ranges.items x ≡ ((x == 45) && nat_lt 0 dashes) =
    elim c.if-head-gt0.branch [
      | then-head-gt0+in_ok-push w ↦ rw w.ranges-is (w.in_ok-push.ensures x ∙ first_pushed x dashes (held c.new-ranges.result.items x) before w.if-head-gt0.true)
      | else-head-gt0 w ↦ rw w.ranges-is (first_none x dashes (held c.new-ranges.result.items x) before w.if-head-gt0.false)
    ] in
    elim c.if-head.branch [
      | then-head+in_ok-push-2 w ↦ rw w.ranges-is
          (w.in_ok-push-2.ensures x ∙ ap (λ b. b || (x == 93)) first ∙ second_pushed ((x == 45) && nat_lt 0 dashes) (x == 93) c.args.head.bracket w.if-head.true)
      | else-head w ↦ rw w.ranges-is (first ∙ second_none ((x == 45) && nat_lt 0 dashes) (x == 93) c.args.head.bracket w.if-head.false)
    ]
