use Rattle.std.proofs.Common.{◌≡◌, sym, ap, ap₂, ◌∙◌}
use Rattle.std.proofs.lemmas.Result.{IfOk-weaker}
use Rattle.regex_class.specs.Ranges.{in_ranges}
use Rattle.regex_class.specs.declared.Class.{Class}
use Rattle.pattern_syntax.specs.Class as class
use Rattle.pattern_syntax.specs.ClassReading.{held, operation_of, waiting_of}
use Rattle.pattern_syntax.specs.Sets.{Set, closed}
use Rattle.pattern_syntax.specs.Readers.{IsSet}
use Rattle.pattern_syntax.proofs.RangesLemmas.{same_set}
use Rattle.pattern_syntax.proofs.classes.UnionLemmas.{exact_held}
use Rattle.pattern_syntax.proofs.classes.open_class.side.Goals as goal

pub returns-in-None : goal.returns-in-None
returns-in-None c x =
    exact_held c.in_ok-union.union c.args.ranges.items c.in_ok-union.ensures x
    ∙ ap (λ left. class.side c.args.flags (waiting_of left) (held c.args.ranges.items) x) (sym c.in-None.is)

pub returns-in_ok-second-in-Some : goal.returns-in_ok-second-in-Some
returns-in_ok-second-in-Some c =
    let right : in_ranges c.in_ok-union.union.ranges.items ≡ held c.args.ranges.items = same_set _ _ (exact_held c.in_ok-union.union c.args.ranges.items c.in_ok-union.ensures) in
    let first : in_ranges c.in_ok-first-in-Some.first.ranges.items ≡ closed c.args.flags (in_ranges c.in-Some.left.set.ranges.items) = same_set _ _ c.in_ok-first-in-Some.ensures in
    let second : in_ranges c.in_ok-second-in-Some.second.ranges.items ≡ closed c.args.flags (held c.args.ranges.items) =
    same_set _ _ c.in_ok-second-in-Some.ensures ∙ ap (closed c.args.flags) right in
    let more : (set : Class) → IsSet set (class.combined (operation_of c.in-Some.left.operation) (in_ranges c.in_ok-first-in-Some.first.ranges.items) (in_ranges c.in_ok-second-in-Some.second.ranges.items))
    → IsSet set (class.side c.args.flags (waiting_of c.args.left) (held c.args.ranges.items)) =
    λ set h x.
    h x ∙ ap₂ (λ (s t : Set). class.combined (operation_of c.in-Some.left.operation) s t x) first second
    ∙ ap (λ left. class.side c.args.flags (waiting_of left) (held c.args.ranges.items) x) (sym c.in-Some.is) in
    IfOk-weaker _ _ _ more c.combined.ensures
