use Rattle.std.proofs.Common.{◌≡◌, ◌+◌, sym, ap, ◌∙◌, rules}
use Rattle.regex_class.specs.Ranges.{in_ranges}
use Rattle.pattern_syntax.specs.Class as class
use Rattle.pattern_syntax.specs.ClassReading.{held, waiting_of}
use Rattle.pattern_syntax.specs.Sets.{Set, closed, complement}
use Rattle.pattern_syntax.proofs.RangesLemmas.{same_set}
use Rattle.pattern_syntax.proofs.classes.UnionLemmas.{same_part, no_more, negated_part, plain_part}
use Rattle.pattern_syntax.proofs.classes.open_class.OpenClass.end.Goals as goal

pub returns-then-not-negated : goal.returns-then-not-negated
returns-then-not-negated c =
    let k = c.args.flags in
    let set : in_ranges c.in_ok-inner.inner.ranges.items ≡ closed k (class.side k (waiting_of c.args.self.left) (held c.args.self.ranges.items)) =
    same_set _ _ c.in_ok-inner.ensures ∙ ap (closed k) (same_set _ _ c.in_ok-whole.ensures) in
    let deep : c.in_ok-depth.depth ≡ c.in_ok-nested.nested + 1 = search rules in
    same_part _ _ _ _ _ _ (plain_part k c.args.self.negated _ _ c.if-not-negated.true set) (deep ∙ ap (λ d. d + 1) c.in_ok-nested.ensures)
    (sym (no_more c.args.self.literals))

pub returns : goal.returns
returns c =
    let k = c.args.flags in
    let set : in_ranges c.in_ok-inner.inner.ranges.items ≡ closed k (class.side k (waiting_of c.args.self.left) (held c.args.self.ranges.items)) =
    same_set _ _ c.in_ok-inner.ensures ∙ ap (closed k) (same_set _ _ c.in_ok-whole.ensures) in
    let deep : c.in_ok-depth.depth ≡ c.in_ok-nested.nested + 1 = search rules in
    same_part _ _ _ _ _ _
    (negated_part k c.args.self.negated _ _ c.if-not-negated.false (λ x. c.in_ok-set.ensures x ∙ ap (λ (s : Set). complement k s x) set))
    (deep ∙ ap (λ d. d + 1) c.in_ok-nested.ensures) (sym (no_more c.args.self.literals))
