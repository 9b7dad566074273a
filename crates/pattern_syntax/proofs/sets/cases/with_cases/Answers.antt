use Rattle.std.proofs.Common.{refl, ◌∙◌}
use Rattle.regex_class.specs.Ranges.{in_ranges}
use Rattle.pattern_syntax.specs.Sets.{with_cases}
use Rattle.pattern_syntax.proofs.sets.CaseLemmas.{cased_start, cased_next, cased_end, cases_end}
use Rattle.pattern_syntax.proofs.sets.MemberLemmas.{class_ends, same_members}
use Rattle.pattern_syntax.proofs.sets.cases.with_cases.Goals as goal

pub loop-i-init : goal.loop-i-init
loop-i-init c = cased_start c.in_ok-ranges.ranges.items c.deref-own.result.now c.in_ok-ranges.ensures.items

pub loop-i-preserved : goal.loop-i-preserved
loop-i-preserved c =
    cased_next c.loop-i.ranges.items c.add_lower_case.new.ranges.items c.add_upper_case.new.ranges.items c.deref-own.result.now c.loop-i.i _ c.loop-i-test.true refl
    c.in_ok-add_lower_case.ensures c.in_ok-add_upper_case.ensures c.loop-i.invariant

pub returns : goal.returns
returns c =
    let own = c.args.set.now.ranges.items in
    same_members c.in_ok-new.field-0 (with_cases (in_ranges own))
    (λ x le.
    c.in_ok-new.ensures x le
    ∙ cased_end c.loop-i.ranges.items c.deref-own.result.now own c.loop-i.i c.loop-i-test.false c.deref-own.ensures.value c.loop-i.invariant x)
    (cases_end (in_ranges own) (class_ends c.args.set.now))
