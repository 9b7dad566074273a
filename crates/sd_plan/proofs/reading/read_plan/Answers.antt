use Rattle.std.proofs.Common.{◌≢◌, ℕ, ◌+◌, ◌^◌, ◌≤◌, ◌<◌, List, [], drop, sym, subst, ◌∙◌, arith}
use Rattle.std.specs.Cmp.Lexicographic.{bytes_decides}
use Rattle.sd_plan.specs.Plan.{replaced_in}
use Rattle.sd_plan.specs.Reading.{IsCut}
use Rattle.sd_plan.specs.declared.line.PlanLine.{PlanLine}
use Rattle.sd_plan.proofs.fields.FoundLemmas.{differs, none_of_length, some_of_length, first_is, first_isnt}
use Rattle.sd_plan.proofs.reading.TextLemmas.{IsReadTo}
use Rattle.sd_plan.proofs.reading.ReadLemmas.{read_first, read_line_more, read_whole, refused_first, refused_uncut, refused_line, refused_sum, refused_report, text_tells}
use Rattle.sd_plan.proofs.reading.read_plan.Goals as goal

pub returns-in_default-clause-refused : goal.returns-in_default-clause-refused
returns-in_default-clause-refused c refused lines is =
    let (rest, e) = refused_first c.args.text.now lines is in first_isnt c.args.text.now rest c.in_default.ensures.cases e

pub loop-line-init : goal.loop-line-init
loop-line-init c =
    let (same, rest_is, _) = c.in-Some.ensures.cases in
    subst (λ (rest : List ℕ). IsReadTo c.args.text.now c.new-plan.result rest) (sym rest_is)
    (subst (λ (done : List PlanLine). IsReadTo c.args.text.now done (drop 10 c.args.text.now)) (sym c.new-plan.ensures)
    (read_first c.args.text.now (drop 10 c.args.text.now) (first_is c.args.text.now same)))

pub returns-in_default-cut-clause-refused : goal.returns-in_default-cut-clause-refused
returns-in_default-cut-clause-refused c refused lines is = refused_uncut _ _ lines _ c.loop-line.invariant c.in_default-cut.ensures.none is

pub returns-in_default-2-clause-refused : goal.returns-in_default-2-clause-refused
returns-in_default-2-clause-refused c refused lines is =
    let none = rw c.in_default-2.is at c.in_ok-line.ensures in
    let some : c.in-Some-cut.after.now ≢ [] = some_of_length c.in-Some-cut.after.now (sym c.is_empty.ensures ∙ c.if-is_empty.false) in
    refused_line _ _ lines _ _ _ c.loop-line.invariant c.in-Some-cut.ensures.found some none is

pub returns-then-line-replaced-clause-refused : goal.returns-then-line-replaced-clause-refused
returns-then-line-replaced-clause-refused c refused lines is =
    let found = rw c.in-Some-2.is at c.in_ok-line.ensures in
    let some : c.in-Some-cut.after.now ≢ [] = some_of_length c.in-Some-cut.after.now (sym c.is_empty.ensures ∙ c.if-is_empty.false) in
    let done : replaced_in c.loop-line.plan < 2 ^ 128 = c.loop-line.invariant.is_plan.fits in
    let great : 2 ^ 128 ≤ replaced_in c.loop-line.plan + c.in-Some-2.line.replaced = omega (arith, c.replaced.ensures.is, c.if-line-replaced.true) in
    refused_sum _ _ lines _ _ _ c.in-Some-2.line c.loop-line.invariant c.in-Some-cut.ensures.found some found great is

pub loop-line-preserved : goal.loop-line-preserved
loop-line-preserved c =
    let found = rw c.in-Some-2.is at c.in_ok-line.ensures in
    let some : c.in-Some-cut.after.now ≢ [] = some_of_length c.in-Some-cut.after.now (sym c.is_empty.ensures ∙ c.if-is_empty.false) in
    let done : replaced_in c.loop-line.plan < 2 ^ 128 = c.loop-line.invariant.is_plan.fits in
    let fits : replaced_in c.loop-line.plan + c.in-Some-2.line.replaced < 2 ^ 128 = omega (arith, c.replaced.ensures.is, c.if-line-replaced.false) in
    subst (λ (plan : List PlanLine). IsReadTo c.args.text.now plan c.in-Some-cut.after.now) (sym c.in_ok-push.ensures.pushed)
    (read_line_more _ _ _ _ _ c.in-Some-2.line c.loop-line.invariant c.in-Some-cut.ensures.found some found fits)

pub returns-then-eq-clause-plan : goal.returns-then-eq-clause-plan
returns-then-eq-clause-plan c =
    let same = (bytes_decides c.as_slice.result.now c.loop-line.rest.now).0 (sym c.eq.ensures ∙ c.if-eq.true) in
    read_whole _ _ _ c.loop-line.invariant (sym same ∙ c.as_slice.ensures.value ∙ c.in_ok-report_line.ensures)

pub returns-then-eq-clause-only : goal.returns-then-eq-clause-only
returns-then-eq-clause-only c lines is = text_tells c.args.text.now c.loop-line.plan lines (returns-then-eq-clause-plan c) is

pub returns-else-eq-clause-refused : goal.returns-else-eq-clause-refused
returns-else-eq-clause-refused c refused lines is =
    let none = none_of_length c.in-Some-cut.after.now (sym c.is_empty.ensures ∙ c.if-is_empty.true) in
    let cut : IsCut 10 c.loop-line.rest.now c.in-Some-cut.line.now [] = subst (λ (after : List ℕ). IsCut 10 c.loop-line.rest.now c.in-Some-cut.line.now after) none c.in-Some-cut.ensures.found in
    refused_report _ _ lines _ _ c.loop-line.invariant cut
    (λ e. differs c.as_slice.result.now c.loop-line.rest.now c.eq.result c.eq.ensures c.if-eq.false (c.as_slice.ensures.value ∙ c.in_ok-report_line.ensures ∙ sym e)) is
