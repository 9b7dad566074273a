use Rattle.std.proofs.Common.{◌≡◌, sym, ap, ◌∙◌}
use Rattle.std.specs.Prelude.{decimal}
use Rattle.sd_plan.proofs.fields.FoundLemmas.{differs, was_err, was_ok, count_text, count_none, count_same}
use Rattle.sd_plan.proofs.fields.read_count.Goals as goal

pub returns-in_err-text : goal.returns-in_err-text
returns-in_err-text c = rw c.from_residual.ensures (λ n is. (was_err _ _ c.from_utf8.result c.in_err-text.ensures.value c.from_utf8.ensures.cases).2.0 (count_text c.args.field.now n is))

pub returns-in_err-count : goal.returns-in_err-count
returns-in_err-count c =
    let same = (was_ok _ _ c.from_utf8.result c.in_ok-text.text c.in_ok-text.ensures.value c.from_utf8.ensures.cases).0 in
    rw c.from_residual-in_err-count.ensures (λ n is. count_none c.in_ok-text.text.now c.parse.result n c.parse.ensures.value.0 c.in_err-count.ensures.value (is.0, same ∙ is.1))

pub returns-else-eq : goal.returns-else-eq
returns-else-eq c n is =
    let same = (was_ok _ _ c.from_utf8.result c.in_ok-text.text c.in_ok-text.ensures.value c.from_utf8.ensures.cases).0 in
    let count : c.in_ok-count.count ≡ n = count_same c.in_ok-text.text.now c.parse.result c.in_ok-count.count n c.parse.ensures.value.0 c.in_ok-count.ensures.value (is.0, same ∙ is.1) in
    differs c.as_bytes.result.now c.args.field.now c.eq.result c.eq.ensures c.if-eq.false (c.as_bytes.ensures.value ∙ c.format.ensures.text ∙ ap decimal count ∙ sym is.1)
