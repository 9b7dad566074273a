use Rattle.std.proofs.Common.{List, ℕ, ◌++◌, ◌∷◌, [], ap, ◌∙◌}
use Rattle.sd_plan.specs.Escaped.{escaped}
use Rattle.sd_plan.proofs.writing.WrittenLemmas.{written_line}
use Rattle.sd_plan.proofs.writing.push_line.Goals as goal

pub returns : goal.returns
returns c =
    written_line c.args.line.now _ _ _ _ _ _ _
    (c.in_ok-push_field.ensures ∙ ap (λ (d : List ℕ). c.args.out.now.items ++ (d ++ 32 ∷ [])) c.digits.ensures)
    (c.in_ok-push_field-2.ensures ∙ ap (λ (d : List ℕ). c.push_field.new.out.items ++ (d ++ 32 ∷ [])) c.digits-2.ensures)
    (c.in_ok-push_field-3.ensures ∙ ap (λ (m : ℕ). c.push_field-2.new.out.items ++ (m ∷ 32 ∷ [])) c.mark_of.ensures)
    (c.in_ok-push_field-4.ensures ∙ ap (λ (d : List ℕ). c.push_field-3.new.out.items ++ (d ++ 32 ∷ [])) (c.as_bytes.ensures.value ∙ c.format.ensures.text))
    (c.in_ok-push_escaped.ensures ∙ ap (λ (p : List ℕ). c.push_field-4.new.out.items ++ escaped p) (c.as_bytes-2.ensures.value ∙ c.as_str.ensures.same))
    c.in_ok-push.ensures.items
