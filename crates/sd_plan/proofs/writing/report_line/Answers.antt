use Rattle.std.proofs.Common.{List, ℕ, ap, ◌∙◌, ◌++◌}
use Rattle.sd_plan.specs.Report.{report_text}
use Rattle.sd_plan.proofs.writing.WrittenLemmas.{written_report}
use Rattle.sd_plan.proofs.writing.report_line.Goals as goal

pub returns : goal.returns
returns c =
    written_report _ _ _ _ _ _ _ _ _ _ c.in_ok-line.ensures.items
    (c.in_ok-extend_from_slice.ensures.items ∙ ap (λ (d : List ℕ). c.in_ok-line.line.items ++ d) (c.as_bytes.ensures.value ∙ c.format.ensures.text))
    c.in_ok-extend_from_slice-2.ensures.items
    (c.in_ok-extend_from_slice-3.ensures.items ∙ ap (λ (d : List ℕ). c.extend_from_slice-2.new.self.items ++ d) (c.as_bytes-2.ensures.value ∙ c.format-2.ensures.text))
    c.in_ok-extend_from_slice-4.ensures.items
    (c.in_ok-extend_from_slice-5.ensures.items ∙ ap (λ (d : List ℕ). c.extend_from_slice-4.new.self.items ++ d) (c.as_bytes-3.ensures.value ∙ c.format-3.ensures.text))
    c.in_ok-extend_from_slice-6.ensures.items
    ∙ (λ i. report_text (c.len.ensures i) (c.changed.ensures i) (c.replaced.ensures.is i))
