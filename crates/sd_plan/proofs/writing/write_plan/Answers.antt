use Rattle.std.proofs.Common.{List, ℕ, ◌++◌, ap, ◌∙◌}
use Rattle.sd_plan.specs.Plan.{lines_text}
use Rattle.sd_plan.proofs.writing.WrittenLemmas.{written_plan}
use Rattle.sd_plan.proofs.writing.write_plan.Goals as goal

pub returns : goal.returns
returns c = record {
  is_plan = c.lines.ensures.plan;
  text_is =
      written_plan c.args.plan.now _ _ _ c.in_ok-text.ensures.items
      (c.in_ok-push_lines.ensures ∙ ap (λ l. c.in_ok-text.text.items ++ lines_text l) c.lines.ensures.lines)
      (c.in_ok-extend_from_slice.ensures.items ∙ ap (λ (l : List ℕ). c.push_lines.new.out.items ++ l) (c.deref.ensures.value ∙ c.in_ok-report.ensures));
}
