use Rattle.planned_files.proofs.laws.LawLemmas.{right_lines, applied_report}
use Rattle.planned_files.proofs.laws.a_plan_is_right_where_it_was_made.Goals as goal

pub returns : goal.returns
returns g c = record {
  right = λ replacer. right_lines (g.R.Replaces.change replacer);
  report = λ replacer. applied_report (g.R.Replaces.change replacer) (g.met.R.Replaces.one replacer);
}
