use Rattle.planned_files.proofs.laws.LawLemmas.{ends_with_report}
use Rattle.planned_files.proofs.laws.a_plan_ends_with_the_report.Goals as goal

pub returns : goal.returns
returns g c replacer = ends_with_report (g.R.Replaces.change replacer) (g.met.R.Replaces.one replacer)
