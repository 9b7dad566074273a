use Rattle.sd_core.proofs.laws.PlanLemmas.{ends_with_report}
use Rattle.sd_core.proofs.laws.a_plan_ends_with_the_report.Goals as goal

pub returns : goal.returns
returns g c replacer root globs old new lines report is plan rewrites = ends_with_report (g.R.Replaces.change replacer) (g.met.R.Replaces.one replacer) root globs old new lines report is plan rewrites
