use Rattle.sd_core.proofs.laws.PlanLemmas.{leads_apart}
use Rattle.sd_core.proofs.laws.a_plan_of_a_tree_leads_apart.Goals as goal

pub returns : goal.returns
returns g c replacer root globs tree lines is plan = leads_apart (g.R.Replaces.change replacer) tree is root globs lines plan
