use Rattle.sd_plan.proofs.laws.Utf8Lemmas.{plan_text}
use Rattle.sd_plan.proofs.laws.a_plan_is_text.Goals as goal

pub returns : goal.returns
returns c = plan_text
