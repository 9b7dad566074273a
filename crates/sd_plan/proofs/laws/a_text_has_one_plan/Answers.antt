use Rattle.sd_plan.proofs.reading.ReadLemmas.{text_tells}
use Rattle.sd_plan.proofs.laws.a_text_has_one_plan.Goals as goal

pub returns : goal.returns
returns c = text_tells
