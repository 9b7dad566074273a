use Rattle.planned_files.proofs.laws.LawLemmas.{listed_apart}
use Rattle.planned_files.proofs.laws.listed_files_lead_apart.Goals as goal

pub returns : goal.returns
returns c = listed_apart
