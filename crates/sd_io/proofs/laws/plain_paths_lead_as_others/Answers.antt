use Rattle.sd_io.proofs.laws.PathLemmas.{file_of_plain}
use Rattle.sd_io.proofs.laws.plain_paths_lead_as_others.Goals as goal

pub returns : goal.returns
returns c = file_of_plain
