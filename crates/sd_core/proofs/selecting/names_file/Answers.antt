use Rattle.sd_core.proofs.selecting.NamedLemmas.{not_same}
use Rattle.sd_core.proofs.selecting.names_file.Goals as goal

pub returns : goal.returns
returns c = not_same _ _ c.is_no_path.ensures
