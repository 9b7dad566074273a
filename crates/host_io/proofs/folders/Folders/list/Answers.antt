use Rattle.host_io.proofs.folders.AnswerLemmas.{still_asks}
use Rattle.host_io.proofs.folders.Folders.list.Goals as goal

pub returns : goal.returns
returns g c = still_asks _ _ c.note_list.ensures c.change_names.ensures
