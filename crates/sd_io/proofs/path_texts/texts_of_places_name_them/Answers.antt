use Rattle.sd_io.proofs.path_texts.PathTextLemmas.{text_names}
use Rattle.sd_io.proofs.path_texts.texts_of_places_name_them.Goals as goal

pub returns : goal.returns
returns c = λ tree folder name is. text_names tree is folder name
