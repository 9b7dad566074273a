use Rattle.sd_io.proofs.path_texts.PathTextLemmas.{text_below, text_top}
use Rattle.sd_io.proofs.path_texts.texts_of_places_below_a_folder.Goals as goal

pub returns-clause-below : goal.returns-clause-below
returns-clause-below c = text_below

pub returns-clause-top : goal.returns-clause-top
returns-clause-top c = text_top
