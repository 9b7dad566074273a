use Rattle.sd_io.proofs.path_texts.PathTextLemmas.{text_parts}
use Rattle.sd_io.proofs.path_texts.texts_of_places_hold_their_names.Goals as goal

pub returns : goal.returns
returns c = text_parts
