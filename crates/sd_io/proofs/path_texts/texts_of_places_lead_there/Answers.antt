use Rattle.sd_io.proofs.path_texts.PathTextLemmas.{text_directory, text_no_link, text_not_followed}
use Rattle.sd_io.proofs.path_texts.texts_of_places_lead_there.Goals as goal

pub returns-clause-not_followed : goal.returns-clause-not_followed
returns-clause-not_followed c = text_not_followed

pub returns-clause-no_link : goal.returns-clause-no_link
returns-clause-no_link c = text_no_link

pub returns-clause-directory : goal.returns-clause-directory
returns-clause-directory c = text_directory
