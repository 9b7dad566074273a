use Rattle.sd_io.proofs.laws.WayLemmas.{directory_alike, named_alike, reached_still}
use Rattle.sd_io.proofs.laws.paths_rest_on_directories_and_links.Goals as goal

pub returns-clause-named : goal.returns-clause-named
returns-clause-named c = λ old new path same. named_alike same path

pub returns-clause-directory : goal.returns-clause-directory
returns-clause-directory c = λ old new path same. directory_alike same path

pub returns-clause-reached : goal.returns-clause-reached
returns-clause-reached c = λ old new path follow place same. reached_still same path follow place
