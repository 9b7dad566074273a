use Rattle.sd_io.proofs.laws.PathLemmas.{file_of_named, reached_file, reached_free, reached_no_link, reached_not_followed}
use Rattle.sd_io.proofs.laws.paths_lead_where_they_name.Goals as goal

pub returns-clause-no_link : goal.returns-clause-no_link
returns-clause-no_link c = reached_no_link

pub returns-clause-not_followed : goal.returns-clause-not_followed
returns-clause-not_followed c = reached_not_followed

pub returns-clause-free : goal.returns-clause-free
returns-clause-free c = reached_free

pub returns-clause-file : goal.returns-clause-file
returns-clause-file c = reached_file

pub returns-clause-file_of : goal.returns-clause-file_of
returns-clause-file_of c = file_of_named
