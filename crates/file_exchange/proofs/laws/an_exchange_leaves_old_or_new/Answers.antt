use Rattle.file_exchange.proofs.laws.ImageLemmas.{old_or_new_there, old_elsewhere}
use Rattle.file_exchange.proofs.laws.an_exchange_leaves_old_or_new.Goals as goal

pub returns-clause-file : goal.returns-clause-file
returns-clause-file c = λ place bytes before mode old new. old_or_new_there place bytes old new before mode

pub returns-clause-elsewhere : goal.returns-clause-elsewhere
returns-clause-elsewhere c = old_elsewhere
