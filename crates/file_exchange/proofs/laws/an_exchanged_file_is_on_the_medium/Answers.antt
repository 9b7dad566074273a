use Rattle.file_exchange.proofs.laws.ImageLemmas.{durable_there, durable_elsewhere}
use Rattle.file_exchange.proofs.laws.an_exchanged_file_is_on_the_medium.Goals as goal

pub returns-clause-file : goal.returns-clause-file
returns-clause-file c = λ place bytes before mode old new. durable_there place bytes old new before mode

pub returns-clause-elsewhere : goal.returns-clause-elsewhere
returns-clause-elsewhere c = durable_elsewhere
