use Rattle.file_exchange.proofs.laws.TurnLemmas.{goes_on_of, durable_goes_on_of, since_start}
use Rattle.file_exchange.proofs.laws.loops_over_files_keep_the_crash_clause.Goals as goal

pub returns-clause-start : goal.returns-clause-start
returns-clause-start c = λ exchanges first new same. since_start _ _ first new same

pub returns-clause-goes_on : goal.returns-clause-goes_on
returns-clause-goes_on c = goes_on_of

pub returns-clause-durable : goal.returns-clause-durable
returns-clause-durable c = durable_goes_on_of
