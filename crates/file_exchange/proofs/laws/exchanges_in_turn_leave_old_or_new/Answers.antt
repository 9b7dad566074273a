use Rattle.file_exchange.proofs.laws.TurnLemmas.{old_or_new}
use Rattle.file_exchange.proofs.laws.exchanges_in_turn_leave_old_or_new.Goals as goal

pub returns : goal.returns
returns c = old_or_new
