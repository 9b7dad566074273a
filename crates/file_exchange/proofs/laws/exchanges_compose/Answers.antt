use Rattle.file_exchange.proofs.laws.TurnLemmas.{in_turn}
use Rattle.file_exchange.proofs.laws.exchanges_compose.Goals as goal

pub returns : goal.returns
returns c = in_turn
