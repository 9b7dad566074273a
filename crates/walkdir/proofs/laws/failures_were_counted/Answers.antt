use Rattle.walkdir.proofs.laws.CallsLemmas.{all_counted}
use Rattle.walkdir.proofs.laws.failures_were_counted.Goals as goal

pub returns : goal.returns
returns g c = λ old new before now items none fits calls. all_counted g.D.Disk.tells g.S.Order.sorts g.S.Order.compares_by old new before now items none fits calls
