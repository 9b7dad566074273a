use Rattle.walkdir.proofs.laws.CallsLemmas.{all_listed}
use Rattle.walkdir.proofs.laws.entries_were_listed.Goals as goal

pub returns : goal.returns
returns g c = λ old new before now items none calls. all_listed g.D.Disk.tells g.S.Order.sorts g.S.Order.compares_by old new before now items none calls
