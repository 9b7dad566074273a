use Rattle.std.proofs.Common.{refl}
use Rattle.walk_rest.proofs.order.ByCmpOrder.compare.Goals as goal

pub returns : goal.returns
returns g c = λ by is. is.1 c.args.a.now c.args.b.now c.compare.result (record { first = c.args.a; second = c.args.b; shows = (refl, refl); says = record { met = c.compare.ensures } })
