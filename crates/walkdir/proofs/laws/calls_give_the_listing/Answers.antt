use Rattle.std.proofs.Common.{refl}
use Rattle.walk_rest.specs.Rest.{start}
use Rattle.walk_rest.proofs.RestLemmas.{runs_due}
use Rattle.walkdir.proofs.laws.ListingLemmas.{runs_out}
use Rattle.walkdir.proofs.laws.calls_give_the_listing.Goals as goal

pub returns : goal.returns
returns g c = λ old new before now items by plan tells compares planned has runs none named. record {
  plan = plan;
  planned = planned;
  same = runs_due (start plan) items (refl, tt)
      (runs_out g.D.Disk.tells g.S.Order.sorts g.S.Order.compares_by old new before now items by (start plan) tells compares has runs none named);
}
