use Rattle.std.proofs.Common.{refl}
use Rattle.walk_rest.specs.Rest.{start}
use Rattle.walk_rest.proofs.laws.RestLemmas.{runs_due}
use Rattle.walk_rest.proofs.laws.items_of_run.Goals as goal

pub returns : goal.returns
returns c = λ tree how sorts compare root plan items planned runs.
    record { plan = plan; planned = planned; same = runs_due (start plan) items (refl, tt) runs }
