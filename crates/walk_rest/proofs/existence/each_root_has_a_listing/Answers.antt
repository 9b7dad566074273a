use Rattle.std.proofs.Common.{refl}
use Rattle.walk_rest.specs.Plan.{items_in}
use Rattle.walk_rest.specs.Listing.{manner_of}
use Rattle.walk_rest.proofs.existence.ExistenceLemmas.{root_has_plan}
use Rattle.walk_rest.proofs.existence.each_root_has_a_listing.Goals as goal

pub returns-clause-plan : goal.returns-clause-plan
returns-clause-plan c = root_has_plan

pub returns-clause-listing : goal.returns-clause-listing
returns-clause-listing c = λ tree how sorts compare root is.
    let p = root_has_plan tree (manner_of tree how sorts compare root) root is in
    (items_in p.0, record { plan = p.0; planned = p.1; same = refl })
