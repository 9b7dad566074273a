use Rattle.walk_rest.specs.Listing.{manner_of}
use Rattle.walkdir.proofs.laws.ListingLemmas.{root_opened}
use Rattle.walkdir.proofs.laws.each_max_open_has_the_same_listing.Goals as goal

pub returns : goal.returns
returns c = λ tree how most sorts compare root items listing. record {
  plan = listing.plan;
  planned = root_opened tree (manner_of tree how sorts compare root) most root listing.plan listing.planned;
  same = listing.same;
}
