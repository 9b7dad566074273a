use Rattle.walk_rest.specs.Plan.{sorted}
use Rattle.walk_rest.proofs.read.SortLemmas.{less, less_weak, sorted_up, near_from_up, sorted_stable, sorted_is}
use Rattle.walk_rest.proofs.laws.lists_are_sorted_in_one_way.Goals as goal

pub returns : goal.returns
returns c = record {
  in_order = λ compare listed total k d low more. near_from_up (less compare) (sorted compare listed) (sorted_up compare (less_weak compare total) listed) k d more;
  stable = λ compare listed total entry. sorted_stable compare (less_weak compare total) entry listed;
  only = λ compare listed others total up stable. sorted_is compare total listed others up stable;
}
