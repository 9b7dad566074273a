use Rattle.std.proofs.Common.{refl}
use Rattle.walk_rest.specs.Examples.{foo_nodes, loop_nodes, broken_nodes}
use Rattle.walk_rest.proofs.examples.PlanBy.{listing_in}
use Rattle.walk_rest.proofs.examples.listings_are_as_in_the_examples.Goals as goal

pub returns-clause-contents_first : goal.returns-clause-contents_first
returns-clause-contents_first c = listing_in (foo_nodes 0) 5 _ _ _ _ _ refl

pub returns-clause-unsorted : goal.returns-clause-unsorted
returns-clause-unsorted c = listing_in (foo_nodes 0) 5 _ _ _ _ _ refl

pub returns-clause-depth_one : goal.returns-clause-depth_one
returns-clause-depth_one c = listing_in (foo_nodes 0) 5 _ _ _ _ _ refl

pub returns-clause-depth_two : goal.returns-clause-depth_two
returns-clause-depth_two c = listing_in (foo_nodes 0) 5 _ _ _ _ _ refl

pub returns-clause-other_device : goal.returns-clause-other_device
returns-clause-other_device c = listing_in (foo_nodes 7) 5 _ _ _ _ _ refl

pub returns-clause-round : goal.returns-clause-round
returns-clause-round c = listing_in loop_nodes 5 _ _ _ _ _ refl

pub returns-clause-loop_at_max_depth : goal.returns-clause-loop_at_max_depth
returns-clause-loop_at_max_depth c = listing_in loop_nodes 5 _ _ _ _ _ refl

pub returns-clause-link_not_followed : goal.returns-clause-link_not_followed
returns-clause-link_not_followed c = listing_in loop_nodes 5 _ _ _ _ _ refl

pub returns-clause-slash : goal.returns-clause-slash
returns-clause-slash c = listing_in loop_nodes 5 _ _ _ _ _ refl

pub returns-clause-broken_root : goal.returns-clause-broken_root
returns-clause-broken_root c = listing_in broken_nodes 5 _ _ _ _ _ refl

pub returns-clause-broken_root_followed : goal.returns-clause-broken_root_followed
returns-clause-broken_root_followed c = listing_in broken_nodes 5 _ _ _ _ _ refl

pub returns-clause-broken_root_entered : goal.returns-clause-broken_root_entered
returns-clause-broken_root_entered c = listing_in broken_nodes 5 _ _ _ _ _ refl

pub returns-clause-broken_root_on_one_device : goal.returns-clause-broken_root_on_one_device
returns-clause-broken_root_on_one_device c = listing_in broken_nodes 5 _ _ _ _ _ refl

pub returns-clause-no_root : goal.returns-clause-no_root
returns-clause-no_root c = listing_in broken_nodes 5 _ _ _ _ _ refl

pub returns-clause-root_link : goal.returns-clause-root_link
returns-clause-root_link c = listing_in broken_nodes 5 _ _ _ _ _ refl

pub returns-clause-root_link_contents_first : goal.returns-clause-root_link_contents_first
returns-clause-root_link_contents_first c = listing_in broken_nodes 5 _ _ _ _ _ refl

pub returns-clause-root_link_followed : goal.returns-clause-root_link_followed
returns-clause-root_link_followed c = listing_in broken_nodes 5 _ _ _ _ _ refl

pub returns-clause-root_link_left : goal.returns-clause-root_link_left
returns-clause-root_link_left c = listing_in broken_nodes 5 _ _ _ _ _ refl
