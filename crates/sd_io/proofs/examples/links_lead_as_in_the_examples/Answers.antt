use Rattle.std.proofs.Common.{refl}
use Rattle.sd_io.specs.Examples.{chain_nodes, small_nodes}
use Rattle.sd_io.proofs.examples.ExampleLemmas.{chained, looping, reached_in}
use Rattle.sd_io.proofs.examples.links_lead_as_in_the_examples.Goals as goal

pub returns-clause-followed : goal.returns-clause-followed
returns-clause-followed c = reached_in small_nodes _ _ _ refl

pub returns-clause-not_followed : goal.returns-clause-not_followed
returns-clause-not_followed c = reached_in small_nodes _ _ _ refl

pub returns-clause-inside_a_path : goal.returns-clause-inside_a_path
returns-clause-inside_a_path c = reached_in small_nodes _ _ _ refl

pub returns-clause-from_its_folder : goal.returns-clause-from_its_folder
returns-clause-from_its_folder c = reached_in small_nodes _ _ _ refl

pub returns-clause-from_the_top : goal.returns-clause-from_the_top
returns-clause-from_the_top c = reached_in small_nodes _ _ _ refl

pub returns-clause-parent : goal.returns-clause-parent
returns-clause-parent c = reached_in small_nodes _ _ _ refl

pub returns-clause-to_nothing : goal.returns-clause-to_nothing
returns-clause-to_nothing c = reached_in small_nodes _ _ _ refl

pub returns-clause-to_nothing_not_followed : goal.returns-clause-to_nothing_not_followed
returns-clause-to_nothing_not_followed c = reached_in small_nodes _ _ _ refl

pub returns-clause-to_itself : goal.returns-clause-to_itself
returns-clause-to_itself c = looping

pub returns-clause-three : goal.returns-clause-three
returns-clause-three c = chained 3 3

pub returns-clause-three_of_two : goal.returns-clause-three_of_two
returns-clause-three_of_two c = chained 2 3

pub returns-clause-forty : goal.returns-clause-forty
returns-clause-forty c = reached_in (chain_nodes 41) _ _ _ refl

pub returns-clause-forty_one : goal.returns-clause-forty_one
returns-clause-forty_one c = reached_in (chain_nodes 41) _ _ _ refl
