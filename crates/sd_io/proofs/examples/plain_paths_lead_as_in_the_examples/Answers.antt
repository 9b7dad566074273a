use Rattle.std.proofs.Common.{refl}
use Rattle.sd_io.specs.Examples.{small_nodes}
use Rattle.sd_io.proofs.examples.ExampleLemmas.{plain_in}
use Rattle.sd_io.proofs.examples.plain_paths_lead_as_in_the_examples.Goals as goal

pub returns-clause-file : goal.returns-clause-file
returns-clause-file c = plain_in small_nodes _ _ refl

pub returns-clause-up : goal.returns-clause-up
returns-clause-up c = plain_in small_nodes _ _ refl

pub returns-clause-link : goal.returns-clause-link
returns-clause-link c = plain_in small_nodes _ _ refl

pub returns-clause-through_a_link : goal.returns-clause-through_a_link
returns-clause-through_a_link c = plain_in small_nodes _ _ refl

pub returns-clause-up_from_a_link : goal.returns-clause-up_from_a_link
returns-clause-up_from_a_link c = plain_in small_nodes _ _ refl

pub returns-clause-empty_path : goal.returns-clause-empty_path
returns-clause-empty_path c = plain_in small_nodes _ _ refl
