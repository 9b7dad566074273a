use Rattle.std.proofs.Common.{refl}
use Rattle.sd_io.specs.Examples.{small_nodes}
use Rattle.sd_io.proofs.examples.ExampleLemmas.{named_in}
use Rattle.sd_io.proofs.examples.paths_name_as_in_the_examples.Goals as goal

pub returns-clause-file : goal.returns-clause-file
returns-clause-file c = named_in small_nodes _ _ refl

pub returns-clause-new : goal.returns-clause-new
returns-clause-new c = named_in small_nodes _ _ refl

pub returns-clause-new_by_a_link : goal.returns-clause-new_by_a_link
returns-clause-new_by_a_link c = named_in small_nodes _ _ refl

pub returns-clause-link : goal.returns-clause-link
returns-clause-link c = named_in small_nodes _ _ refl

pub returns-clause-slash : goal.returns-clause-slash
returns-clause-slash c = named_in small_nodes _ _ refl

pub returns-clause-empty_path : goal.returns-clause-empty_path
returns-clause-empty_path c = named_in small_nodes _ _ refl

pub returns-clause-up : goal.returns-clause-up
returns-clause-up c = named_in small_nodes _ _ refl

pub returns-clause-in_a_file : goal.returns-clause-in_a_file
returns-clause-in_a_file c = named_in small_nodes _ _ refl

pub returns-clause-in_nothing : goal.returns-clause-in_nothing
returns-clause-in_nothing c = named_in small_nodes _ _ refl

pub returns-clause-in_a_loop : goal.returns-clause-in_a_loop
returns-clause-in_a_loop c = named_in small_nodes _ _ refl
