use Rattle.std.proofs.Common.{refl}
use Rattle.sd_io.specs.Examples.{small_nodes}
use Rattle.sd_io.proofs.examples.ExampleLemmas.{file_in, reached_in}
use Rattle.sd_io.proofs.examples.paths_lead_as_in_the_examples.Goals as goal

pub returns-clause-file : goal.returns-clause-file
returns-clause-file c = file_in small_nodes _ _ refl

pub returns-clause-back_and_forth : goal.returns-clause-back_and_forth
returns-clause-back_and_forth c = reached_in small_nodes _ _ _ refl

pub returns-clause-no_leading_slash : goal.returns-clause-no_leading_slash
returns-clause-no_leading_slash c = reached_in small_nodes _ _ _ refl

pub returns-clause-trailing_slash : goal.returns-clause-trailing_slash
returns-clause-trailing_slash c = reached_in small_nodes _ _ _ refl

pub returns-clause-slash : goal.returns-clause-slash
returns-clause-slash c = reached_in small_nodes _ _ _ refl

pub returns-clause-dot : goal.returns-clause-dot
returns-clause-dot c = reached_in small_nodes _ _ _ refl

pub returns-clause-above_the_top : goal.returns-clause-above_the_top
returns-clause-above_the_top c = reached_in small_nodes _ _ _ refl

pub returns-clause-empty_path : goal.returns-clause-empty_path
returns-clause-empty_path c = reached_in small_nodes _ _ _ refl

pub returns-clause-nothing_there : goal.returns-clause-nothing_there
returns-clause-nothing_there c = reached_in small_nodes _ _ _ refl

pub returns-clause-through_a_file : goal.returns-clause-through_a_file
returns-clause-through_a_file c = reached_in small_nodes _ _ _ refl

pub returns-clause-up_from_a_file : goal.returns-clause-up_from_a_file
returns-clause-up_from_a_file c = reached_in small_nodes _ _ _ refl

pub returns-clause-up_from_nothing : goal.returns-clause-up_from_nothing
returns-clause-up_from_nothing c = reached_in small_nodes _ _ _ refl
