use Rattle.std.specs.Prelude.{codes}
use Rattle.walk_rest.specs.Examples.{tree_with}
use Rattle.chosen_files.specs.Examples.{d_nodes}
use Rattle.chosen_files.proofs.examples.CountLemmas.{fewer_than_six, five_or_more, to_none}
use Rattle.chosen_files.proofs.laws.ChosenLemmas.{fewer_not_many}
use Rattle.chosen_files.proofs.examples.entries_are_counted_as_in_the_examples.Goals as goal

pub returns-clause-five : goal.returns-clause-five
returns-clause-five c = fewer_than_six

pub returns-clause-no_fewer : goal.returns-clause-no_fewer
returns-clause-no_fewer c = λ fewer. fewer_not_many 5 (tree_with d_nodes) (codes "/d") fewer five_or_more

pub returns-clause-as_many : goal.returns-clause-as_many
returns-clause-as_many c = five_or_more

pub returns-clause-nowhere : goal.returns-clause-nowhere
returns-clause-nowhere c = λ fewer. let leads = fewer.1.leads in let nowhere = to_none in cc
