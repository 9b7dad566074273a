use Rattle.std.proofs.Common.{ap, length, arith}
use Rattle.std.specs.Prelude.{codes}
use Rattle.chosen_files.specs.Examples.{p_rules}
use Rattle.chosen_files.proofs.laws.KeptLemmas.{fewer_seen_not_many}
use Rattle.chosen_files.proofs.examples.KeptLemmas.{small, p_kept, seen_places, p_seen, p_finds, all_places, p_finds_all, seen_once}
use Rattle.chosen_files.proofs.examples.files_are_kept_as_in_the_examples.Goals as goal

pub returns-clause-kept : goal.returns-clause-kept
returns-clause-kept c = p_kept

pub returns-clause-four_seen : goal.returns-clause-four_seen
returns-clause-four_seen c = (seen_places, p_seen, omega arith)

pub returns-clause-no_fewer_seen : goal.returns-clause-no_fewer_seen
returns-clause-no_fewer_seen c = λ few. fewer_seen_not_many 4 small (codes "/p") p_rules few (seen_places, p_finds, omega arith)

pub returns-clause-as_many_seen : goal.returns-clause-as_many_seen
returns-clause-as_many_seen c = (seen_places, p_finds, omega arith)

pub returns-clause-all_seen : goal.returns-clause-all_seen
returns-clause-all_seen c = (all_places, p_finds_all, omega arith)

pub returns-clause-listed : goal.returns-clause-listed
returns-clause-listed c = (seen_places, p_seen, omega arith)

pub returns-clause-no_more_listed : goal.returns-clause-no_more_listed
returns-clause-no_more_listed c = λ (places, lists, rose). let four = ap length (seen_once places lists) in absurd (omega (arith, four, rose))
