use Rattle.pattern_syntax.proofs.ReadsExamples.{groups-no_text, groups-flags_alone, groups-flags_over_branches, groups-greed_over_branches, groups-names, groups-nested, groups-empty_branches, groups-flags_in_a_row, groups-spaced_group, groups-spaced_parenthesis}
use Rattle.pattern_syntax.proofs.reads_examples.groups_are_read_as_in_the_examples.Goals as goal

pub returns-clause-no_text : goal.returns-clause-no_text
returns-clause-no_text c = groups-no_text

pub returns-clause-flags_alone : goal.returns-clause-flags_alone
returns-clause-flags_alone c = groups-flags_alone

pub returns-clause-flags_over_branches : goal.returns-clause-flags_over_branches
returns-clause-flags_over_branches c = groups-flags_over_branches

pub returns-clause-greed_over_branches : goal.returns-clause-greed_over_branches
returns-clause-greed_over_branches c = groups-greed_over_branches

pub returns-clause-names : goal.returns-clause-names
returns-clause-names c = groups-names

pub returns-clause-nested : goal.returns-clause-nested
returns-clause-nested c = groups-nested

pub returns-clause-empty_branches : goal.returns-clause-empty_branches
returns-clause-empty_branches c = groups-empty_branches

pub returns-clause-flags_in_a_row : goal.returns-clause-flags_in_a_row
returns-clause-flags_in_a_row c = groups-flags_in_a_row

pub returns-clause-spaced_group : goal.returns-clause-spaced_group
returns-clause-spaced_group c = groups-spaced_group

pub returns-clause-spaced_parenthesis : goal.returns-clause-spaced_parenthesis
returns-clause-spaced_parenthesis c = groups-spaced_parenthesis
