use Rattle.pattern_syntax.proofs.ReadsExamples.{operations-difference, operations-bracket_before_difference, operations-nothing_on_the_left, operations-nothing_on_the_right, operations-and_as_a_member, operations-all_in_a_row, operations-difference_after_a_range, operations-nested}
use Rattle.pattern_syntax.proofs.reads_examples.operations_are_read_as_in_the_examples.Goals as goal

pub returns-clause-difference : goal.returns-clause-difference
returns-clause-difference c = operations-difference

pub returns-clause-bracket_before_difference : goal.returns-clause-bracket_before_difference
returns-clause-bracket_before_difference c = operations-bracket_before_difference

pub returns-clause-nothing_on_the_left : goal.returns-clause-nothing_on_the_left
returns-clause-nothing_on_the_left c = operations-nothing_on_the_left

pub returns-clause-nothing_on_the_right : goal.returns-clause-nothing_on_the_right
returns-clause-nothing_on_the_right c = operations-nothing_on_the_right

pub returns-clause-and_as_a_member : goal.returns-clause-and_as_a_member
returns-clause-and_as_a_member c = operations-and_as_a_member

pub returns-clause-all_in_a_row : goal.returns-clause-all_in_a_row
returns-clause-all_in_a_row c = operations-all_in_a_row

pub returns-clause-difference_after_a_range : goal.returns-clause-difference_after_a_range
returns-clause-difference_after_a_range c = operations-difference_after_a_range

pub returns-clause-nested : goal.returns-clause-nested
returns-clause-nested c = operations-nested
