use Rattle.pattern_syntax.proofs.ReadsExamples.{members-bracket_before_dash, members-first_dash, members-last_dash, members-negated_bracket, members-two_first_dashes, members-name, members-negated_name, members-no_such_name, members-name_without_class, members-later_caret, members-spaced_caret, members-spaced_first_dash, members-spaced_first_bracket, members-byte, members-all_but_a_byte}
use Rattle.pattern_syntax.proofs.reads_examples.members_are_read_as_in_the_examples.Goals as goal

pub returns-clause-bracket_before_dash : goal.returns-clause-bracket_before_dash
returns-clause-bracket_before_dash c = members-bracket_before_dash

pub returns-clause-first_dash : goal.returns-clause-first_dash
returns-clause-first_dash c = members-first_dash

pub returns-clause-last_dash : goal.returns-clause-last_dash
returns-clause-last_dash c = members-last_dash

pub returns-clause-negated_bracket : goal.returns-clause-negated_bracket
returns-clause-negated_bracket c = members-negated_bracket

pub returns-clause-two_first_dashes : goal.returns-clause-two_first_dashes
returns-clause-two_first_dashes c = members-two_first_dashes

pub returns-clause-name : goal.returns-clause-name
returns-clause-name c = members-name

pub returns-clause-negated_name : goal.returns-clause-negated_name
returns-clause-negated_name c = members-negated_name

pub returns-clause-no_such_name : goal.returns-clause-no_such_name
returns-clause-no_such_name c = members-no_such_name

pub returns-clause-name_without_class : goal.returns-clause-name_without_class
returns-clause-name_without_class c = members-name_without_class

pub returns-clause-later_caret : goal.returns-clause-later_caret
returns-clause-later_caret c = members-later_caret

pub returns-clause-spaced_caret : goal.returns-clause-spaced_caret
returns-clause-spaced_caret c = members-spaced_caret

pub returns-clause-spaced_first_dash : goal.returns-clause-spaced_first_dash
returns-clause-spaced_first_dash c = members-spaced_first_dash

pub returns-clause-spaced_first_bracket : goal.returns-clause-spaced_first_bracket
returns-clause-spaced_first_bracket c = members-spaced_first_bracket

pub returns-clause-byte : goal.returns-clause-byte
returns-clause-byte c = members-byte

pub returns-clause-all_but_a_byte : goal.returns-clause-all_but_a_byte
returns-clause-all_but_a_byte c = members-all_but_a_byte
