use Rattle.pattern_syntax.proofs.ReadsExamples.{ranges-dash_after_a_range, ranges-dash_after_a_set, ranges-escaped_start, ranges-spaced_last_dash, ranges-dash_that_begins_a_range, ranges-comment_in_a_range, ranges-octal_range}
use Rattle.pattern_syntax.proofs.reads_examples.ranges_are_read_as_in_the_examples.Goals as goal

pub returns-clause-dash_after_a_range : goal.returns-clause-dash_after_a_range
returns-clause-dash_after_a_range c = ranges-dash_after_a_range

pub returns-clause-dash_after_a_set : goal.returns-clause-dash_after_a_set
returns-clause-dash_after_a_set c = ranges-dash_after_a_set

pub returns-clause-escaped_start : goal.returns-clause-escaped_start
returns-clause-escaped_start c = ranges-escaped_start

pub returns-clause-spaced_last_dash : goal.returns-clause-spaced_last_dash
returns-clause-spaced_last_dash c = ranges-spaced_last_dash

pub returns-clause-dash_that_begins_a_range : goal.returns-clause-dash_that_begins_a_range
returns-clause-dash_that_begins_a_range c = ranges-dash_that_begins_a_range

pub returns-clause-comment_in_a_range : goal.returns-clause-comment_in_a_range
returns-clause-comment_in_a_range c = ranges-comment_in_a_range

pub returns-clause-octal_range : goal.returns-clause-octal_range
returns-clause-octal_range c = ranges-octal_range
