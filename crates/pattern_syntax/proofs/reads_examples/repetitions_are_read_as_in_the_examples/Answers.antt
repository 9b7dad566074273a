use Rattle.pattern_syntax.proofs.ReadsExamples.{repetitions-counts, repetitions-swapped_count, repetitions-of_a_repetition, repetitions-spaced, repetitions-brackets_alone}
use Rattle.pattern_syntax.proofs.reads_examples.repetitions_are_read_as_in_the_examples.Goals as goal

pub returns-clause-counts : goal.returns-clause-counts
returns-clause-counts c = repetitions-counts

pub returns-clause-swapped_count : goal.returns-clause-swapped_count
returns-clause-swapped_count c = repetitions-swapped_count

pub returns-clause-of_a_repetition : goal.returns-clause-of_a_repetition
returns-clause-of_a_repetition c = repetitions-of_a_repetition

pub returns-clause-spaced : goal.returns-clause-spaced
returns-clause-spaced c = repetitions-spaced

pub returns-clause-brackets_alone : goal.returns-clause-brackets_alone
returns-clause-brackets_alone c = repetitions-brackets_alone
