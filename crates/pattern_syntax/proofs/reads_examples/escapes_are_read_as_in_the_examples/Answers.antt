use Rattle.pattern_syntax.proofs.ReadsExamples.{escapes-categories, escapes-spaced_category, escapes-codes_of_characters, escapes-spaced_codes, escapes-controls, escapes-sets, escapes-sets_of_bytes, escapes-octal, escapes-bytes_of_literals}
use Rattle.pattern_syntax.proofs.reads_examples.escapes_are_read_as_in_the_examples.Goals as goal

pub returns-clause-categories : goal.returns-clause-categories
returns-clause-categories c = escapes-categories

pub returns-clause-spaced_category : goal.returns-clause-spaced_category
returns-clause-spaced_category c = escapes-spaced_category

pub returns-clause-codes_of_characters : goal.returns-clause-codes_of_characters
returns-clause-codes_of_characters c = escapes-codes_of_characters

pub returns-clause-spaced_codes : goal.returns-clause-spaced_codes
returns-clause-spaced_codes c = escapes-spaced_codes

pub returns-clause-controls : goal.returns-clause-controls
returns-clause-controls c = escapes-controls

pub returns-clause-sets : goal.returns-clause-sets
returns-clause-sets c = escapes-sets

pub returns-clause-sets_of_bytes : goal.returns-clause-sets_of_bytes
returns-clause-sets_of_bytes c = escapes-sets_of_bytes

pub returns-clause-octal : goal.returns-clause-octal
returns-clause-octal c = escapes-octal

pub returns-clause-bytes_of_literals : goal.returns-clause-bytes_of_literals
returns-clause-bytes_of_literals c = escapes-bytes_of_literals
