use Rattle.pattern_syntax.proofs.ReadsExamples.{folding-characters, folding-before_negation, folding-sides, folding-nested_before_negation, folding-byte_class, folding-bytes, folding-category_before_negation, folding-category_in_a_class}
use Rattle.pattern_syntax.proofs.reads_examples.folding_is_read_as_in_the_examples.Goals as goal

pub returns-clause-characters : goal.returns-clause-characters
returns-clause-characters c = folding-characters

pub returns-clause-before_negation : goal.returns-clause-before_negation
returns-clause-before_negation c = folding-before_negation

pub returns-clause-sides : goal.returns-clause-sides
returns-clause-sides c = folding-sides

pub returns-clause-nested_before_negation : goal.returns-clause-nested_before_negation
returns-clause-nested_before_negation c = folding-nested_before_negation

pub returns-clause-byte_class : goal.returns-clause-byte_class
returns-clause-byte_class c = folding-byte_class

pub returns-clause-bytes : goal.returns-clause-bytes
returns-clause-bytes c = folding-bytes

pub returns-clause-category_before_negation : goal.returns-clause-category_before_negation
returns-clause-category_before_negation c = folding-category_before_negation

pub returns-clause-category_in_a_class : goal.returns-clause-category_in_a_class
returns-clause-category_in_a_class c = folding-category_in_a_class
