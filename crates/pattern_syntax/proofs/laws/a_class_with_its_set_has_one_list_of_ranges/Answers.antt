use Rattle.pattern_syntax.proofs.RangesLemmas.{one_list_of_chars, one_list_of_bytes}
use Rattle.pattern_syntax.proofs.laws.a_class_with_its_set_has_one_list_of_ranges.Goals as goal

pub returns-clause-chars : goal.returns-clause-chars
returns-clause-chars c = one_list_of_chars c.a_set_has_one_list_of_ranges.ensures.chars

pub returns-clause-bytes : goal.returns-clause-bytes
returns-clause-bytes c = one_list_of_bytes c.a_set_has_one_list_of_ranges.ensures.bytes
