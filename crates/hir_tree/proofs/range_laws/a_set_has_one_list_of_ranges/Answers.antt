use Rattle.hir_tree.proofs.range_laws.SameRangesLemmas.{same_bytes, same_chars}
use Rattle.hir_tree.proofs.range_laws.a_set_has_one_list_of_ranges.Goals as goal

pub returns-clause-bytes : goal.returns-clause-bytes
returns-clause-bytes c = same_bytes

pub returns-clause-chars : goal.returns-clause-chars
returns-clause-chars c = same_chars
