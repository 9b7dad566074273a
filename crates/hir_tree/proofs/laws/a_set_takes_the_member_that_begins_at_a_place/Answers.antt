use Rattle.hir_tree.proofs.laws.MemberLemmas.{char_size-some, char_size-none}
use Rattle.hir_tree.proofs.laws.a_set_takes_the_member_that_begins_at_a_place.Goals as goal

pub returns-clause-taken : goal.returns-clause-taken
returns-clause-taken c = char_size-some

pub returns-clause-none : goal.returns-clause-none
returns-clause-none c = char_size-none
