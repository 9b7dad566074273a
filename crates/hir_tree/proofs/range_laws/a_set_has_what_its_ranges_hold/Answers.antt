use Rattle.hir_tree.proofs.laws.MemberLemmas.{member-held}
use Rattle.hir_tree.proofs.range_laws.a_set_has_what_its_ranges_hold.Goals as goal

pub returns : goal.returns
returns c = member-held
