use Rattle.std.proofs.Common.{refl}
use Rattle.hir_core.proofs.stack_search.StackLemmas.{members-none}
use Rattle.hir_core.proofs.stack_search.Alternative.begin_at.Goals as goal

pub returns : goal.returns
returns c = rw (members-none c.new-2.result c.new-2.ensures, c.in_ok-unset.ensures, c.new.ensures.items) refl
