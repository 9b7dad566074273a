use Rattle.std.proofs.Common.{refl}
use Rattle.hir_core.proofs.stack_search.StackLemmas.{members-none}
use Rattle.hir_core.proofs.stack_search.Alternative.take.Goals as goal

pub returns : goal.returns
returns c = rw (members-none c.clear.new.self c.clear.ensures) refl
