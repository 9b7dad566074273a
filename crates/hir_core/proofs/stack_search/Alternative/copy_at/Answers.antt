use Rattle.std.proofs.Common.{refl}
use Rattle.hir_core.proofs.stack_search.StackLemmas.{members-same}
use Rattle.hir_core.proofs.stack_search.Alternative.copy_at.Goals as goal

pub returns : goal.returns
returns c =
    rw (
      c.in_ok-from_slice.ensures.items,
      c.in_ok-from_slice-2.ensures.items,
      c.as_slice.ensures.value,
      c.as_slice-2.ensures.value,
      members-same c.in_ok-copy.field-0 c.args.self.now.seen c.in_ok-copy.ensures,
    ) refl
