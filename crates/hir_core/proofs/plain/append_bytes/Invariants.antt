use Rattle.std.proofs.Common.{◌≡◌, ◌++◌, take}
use Rattle.hir_core.proofs.plain.append_bytes.Given as goal

abbrev pub invariant-loop-i : goal.invariant-loop-i
invariant-loop-i l = l.bytes.items ≡ l.fn.bytes.items ++ take l.i l.literal
