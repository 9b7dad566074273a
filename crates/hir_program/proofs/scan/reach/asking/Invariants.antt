use Rattle.std.proofs.Common.{◌≡◌, vec_len}
use Rattle.hir_program.specs.Masks.{AllAsk}
use Rattle.hir_program.proofs.scan.reach.asking.Given as goal

-- the spots so far are marked
abbrev pub invariant-loop-spot : goal.invariant-loop-spot
invariant-loop-spot l = record { room : vec_len l.asking ≡ l.spot-index; ask : AllAsk l.spots l.look l.asking.items }
