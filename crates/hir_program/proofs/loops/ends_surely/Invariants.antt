use Rattle.hir_program.specs.Loops.{EndsSurely}
use Rattle.hir_program.proofs.loops.ends_surely.Given as goal

-- a match ends at the first spot, if it does at this one
abbrev pub invariant-loop : goal.invariant-loop
invariant-loop l = EndsSurely l.spots l.place → EndsSurely l.spots l.from
