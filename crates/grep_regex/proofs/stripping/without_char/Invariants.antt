use Rattle.std.proofs.Common.{take}
use Rattle.std.specs.Char.{IsScalar}
use Rattle.hir_tree.specs.Ranges.{AreCharRanges}
use Rattle.grep_regex.proofs.stripping.BesideLemmas.{AreWithout}
use Rattle.grep_regex.proofs.stripping.without_char.Given as goal

abbrev pub invariant-loop-i : goal.invariant-loop-i
invariant-loop-i l = record { apart : AreCharRanges l.rest; holds : AreWithout IsScalar l.byte (take l.i l.set) l.rest }
