use Rattle.std.proofs.Common.{◌≡◌, drop}
use Rattle.pattern_syntax.specs.Flags.{set_flags}
use Rattle.pattern_syntax.proofs.flag_lists.with_letters.Given as goal

abbrev pub invariant-loop-letter : goal.invariant-loop-letter
invariant-loop-letter l = set_flags l.value (drop l.letter-index l.letters) l.changed ≡ set_flags l.value l.letters l.fn.flags
