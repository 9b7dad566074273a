use Rattle.std.proofs.Common.{◌≡◌, ◌≤◌, false, drop}
use Rattle.pattern_syntax.specs.Flags.{is_nil}
use Rattle.pattern_syntax.specs.Escapes.{spelled_number}
use Rattle.pattern_syntax.proofs.codes.CodeLemmas.{all_hex}
use Rattle.pattern_syntax.proofs.codes.character_of.Given as goal

abbrev pub invariant-loop-digit : goal.invariant-loop-digit
invariant-loop-digit l =
    (spelled_number l.number (drop l.digit-index l.digits) ≡ spelled_number 0 l.digits) × (all_hex (drop l.digit-index l.digits) ≡ all_hex l.digits)
    × (l.number ≤ 0x10FFFF) × (is_nil l.digits ≡ false)
