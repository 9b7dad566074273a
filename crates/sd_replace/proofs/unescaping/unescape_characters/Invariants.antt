use Rattle.std.proofs.Common.{◌≡◌, ◌-◌, length, drop}
use Rattle.std.specs.String.{string_bytes}
use Rattle.sd_replace.proofs.unescaping.EscapeLemmas.{onto}
use Rattle.sd_replace.specs.Unescaped.{unescaped_characters}
use Rattle.sd_replace.proofs.unescaping.unescape_characters.Given as goal

-- what is written, and what is left unescaped behind it, is what is wanted
abbrev pub invariant-loop-at : goal.invariant-loop-at
invariant-loop-at l = onto (string_bytes l.plain) (unescaped_characters (drop l.at l.characters)) ≡ unescaped_characters l.characters

abbrev pub decreases-loop-at : goal.decreases-loop-at
decreases-loop-at l = length l.characters - l.at
