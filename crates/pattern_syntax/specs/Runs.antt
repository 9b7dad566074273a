-- Runs of characters of one kind.
use Rattle.std.specs.Char.{is_ascii_digit}
use Rattle.std.specs.Prelude.{ℕ, Bool, false, List, [], ◌∷◌, codes, if◌then◌else◌}
use Rattle.unicode.specs.Binary.{is_white_space}
use Rattle.pattern_syntax.specs.declared.runs.CharKind.{CharKind}
use Rattle.pattern_syntax.specs.declared.runs.CharKind.TheVariants as kind
use Rattle.pattern_syntax.specs.Flags.{has}
use Rattle.pattern_syntax.specs.Sets.{is_ascii_word}

-- a letter of a flag
abbrev pub is_flag : ℕ → Bool
is_flag c = has c (codes "imsRUux")

abbrev pub takes : CharKind → ℕ → Bool
takes kind.Digit = is_ascii_digit
takes kind.Flag = is_flag
takes kind.White = is_white_space
takes kind.Word = is_ascii_word

-- what is left of a text behind all that come first and pass
abbrev pub behind : (ℕ → Bool) → List ℕ → List ℕ
behind p [] = []
behind p (c ∷ t) = if p c then behind p t else c ∷ t

-- one that passes comes next
abbrev pub comes : (ℕ → Bool) → List ℕ → Bool
comes p [] = false
comes p (c ∷ t) = p c
