-- What ends a line.
use Rattle.std.specs.Prelude.{ℕ, List, [], ◌∷◌, None, unwrap_or}
use Rattle.std.specs.List.{last_or}
use Rattle.grep_matcher.specs.declared.line_terminator.LineTerminator.{LineTerminator}
use Rattle.grep_matcher.specs.declared.line_terminator.Ending.{Ending}
use Rattle.grep_matcher.specs.declared.line_terminator.Ending.TheVariants.{Byte, Crlf}

-- the bytes of an ending: its byte, or `\r\n`
abbrev pub bytes_of_ending : Ending → List ℕ
bytes_of_ending (Byte byte) = byte ∷ []
bytes_of_ending Crlf = 13 ∷ 10 ∷ []

-- the bytes of the terminator
abbrev pub terminator_bytes : LineTerminator → List ℕ
terminator_bytes terminator = bytes_of_ending terminator.0

-- the last of them
abbrev pub terminator_byte : LineTerminator → ℕ
terminator_byte terminator = unwrap_or (last_or None (terminator_bytes terminator)) 0
