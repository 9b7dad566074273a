-- Where the places of a glob stand, symbol by symbol.
use Rattle.std.specs.Prelude.{◌==◌, ◌||◌, ◌&&◌, ◌+◌, ◌-◌, ℕ, Bool, true, false, not, Option, Some, None, ltb, if◌then◌else◌}
use Rattle.glob_match.specs.declared.piece.Symbol.{Symbol}
use Rattle.glob_match.specs.declared.validity.Spot.{Spot}
use Rattle.glob_match.specs.declared.validity.Spot.TheVariants.{Text, ClassStart, ClassFirst, ClassRest}
use Rattle.glob_match.specs.declared.validity.Reader.{Reader}
use Rattle.glob_match.specs.declared.validity.Cursor.{Cursor}
use Rattle.glob_match.specs.declared.piece.Symbol.TheVariants.{Plain, Escaped}
use Rattle.glob_match.specs.Reading.{is_sign, escape}

abbrev pub at : Spot → ℕ → Reader
at spot depth = record { spot = spot; depth = depth }

-- a symbol outside classes: `[` begins a class, `{` and `}` open and close a brace, and an eleventh is none
abbrev pub in_text : ℕ → Symbol → Option Reader
in_text depth s =
    if is_sign 91 s then Some (at ClassStart depth) else
    if is_sign 123 s then (if ltb depth 10 then Some (at Text (depth + 1)) else None) else
    if is_sign 125 s then Some (at Text (depth - 1)) else
    Some (at Text depth)

-- a symbol at a spot
abbrev pub after_at : Spot → ℕ → Symbol → Option Reader
after_at Text depth s = in_text depth s
after_at ClassStart depth s = if is_sign 94 s || is_sign 33 s then Some (at ClassFirst depth) else Some (at ClassRest depth)
after_at ClassFirst depth s = Some (at ClassRest depth)
after_at ClassRest depth s = if is_sign 93 s then Some (at Text depth) else Some (at ClassRest depth)

abbrev pub after_symbol : Reader → Symbol → Option Reader
after_symbol reader s = after_at reader.spot reader.depth s

-- a glob may end here: each class and brace is closed
abbrev pub ends_at : Spot → ℕ → Bool
ends_at Text depth = depth == 0
ends_at ClassStart depth = false
ends_at ClassFirst depth = false
ends_at ClassRest depth = false

abbrev pub is_end : Reader → Bool
is_end reader = ends_at reader.spot reader.depth

abbrev pub no_longer_escaped : Option Reader → Option Cursor
no_longer_escaped None = None
no_longer_escaped (Some reader) = Some (record { reader = reader; escaped = false })

-- a character after a backslash or not
abbrev pub after_character_at : Reader → Bool → ℕ → Option Cursor
after_character_at reader true c = no_longer_escaped (after_symbol reader (Escaped (escape c)))
after_character_at reader false c = if c == 92 then Some (record { reader = reader; escaped = true }) else no_longer_escaped (after_symbol reader (Plain c))

abbrev pub after_character : Cursor → ℕ → Option Cursor
after_character cursor c = after_character_at cursor.reader cursor.escaped c

-- no backslash is last, and each class and brace is closed
abbrev pub may_end : Cursor → Bool
may_end cursor = not cursor.escaped && is_end cursor.reader
