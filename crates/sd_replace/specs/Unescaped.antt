-- Escapes of a replacement text.
use Rattle.std.specs.Prelude.{ℕ, zero, suc, ◌&&◌, ◌==◌, nat_le, nat_lt, Bool, List, []}
use Rattle.std.specs.Prelude.{◌∷◌, length, drop, take, Option, Some, None, option_map, option_and_then, encode_utf8_all, if◌then◌else◌}
use Rattle.std.specs.List.{list_all}
use Rattle.std.specs.Char.{is_digit}
use Rattle.std.specs.Map.{lookup}
use Rattle.std.specs.Option.{option_map_or, option_or}
use Rattle.std.specs.Str.{chars}
use Rattle.std.specs.Str.Parse.{digits_value}
use Rattle.sd_replace.specs.declared.unescaping.Escape.{Escape}
use lib.Utf8.{scalar}

-- a character that is read, where there is one, with the number of characters that are read
abbrev pub read_as : ℕ → Option ℕ → Option Escape
read_as width character = option_map (λ c. record { character = c; width = width }) character

-- the letters of `\b`, `\f`, `\n`, `\r`, `\t`, `\'`, `\"` and `\\`, and what they stand for
abbrev pub letters : List (ℕ × ℕ)
letters = (98, 8) ∷ (102, 12) ∷ (110, 10) ∷ (114, 13) ∷ (116, 9) ∷ (39, 39) ∷ (34, 34) ∷ (92, 92) ∷ []

-- the character of a letter
abbrev pub lettered : ℕ → Option ℕ
lettered letter = lookup (λ other. letter == other) letters

-- the number that digits spell in a base, if all are digits in it
abbrev pub number : ℕ → List ℕ → Option ℕ
number base digits = if list_all (λ digit. is_digit digit base) digits then Some (digits_value base digits) else None

-- the character of a number, if it has one
abbrev pub character_of : ℕ → Option ℕ
character_of code = if scalar code then Some code else None

-- the character whose number so many digits in a base spell at the front of a text, where they stand there
abbrev pub spelled : ℕ → ℕ → List ℕ → Option ℕ
spelled base count text = if nat_le count (length text) then option_and_then character_of (number base (take count text)) else None

-- three octal digits that begin with 0 to 3
abbrev pub three_octal : ℕ → List ℕ → Option Escape
three_octal first text = if nat_lt 51 first then None else read_as 3 (spelled 8 3 text)

-- three octal digits that begin with 0 to 3, or else two
abbrev pub octal : ℕ → List ℕ → Option Escape
octal first text = option_or (three_octal first text) (read_as 2 (spelled 8 2 text))

abbrev pub is_octal_digit : ℕ → Bool
is_octal_digit c = nat_le 48 c && nat_le c 55

-- THE TABLE OF ESCAPES: what the characters behind a `\` stand for, by the first of them, and how many they are
abbrev pub escape_of : ℕ → List ℕ → Option Escape
escape_of letter text =
    if letter == 117 then read_as 5 (spelled 16 4 (drop 1 text))
    else (if letter == 120 then read_as 3 (spelled 16 2 (drop 1 text))
    else (if is_octal_digit letter then octal letter text
    else read_as 1 (lettered letter)))

abbrev pub escape_at : List ℕ → Option Escape
escape_at [] = None
escape_at (letter ∷ text) = escape_of letter (letter ∷ text)

-- what the first character of a text stands for, with how many behind it: a `\` is an escape, any other is itself
abbrev pub read_at : ℕ → List ℕ → Option Escape
read_at first text = if first == 92 then escape_at text else Some (record { character = first; width = 0 })

-- how many characters are read behind the first
abbrev pub width_of : Option Escape → ℕ
width_of read = option_map_or (λ (e : Escape). e.width) read 0

abbrev pub character_in : Option Escape → Option ℕ
character_in read = option_map (λ (e : Escape). e.character) read

-- The characters that stand after the first n of a text, read from left to right. An escape that isn't in the table is none.
abbrev pub characters_after : ℕ → List ℕ → List (Option ℕ)
characters_after n [] = []
characters_after (suc n) (first ∷ text) = characters_after n text
characters_after zero (first ∷ text) = character_in (read_at first text) ∷ characters_after (width_of (read_at first text)) text

-- all, where each is there
abbrev pub all_there : List (Option ℕ) → Option (List ℕ)
all_there [] = Some []
all_there (None ∷ rest) = None
all_there (Some first ∷ rest) = option_map (λ others. first ∷ others) (all_there rest)

-- the characters of a text with each escape replaced
abbrev pub characters_of : List ℕ → Option (List ℕ)
characters_of text = all_there (characters_after 0 text)

-- and their bytes
abbrev pub unescaped_characters : List ℕ → Option (List ℕ)
unescaped_characters text = option_map encode_utf8_all (characters_of text)

-- THE UNESCAPED TEXT, by its bytes: none where an escape isn't in the table
abbrev pub unescaped : List ℕ → Option (List ℕ)
unescaped text = unescaped_characters (chars text)
