-- What stands before and after a place of a text.
use Rattle.std.specs.Prelude.{ℕ, ◌-◌, ◌==◌, nat_le, Bool, true, false, not, ◌&&◌, ◌||◌, List, length, drop, slice_get, Option, Some, None, if◌then◌else◌}
use Rattle.std.specs.Option.{option_or}
use Rattle.bstr.specs.Utf8.{Decoded, decoded}
use Rattle.unicode.specs.Perl.{is_word_byte, is_word_char}
use Rattle.hir_tree.specs.declared.side.Side.{Side}
use Rattle.hir_tree.specs.declared.side.Side.TheVariants.{Word, Other, Broken}
use Rattle.hir_tree.specs.declared.side.Sides.{Sides}

-- the byte before a place; none at the start of the text
abbrev pub byte_before : List ℕ → ℕ → Option ℕ
byte_before text at = if at == 0 then None else slice_get text (at - 1)

-- the byte after a place; none at the end of the text
abbrev pub byte_after : List ℕ → ℕ → Option ℕ
byte_after text at = slice_get text at

-- what an ASCII look sees of a byte, and at an end of the text
abbrev pub ascii_side : Option ℕ → Side
ascii_side None = Other
ascii_side (Some b) = if is_word_byte b then Word else Other

-- what the ASCII word looks see on both sides of a place
unfoldable pub ascii_sides : List ℕ → ℕ → Sides
ascii_sides text at = record { before = ascii_side (byte_before text at); after = ascii_side (byte_after text at) }

-- the character whose UTF-8 begins at a place
abbrev pub char_after : List ℕ → ℕ → Option ℕ
char_after text at = (decoded (drop at text)).char

-- the character, if it takes so many bytes
abbrev pub char_of_length : ℕ → Decoded → Option ℕ
char_of_length bytes front = if front.size == bytes then front.char else None

-- the character of so many bytes whose UTF-8 ends at a place
abbrev pub char_of_length_before : ℕ → List ℕ → ℕ → Option ℕ
char_of_length_before bytes text at =
    if nat_le bytes at then char_of_length bytes (decoded (drop (at - bytes) text)) else None

-- the character whose UTF-8 ends at a place
unfoldable pub char_before : List ℕ → ℕ → Option ℕ
char_before text at =
    option_or (char_of_length_before 1 text at)
    (option_or (char_of_length_before 2 text at)
    (option_or (char_of_length_before 3 text at) (char_of_length_before 4 text at)))

-- what a Unicode look sees of the whole character on a side, and where there is none
abbrev pub unicode_side : Option ℕ → Side
unicode_side None = Broken
unicode_side (Some c) = if is_word_char c then Word else Other

-- what a Unicode look sees before a place
abbrev pub unicode_before : List ℕ → ℕ → Side
unicode_before text at = if at == 0 then Other else unicode_side (char_before text at)

-- what a Unicode look sees after a place
abbrev pub unicode_after : List ℕ → ℕ → Side
unicode_after text at = if at == length text then Other else unicode_side (char_after text at)

-- what the Unicode word looks see on both sides of a place
unfoldable pub unicode_sides : List ℕ → ℕ → Sides
unicode_sides text at = record { before = unicode_before text at; after = unicode_after text at }

-- the side is a word character
abbrev pub is_word : Side → Bool
is_word Word = true
is_word Other = false
is_word Broken = false

-- the side is no word character, and isn't broken
abbrev pub is_other : Side → Bool
is_other Word = false
is_other Other = true
is_other Broken = false

-- a word character stands after the place, and none before it
abbrev pub is_word_start : Sides → Bool
is_word_start sides = not (is_word sides.before) && is_word sides.after

-- a word character stands before the place, and none after it
abbrev pub is_word_end : Sides → Bool
is_word_end sides = is_word sides.before && not (is_word sides.after)

-- exactly one side is a word character
abbrev pub is_edge : Sides → Bool
is_edge sides = is_word_start sides || is_word_end sides

-- both sides are word characters, or neither is, and no side is broken
abbrev pub is_no_edge : Sides → Bool
is_no_edge sides = (is_word sides.before && is_word sides.after) || (is_other sides.before && is_other sides.after)

-- no word character stands before the place, and that side isn't broken
abbrev pub is_half_start : Sides → Bool
is_half_start sides = is_other sides.before

-- no word character stands after the place, and that side isn't broken
abbrev pub is_half_end : Sides → Bool
is_half_end sides = is_other sides.after
