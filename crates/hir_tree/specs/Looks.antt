-- When looks hold.
use Rattle.std.specs.Prelude.{ℕ, ◌==◌, Bool, false, not, ◌&&◌, ◌||◌, List, length, Option, Some, None}
use Rattle.hir_tree.specs.Sides.{byte_before, byte_after, ascii_sides, unicode_sides, is_edge, is_no_edge, is_word_start, is_word_end, is_half_start, is_half_end}
use Rattle.hir_tree.specs.declared.look.Look.{Look}
use Rattle.hir_tree.specs.declared.look.Look.TheVariants.{Start, End, StartLF, EndLF, StartCRLF, EndCRLF, WordAscii, WordAsciiNegate, WordUnicode, WordUnicodeNegate, WordStartAscii, WordEndAscii, WordStartUnicode, WordEndUnicode, WordStartHalfAscii, WordEndHalfAscii, WordStartHalfUnicode, WordEndHalfUnicode}

-- the side holds this byte
abbrev pub is_byte : ℕ → Option ℕ → Bool
is_byte b None = false
is_byte b (Some other) = other == b

-- `\n` stands there
abbrev pub is_newline : Option ℕ → Bool
is_newline = is_byte 10

-- `\r` stands there
abbrev pub is_return : Option ℕ → Bool
is_return = is_byte 13

-- the look holds at a place of a text
unfoldable pub holds : Look → List ℕ → ℕ → Bool
holds Start text at = at == 0
holds End text at = at == length text
holds StartLF text at = at == 0 || is_newline (byte_before text at)
holds EndLF text at = at == length text || is_newline (byte_after text at)
holds StartCRLF text at =
    at == 0 || is_newline (byte_before text at) || (is_return (byte_before text at) && not (is_newline (byte_after text at)))
holds EndCRLF text at =
    at == length text || is_return (byte_after text at) || (is_newline (byte_after text at) && not (is_return (byte_before text at)))
holds WordAscii text at = is_edge (ascii_sides text at)
holds WordAsciiNegate text at = is_no_edge (ascii_sides text at)
holds WordUnicode text at = is_edge (unicode_sides text at)
holds WordUnicodeNegate text at = is_no_edge (unicode_sides text at)
holds WordStartAscii text at = is_word_start (ascii_sides text at)
holds WordEndAscii text at = is_word_end (ascii_sides text at)
holds WordStartUnicode text at = is_word_start (unicode_sides text at)
holds WordEndUnicode text at = is_word_end (unicode_sides text at)
holds WordStartHalfAscii text at = is_half_start (ascii_sides text at)
holds WordEndHalfAscii text at = is_half_end (ascii_sides text at)
holds WordStartHalfUnicode text at = is_half_start (unicode_sides text at)
holds WordEndHalfUnicode text at = is_half_end (unicode_sides text at)
