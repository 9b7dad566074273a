-- Sets of bytes.
use Rattle.std.specs.Prelude.{ℕ, ◌/◌, ◌%◌, ◌==◌, Bool, slice_index}
use Rattle.std.specs.Int.{bit_at}
use Rattle.grep_matcher.specs.declared.byte_set.ByteSet.{ByteSet}

-- whether a byte is in the set: whether its bit is set, in the word for it and 63 others
abbrev pub is_in : ByteSet → ℕ → Bool
is_in set byte = bit_at (slice_index set.words (byte / 64)) (byte % 64) == 1
