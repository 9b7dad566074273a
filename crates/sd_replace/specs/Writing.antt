-- New bytes that are being made.
use Rattle.std.specs.Prelude.{◌≡◌, ◌+◌, ℕ, List, [], ◌++◌, length}
use Rattle.grep_matcher.specs.Replaced.{replaced_from}
use Rattle.grep_matcher.specs.Span.{Span}
use Rattle.sd_replace.specs.Replacement.{Replacement, within_after, replaced_of, text_at}
use Rattle.sd_replace.specs.declared.changing.Made.{Made}

-- Of the spans so far those within the limit have given way to their texts, and are counted: whatever spans are to come, the rest of the
-- bytes, from a place on, follows what is made.
pub record HasWritten (replacement : Replacement) (bytes : List ℕ) (done : List Span) (made : List ℕ) (copied count : ℕ) : Type 0 where
  pub bytes_are : (rest : List Span) → replaced_from (text_at replacement bytes) bytes 0 (replaced_of replacement bytes (done ++ rest))
      ≡ made ++ replaced_from (text_at replacement bytes) bytes copied (within_after replacement.counted replacement.limit bytes done rest)
  pub count_is : (rest : List Span) → length (replaced_of replacement bytes (done ++ rest))
      ≡ count + length (within_after replacement.counted replacement.limit bytes done rest)

-- nothing is made yet
pub record IsNothing (made : Made) : Type 0 where
  pub bytes : made.new_bytes.items ≡ []
  pub copied : made.copied ≡ 0
  pub count : made.count ≡ 0
