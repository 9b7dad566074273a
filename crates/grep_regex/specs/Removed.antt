-- What is taken out of a set of bytes.
use Rattle.std.specs.Prelude.{◌≡◌, ◌↔◌, ℕ, zero, suc, ◌+◌, ◌/◌, ◌%◌, ◌<◌, IsTrue, List, [], ◌∷◌, ◌++◌, Contains, encode_utf8}
use Rattle.std.specs.Char.{IsScalar}
use Rattle.grep_matcher.specs.ByteSets.{is_in}
use Rattle.grep_matcher.specs.declared.byte_set.ByteSet.{ByteSet}
use Rattle.hir_tree.specs.Ranges.{IsWithin}

-- a set has lost the bytes of a kind, and no others
abbrev pub HasLost : ByteSet → ByteSet → (ℕ → Type 0) → Type 0
HasLost old new Kind = (b : ℕ) → b < 256 → IsTrue (is_in new b) ↔ (IsTrue (is_in old b) × (Kind b → ⊥))

-- the UTF-8 of a character of the range holds the byte
abbrev pub IsInUtf8Of : ℕ × ℕ → ℕ → Type 0
IsInUtf8Of range b = (c : ℕ) × IsScalar c × IsWithin range c × Contains (encode_utf8 c) b

-- the continuation byte that holds the last six bits of a number
abbrev pub continuation_byte : ℕ → ℕ
continuation_byte n = 0x80 + n % 64

-- a continuation byte of a number of the range
abbrev pub IsContinuationOf : ℕ × ℕ → ℕ → Type 0
IsContinuationOf range b = (n : ℕ) × IsWithin range n × (continuation_byte n ≡ b)

-- A number in the form of UTF-8 with so many continuation bytes. The first byte is a prefix and the top bits.
abbrev pub utf8_form : ℕ → ℕ → ℕ → List ℕ
utf8_form prefix zero n = (prefix + n) ∷ []
utf8_form prefix (suc continuations) n = utf8_form prefix continuations (n / 64) ++ continuation_byte n ∷ []

-- the form of a number of the range holds the byte
abbrev pub IsInFormOf : ℕ → ℕ → ℕ × ℕ → ℕ → Type 0
IsInFormOf prefix continuations range b = (n : ℕ) × IsWithin range n × Contains (utf8_form prefix continuations n) b
