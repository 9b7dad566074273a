-- One byte: the matcher of the tests that tells of bytes in no match.
use Rattle.std.specs.Prelude.{◌≡◌, ◌≢◌, ℕ, ◌+◌, ◌<◌, List, length, slice_index, Option, Some, None, nat_lt, ◌==◌, if◌then◌else◌}
use Rattle.std.proofs.Common.{arith}
use Rattle.std.proofs.lemmas.Bool.Decides.{nat_tests}
use Rattle.grep_matcher.specs.Cover.{IsLawful}
use Rattle.grep_matcher.specs.NoMatch.{IsInNoMatch}
use Rattle.matcher_tests.specs.Pairs.{two_tests}

-- the end of the byte at a place where it stands
abbrev pub end_of_byte : List ℕ → ℕ → ℕ → Option ℕ
end_of_byte haystack byte place = if nat_lt place (length haystack) then (if slice_index haystack place == byte then Some (place + 1) else None) else None

pub byte_end : (haystack : List ℕ) (byte place end : ℕ) → end_of_byte haystack byte place ≡ Some end → (place < length haystack) × (slice_index haystack place ≡ byte) × (end ≡ place + 1)
byte_end haystack byte place end h =
    let tests = two_tests (nat_lt place (length haystack)) (slice_index haystack place == byte) (place + 1) end h in
    let inside = tests.0 in let equal = tests.1 in let ends = tests.2 in (grind (arith, nat_tests), grind (arith, nat_tests), ends)

pub byte_lawful : (haystack : List ℕ) (byte : ℕ) → IsLawful (end_of_byte haystack byte) (length haystack)
byte_lawful haystack byte place end l h = let k = byte_end haystack byte place end h in (omega arith, omega arith)

-- no other byte is in a match
pub other_in_no_match : (byte other : ℕ) → other ≢ byte → IsInNoMatch (λ haystack place. end_of_byte haystack byte place) other
other_in_no_match byte other differs haystack place end i le is low high same =
    let k = byte_end haystack byte place end is in
    let ends = k.2 in
    let stands = k.1 in
    let here : i ≡ place = omega arith in
    differs (cc)
