-- What is read of the escapes of each kind.
use Rattle.std.specs.Prelude.{◌≡◌, ◌<◌, ◌≤◌, ℕ, ◌+◌, ◌*◌, Bool, true, false, List, [], ◌∷◌, ◌++◌, codes, ◌&&◌, not, drop, length, Option, Some, None}
use Rattle.std.specs.Char.{is_digit, digit_value}
use Rattle.pattern_syntax.specs.declared.flags.Flags.{Flags}
use Rattle.pattern_syntax.specs.declared.readings.Member.{Member}
use Rattle.pattern_syntax.specs.Flags.{has, seen, is_nil}
use Rattle.pattern_syntax.specs.Sets.{is_scalar}
use Rattle.pattern_syntax.specs.Atom.{Atom, escaped, control, coded, braced, octal, perl, category, category_braced, write_atom, FineAtom, is_octal_digit}
use Rattle.pattern_syntax.specs.Readers.{EscapeAt}
use Rattle.std.specs.List.{list_all}

-- a `\` stands at the place, and the letter behind it
abbrev pub IsEscapeLetter : List ℕ → ℕ → ℕ → Type 0
IsEscapeLetter text at letter = (at + 2 ≤ length text) × (drop at text ≡ 92 ∷ letter ∷ drop (at + 2) text)

-- each of these characters comes next in turn, behind blanks, and then `t` follows
abbrev pub Spells : Flags → List ℕ → List ℕ → List ℕ → Type 0
Spells k [] w t = w ≡ t
Spells k (c ∷ cs) w t = (v : List ℕ) × (seen k w ≡ c ∷ v) × Spells k cs v t

-- so many characters come next
pub record SpelledAt (k : Flags) (text : List ℕ) (at count : ℕ) (read : List ℕ) (next : ℕ) : Type 0 where
  pub counted : length read ≡ count
  pub within : next ≤ length text
  pub spelled : Spells k read (drop at text) (drop next text)

abbrev pub in_braces : List ℕ → List ℕ
in_braces cs = codes "{" ++ cs ++ codes "}"

-- braces come next, and hold these characters
pub record BracesAt (k : Flags) (text : List ℕ) (at : ℕ) (read : List ℕ) (next : ℕ) : Type 0 where
  pub inner : has 125 read ≡ false
  pub within : next ≤ length text
  pub spelled : Spells k (in_braces read) (drop at text) (drop next text)

-- the number that digits spell, behind `high`
abbrev pub spelled_number : ℕ → List ℕ → ℕ
spelled_number high [] = high
spelled_number high (c ∷ cs) = spelled_number (high * 16 + digit_value c) cs

-- hexadecimal digits, which spell the number of a character
abbrev pub are_code : List ℕ → Bool
are_code cs = not (is_nil cs) && list_all (λ d. is_digit d 16) cs && is_scalar (spelled_number 0 cs)

-- an octal digit of this value stands at the place
pub record OctalDigitAt (text : List ℕ) (at value : ℕ) : Type 0 where
  pub digit : ℕ
  pub octal : is_octal_digit digit ≡ true
  pub small : value < 8
  pub valued : value ≡ digit_value digit
  pub within : at + 1 ≤ length text
  pub here : drop at text ≡ digit ∷ drop (at + 1) text

-- THE KINDS
abbrev pub IsPlain : Atom → Type 0
IsPlain (escaped c) = Unit {0}
IsPlain (control c) = Unit {0}
IsPlain _ = ⊥

abbrev pub IsCoded : Atom → Type 0
IsCoded (coded letter ds) = Unit {0}
IsCoded _ = ⊥

abbrev pub IsBraced : Atom → Type 0
IsBraced (braced letter bs ds cs) = Unit {0}
IsBraced _ = ⊥

abbrev pub IsOctal : Atom → Type 0
IsOctal (octal ds) = Unit {0}
IsOctal _ = ⊥

abbrev pub IsPerl : Atom → Type 0
IsPerl (perl letter) = Unit {0}
IsPerl _ = ⊥

abbrev pub IsCategory : Atom → Type 0
IsCategory (category letter bs c) = Unit {0}
IsCategory _ = ⊥

abbrev pub IsCategoryBraced : Atom → Type 0
IsCategoryBraced (category_braced letter bs ds cs) = Unit {0}
IsCategoryBraced _ = ⊥

-- what is read of the escapes of a kind
abbrev pub IsKindRead : (Atom → Type 0) → Flags → List ℕ → ℕ → Option (Member × ℕ) → Type 0
IsKindRead Kind k text at (Some read) = EscapeAt k text at read.0 read.1
IsKindRead Kind k text at None = (a : Atom) (t : List ℕ) → Kind a → drop at text ≡ write_atom a t → FineAtom k a t → ⊥
