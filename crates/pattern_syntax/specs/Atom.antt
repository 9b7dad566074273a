-- What stands alone, in a class too: a character, or an escape that is no look.
use Rattle.std.specs.Int.{is_in_range}
use Rattle.std.specs.Prelude.{◌≡◌, ℕ, Bool, true, false, List, [], ◌∷◌, ◌++◌, codes, ◌==◌, ◌&&◌, ◌||◌, nat_le, nat_lt, not, length, map, if◌then◌else◌, Option, Some, None, is_some}
use Rattle.std.specs.Char.{is_digit}
use Rattle.std.specs.Str.Parse.{digits_value_after, digits_value}
use Rattle.pattern_syntax.specs.declared.flags.Flags.{Flags}
use Rattle.pattern_syntax.specs.Flags.{Blank, write_blanks, FineBlanks, has, is_nil}
use Rattle.pattern_syntax.specs.Sets.{is_scalar, category_named}
use Rattle.std.specs.List.{list_all}

-- a digit or a letter, and the blanks before it
pub record Digit : Type 0 where
  pub before : List Blank
  pub digit : ℕ

pub data Atom : Type 0 where
  character : ℕ → Atom
  -- `\` and an ASCII character that is no letter, digit, `<` or `>`
  escaped : ℕ → Atom
  -- `\n` and its like, by the letter
  control : ℕ → Atom
  -- `\x` (2), `\u` (4) or `\U` (8) by its letter, and that many digits
  coded : ℕ → List Digit → Atom
  -- the same in braces: the blanks before the brace, the digits, and the blanks behind them
  braced : ℕ → List Blank → List Digit → List Blank → Atom
  -- one to three octal digits
  octal : List ℕ → Atom
  -- `\d`, `\S` and their like, by the letter
  perl : ℕ → Atom
  -- `\p` or `\P` by its letter, and the category, with blanks
  category : ℕ → List Blank → ℕ → Atom
  category_braced : ℕ → List Blank → List Digit → List Blank → Atom

abbrev pub write_digits : List Digit → List ℕ → List ℕ
write_digits [] t = t
write_digits (d ∷ ds) t = write_blanks d.before (d.digit ∷ write_digits ds t)

abbrev pub write_braced : ℕ → List Blank → List Digit → List Blank → List ℕ → List ℕ
write_braced letter before ds behind t = codes "\\" ++ letter ∷ write_blanks before (codes "{" ++ write_digits ds (write_blanks behind (codes "}" ++ t)))

abbrev pub write_atom : Atom → List ℕ → List ℕ
write_atom (character c) t = c ∷ t
write_atom (escaped c) t = codes "\\" ++ c ∷ t
write_atom (control letter) t = codes "\\" ++ letter ∷ t
write_atom (coded letter ds) t = codes "\\" ++ letter ∷ write_digits ds t
write_atom (braced letter before ds behind) t = write_braced letter before ds behind t
write_atom (octal ds) t = codes "\\" ++ ds ++ t
write_atom (perl letter) t = codes "\\" ++ letter ∷ t
write_atom (category letter before c) t = codes "\\" ++ letter ∷ write_blanks before (c ∷ t)
write_atom (category_braced letter before ds behind) t = write_braced letter before ds behind t

abbrev pub is_escapable : ℕ → Bool
is_escapable c = nat_lt c 128 && not (is_in_range 48 57 c || is_in_range 65 90 c || is_in_range 97 122 c || c == 60 || c == 62)

abbrev pub spelt : List Digit → List ℕ
spelt ds = map (λ (d : Digit). d.digit) ds

-- the number that digits spell, after `high`
abbrev pub number : ℕ → ℕ → List Digit → ℕ
number base high ds = digits_value_after base high (spelt ds)

-- what `\a` and its like are
abbrev pub control_of : ℕ → Option ℕ
control_of letter =
    if letter == 97 then Some 7 else if letter == 102 then Some 12 else if letter == 116 then Some 9 else
    if letter == 110 then Some 10 else if letter == 114 then Some 13 else if letter == 118 then Some 11 else None

-- how many digits follow `\x` and its like
abbrev pub coded_length : ℕ → ℕ
coded_length letter = if letter == 120 then 2 else if letter == 117 then 4 else if letter == 85 then 8 else 0

-- the one character, or with `u` off the one byte, that an atom is
abbrev pub single_of : Atom → Option ℕ
single_of (character c) = Some c
single_of (escaped c) = Some c
single_of (control letter) = control_of letter
single_of (coded letter ds) = Some (number 16 0 ds)
single_of (braced letter before ds behind) = Some (number 16 0 ds)
single_of (octal ds) = Some (digits_value 8 ds)
single_of _ = None

abbrev pub are_hex : List Digit → Bool
are_hex ds = list_all (λ d. is_digit d 16) (spelt ds)

abbrev pub is_octal_digit : ℕ → Bool
is_octal_digit = is_in_range 48 55

-- the longest: fewer than three aren't followed by one more
abbrev pub octal_next : List ℕ → Bool
octal_next [] = false
octal_next (c ∷ t) = is_octal_digit c

-- the blanks before each of them
abbrev pub FineSpaced : Flags → List Digit → List ℕ → Type 0
FineSpaced k [] t = Unit {0}
FineSpaced k (d ∷ ds) t = FineBlanks k d.before (d.digit ∷ write_digits ds t) × FineSpaced k ds t

-- the blanks round braces and what they hold
abbrev pub FineBraced : Flags → List Blank → List Digit → List Blank → Type 0
FineBraced k before ds behind =
    FineBlanks k before (codes "{") × FineSpaced k ds (write_blanks behind (codes "}")) × FineBlanks k behind (codes "}")

abbrev pub FineAtom : Flags → Atom → List ℕ → Type 0
FineAtom k (character c) t = Unit {0}
FineAtom k (escaped c) t = is_escapable c ≡ true
FineAtom k (control letter) t = is_some (control_of letter) ≡ true
FineAtom k (coded letter ds) t =
    FineSpaced k ds t × ((not (is_nil ds) && (length ds == coded_length letter) && are_hex ds && is_scalar (number 16 0 ds)) ≡ true)
FineAtom k (braced letter before ds behind) t =
    FineBraced k before ds behind × ((not (is_nil ds) && nat_lt 0 (coded_length letter) && are_hex ds && is_scalar (number 16 0 ds)) ≡ true)
FineAtom k (octal ds) t =
    (k.octal && not (is_nil ds) && nat_le (length ds) 3 && list_all is_octal_digit ds
    && not (nat_lt (length ds) 3 && octal_next t)) ≡ true
FineAtom k (perl letter) t = has letter (codes "dswDSW") ≡ true
FineAtom k (category letter before c) t =
    FineBlanks k before (c ∷ t) × ((k.unicode && has letter (codes "pP") && is_some (category_named (c ∷ []))) ≡ true)
FineAtom k (category_braced letter before ds behind) t =
    FineBraced k before ds behind × ((k.unicode && has letter (codes "pP") && is_some (category_named (spelt ds))) ≡ true)
