-- Escapes of all kinds.
use Rattle.std.specs.Int.{is_in_range}
use Rattle.std.specs.Prelude.{is_some}
use Rattle.std.proofs.Common.{◌≡◌, ℕ, ◌+◌, Bool, true, false, List, codes, ◌==◌, ◌||◌, not, nat_lt, if◌then◌else◌, Option, Some, None, refl, sym, ap, ◌∙◌, arith}
use Rattle.std.proofs.lemmas.Bool.{and_parts}
use Rattle.regex_class.specs.declared.Class.{Class}
use Rattle.pattern_syntax.specs.declared.flags.Flags.{Flags}
use Rattle.pattern_syntax.specs.declared.readings.Member.TheVariants.{Character, Set}
use Rattle.pattern_syntax.specs.Flags.{has}
use Rattle.pattern_syntax.specs.Sets.{perl_set}
use Rattle.pattern_syntax.specs.Atom.{escaped, control, perl, is_escapable, control_of}
use Rattle.pattern_syntax.specs.Readers.{EscapeAt, IsSet}
use Rattle.pattern_syntax.specs.Escapes.{IsEscapeLetter}

pub escaped_at : (k : Flags) (text : List ℕ) (at letter : ℕ) → IsEscapeLetter text at letter → is_escapable letter ≡ true → EscapeAt k text at (Character letter) (at + 2)
escaped_at k text at letter e h = record {
  atom = escaped letter;
  escapes = tt;
  goes_on = (omega arith, e.0);
  written = e.1;
  fine = h;
  is = (refl, refl, sym (and_parts (nat_lt letter 128) (not (is_in_range 48 57 letter || is_in_range 65 90 letter || is_in_range 97 122 letter || (letter == 60) || (letter == 62))) h).0);
}

is_ascii_of : (o : Option ℕ) → Bool
is_ascii_of None = true
is_ascii_of (Some c) = nat_lt c 128

small_by : (a b c d e f : Bool) → is_ascii_of (if a then Some 7 else if b then Some 12 else if c then Some 9 else if d then Some 10 else if e then Some 13 else if f then Some 11 else None) ≡ true
unfolding is_ascii_of
small_by true b c d e f = refl
small_by false true c d e f = refl
small_by false false true d e f = refl
small_by false false false true e f = refl
small_by false false false false true f = refl
small_by false false false false false true = refl
small_by false false false false false false = refl

small_control : (letter c : ℕ) → control_of letter ≡ Some c → nat_lt c 128 ≡ true
unfolding is_ascii_of
small_control letter c h =
    sym (ap is_ascii_of h) ∙ small_by (letter == 97) (letter == 102) (letter == 116) (letter == 110) (letter == 114) (letter == 118)

pub control_at : (k : Flags) (text : List ℕ) (at letter c : ℕ) → IsEscapeLetter text at letter → control_of letter ≡ Some c → EscapeAt k text at (Character c) (at + 2)
control_at k text at letter c e h = record {
  atom = control letter;
  escapes = tt;
  goes_on = (omega arith, e.0);
  written = e.1;
  fine = ap is_some h;
  is = (h, refl, sym (small_control letter c h));
}

pub perl_at : (k : Flags) (text : List ℕ) (at letter : ℕ) (class : Class) → IsEscapeLetter text at letter → has letter (codes "dswDSW") ≡ true
    → IsSet class (perl_set k letter) → EscapeAt k text at (Set class) (at + 2)
perl_at k text at letter class e h set = record {
  atom = perl letter;
  escapes = tt;
  goes_on = (omega arith, e.0);
  written = e.1;
  fine = h;
  is = (refl, set, refl);
}
