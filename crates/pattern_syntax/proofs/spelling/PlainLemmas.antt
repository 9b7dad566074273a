-- Digits and letters are nothing that is passed over, and no `}`.
use Rattle.std.specs.Int.{is_in_range}
use Rattle.std.specs.Prelude.{is_some}
use Rattle.std.proofs.Common.{◌≡◌, ◌≢◌, ◌<◌, ℕ, zero, suc, Bool, true, false, List, [], ◌∷◌, ◌==◌, ◌&&◌, not, nat_eq, map, if◌then◌else◌, Some, refl, sym, ap, ◌∙◌, true≢false, eqb-true, arith}
use Rattle.std.specs.Char.{is_digit, to_ascii_lowercase}
use Rattle.std.specs.List.{starts_with, list_all}
use Rattle.std.proofs.lemmas.Bool.{and_parts, and_from}
use Rattle.std.proofs.lemmas.Bool.Decides.{nat_tests}
use Rattle.ucd_props.proofs.Computing.{ucd_props}
use Rattle.ucd_sets.specs.declared.set.Set.{Set as Named}
use Rattle.pattern_syntax.specs.Flags.{has}
use Rattle.pattern_syntax.specs.Sets.{same_text, value_of, category_names, category_named}
use Rattle.pattern_syntax.proofs.BlanksLemmas.{apart}
use Rattle.pattern_syntax.proofs.spelling.BlanksSplit.{or_none}
use Rattle.pattern_syntax.proofs.spelling.SpellingLemmas.{is_clear}

abbrev is_plain : ℕ → Bool
is_plain c = is_clear c && not (c == 125)

abbrev all_below : (ℕ → Bool) → ℕ → Bool
all_below p zero = true
all_below p (suc n) = p n && all_below p n

at_by : (p : ℕ → Bool) (n c : ℕ) (b : Bool) → (c == n) ≡ b → p n ≡ true → (c < n → p c ≡ true) → c < suc n → p c ≡ true
at_by p n c true e here below lt = ap p (eqb-true c n e) ∙ here
at_by p n c false e here below lt =
    let other : c ≢ n = apart c n e in
    let less : c < n = omega arith in below less

at_below : (p : ℕ → Bool) (n c : ℕ) → all_below p n ≡ true → c < n → p c ≡ true
at_below p zero c h lt = absurd (omega arith)
at_below p (suc n) c h lt =
    let parts = and_parts (p n) (all_below p n) h in at_by p n c (c == n) refl parts.0 (λ less. at_below p n c parts.1 less) lt

abbrev plain_if : (ℕ → Bool) → ℕ → Bool
plain_if p c = if p c then is_plain c else true

from_if : (a b : Bool) → (if a then b else true) ≡ true → a ≡ true → b ≡ true
from_if true b h e = h
from_if false b h e = absurd (true≢false (sym e))

abbrev is_hex : ℕ → Bool
is_hex c = is_digit c 16

-- a letter, ASCII case ignored
abbrev is_letter : ℕ → Bool
is_letter c = is_in_range 97 122 (to_ascii_lowercase c)

hexes_plain : all_below (plain_if is_hex) 128 ≡ true
unfolding ucd_props
hexes_plain = refl

letters_plain : all_below (plain_if is_letter) 128 ≡ true
unfolding ucd_props
letters_plain = refl

hex_small : (c : ℕ) → is_digit c 16 ≡ true → c < 128
hex_small c h = grind (arith, nat_tests)

letter_small : (c : ℕ) → is_in_range 97 122 (to_ascii_lowercase c) ≡ true → c < 128
letter_small c h = grind (arith, nat_tests)

hex_plain : (c : ℕ) → is_hex c ≡ true → is_plain c ≡ true
hex_plain c h = from_if (is_hex c) (is_plain c) (at_below (plain_if is_hex) 128 c hexes_plain (hex_small c h)) h

letter_plain : (c : ℕ) → is_letter c ≡ true → is_plain c ≡ true
letter_plain c h = from_if (is_letter c) (is_plain c) (at_below (plain_if is_letter) 128 c letters_plain (letter_small c h)) h

not_true : (b : Bool) → not b ≡ true → b ≡ false
not_true false h = refl
not_true true h = absurd (true≢false (sym h))

-- characters that pass a test which only plain ones pass
module _ (p : ℕ → Bool) (plain : (c : ℕ) → p c ≡ true → is_plain c ≡ true) where
  clear_of : (cs : List ℕ) → list_all p cs ≡ true → list_all is_clear cs ≡ true
  clear_of [] h = refl
  clear_of (c ∷ cs) h =
      let parts = and_parts (p c) (list_all p cs) h in
      and_from (is_clear c) (list_all is_clear cs) (and_parts (is_clear c) (not (c == 125)) (plain c parts.0)).0 (clear_of cs parts.1)

  inner_of : (cs : List ℕ) → list_all p cs ≡ true → has 125 cs ≡ false
  inner_of [] h = refl
  inner_of (c ∷ cs) h =
      let parts = and_parts (p c) (list_all p cs) h in
      or_none (c == 125) (has 125 cs) (not_true (c == 125) (and_parts (is_clear c) (not (c == 125)) (plain c parts.0)).1) (inner_of cs parts.1)

pub hex_clear : (cs : List ℕ) → list_all is_hex cs ≡ true → list_all is_clear cs ≡ true
hex_clear cs h = clear_of is_hex hex_plain cs h

pub hex_inner : (cs : List ℕ) → list_all is_hex cs ≡ true → has 125 cs ≡ false
hex_inner cs h = inner_of is_hex hex_plain cs h

-- ---- the names of categories

abbrev is_lower : ℕ → Bool
is_lower c = is_in_range 97 122 c

starts_all : (b a : List ℕ) → starts_with nat_eq a b ≡ true → list_all is_lower a ≡ true → list_all is_lower b ≡ true
starts_all [] a h every = refl
starts_all (d ∷ b) [] h every = absurd (true≢false (sym h))
starts_all (d ∷ b) (c ∷ a) h every =
    let parts = and_parts (nat_eq d c) (starts_with nat_eq a b) h in
    let those = and_parts (is_lower c) (list_all is_lower a) every in
    and_from (is_lower d) (list_all is_lower b) (ap is_lower (eqb-true d c parts.0) ∙ those.0) (starts_all b a parts.1 those.1)

abbrev all_names : List (List ℕ × Named) → Bool
all_names [] = true
all_names (row ∷ rows) = list_all is_lower row.0 && all_names rows

name_by : (row : List ℕ × Named) (rows : List (List ℕ × Named)) (name : List ℕ) (b : Bool) → same_text row.0 name ≡ b → list_all is_lower row.0 ≡ true
    → (is_some (value_of rows name) ≡ true → list_all is_lower name ≡ true) → is_some (if b then Some row.1 else value_of rows name) ≡ true
    → list_all is_lower name ≡ true
name_by row rows name true e first more h = starts_all name row.0 (and_parts (starts_with nat_eq row.0 name) (starts_with nat_eq name row.0) e).0 first
name_by row rows name false e first more h = more h

name_all : (rows : List (List ℕ × Named)) (name : List ℕ) → all_names rows ≡ true → is_some (value_of rows name) ≡ true → list_all is_lower name ≡ true
name_all [] name every h = absurd (true≢false (sym h))
name_all (row ∷ rows) name every h =
    let parts = and_parts (list_all is_lower row.0) (all_names rows) every in
    name_by row rows name (same_text row.0 name) refl parts.0 (λ some. name_all rows name parts.1 some) h

lowered : (cs : List ℕ) → list_all is_lower (map to_ascii_lowercase cs) ≡ true → list_all is_letter cs ≡ true
lowered [] h = refl
lowered (c ∷ cs) h =
    let parts = and_parts (is_letter c) (list_all is_lower (map to_ascii_lowercase cs)) h in and_from (is_letter c) (list_all is_letter cs) parts.0 (lowered cs parts.1)

named_letters : (cs : List ℕ) → is_some (category_named cs) ≡ true → list_all is_letter cs ≡ true
named_letters cs h = lowered cs (name_all category_names (map to_ascii_lowercase cs) refl h)

pub name_clear : (cs : List ℕ) → is_some (category_named cs) ≡ true → list_all is_clear cs ≡ true
name_clear cs h = clear_of is_letter letter_plain cs (named_letters cs h)

pub name_inner : (cs : List ℕ) → is_some (category_named cs) ≡ true → has 125 cs ≡ false
name_inner cs h = inner_of is_letter letter_plain cs (named_letters cs h)
