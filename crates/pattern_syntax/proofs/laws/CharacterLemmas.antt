-- Letters and digits, and lists of characters that a test holds of.
use Rattle.std.specs.Int.{is_in_range}
use Rattle.std.specs.Prelude.{is_some}
use Rattle.std.proofs.Common.{◌≡◌, ℕ, zero, suc, ◌+◌, ◌<◌, ◌≤◌, Bool, true, false, List, [], ◌∷◌, codes, ◌==◌, ◌||◌, ◌&&◌, ◌⊎◌, ⊎_elim, not, nat_le, nat_lt, nat_eq, map, Option, Some, None, if◌then◌else◌, refl, sym, ap, ap₂, ◌∙◌, subst, true≢false, eqb-true, leb-true, arith}
use Rattle.std.proofs.lemmas.Bool.{and_parts, or_cases}
use Rattle.std.proofs.lemmas.Bool.Decides.{nat_tests}
use Rattle.std.specs.List.{starts_with, list_all}
use Rattle.std.specs.Char.{is_digit, to_ascii_lowercase}
use Rattle.ucd_props.proofs.Computing.{ucd_props}
use Rattle.unicode.specs.Binary.{is_white_space}
use Rattle.pattern_syntax.specs.Flags.{has}
use Rattle.pattern_syntax.specs.Sets.{same_text, value_of, category_names, category_named}
use Rattle.pattern_syntax.specs.Atom.{control_of, coded_length}
use Rattle.pattern_syntax.proofs.SameBlanks.{IsClear}

-- a test that all members pass
pub has_all : (p : ℕ → Bool) (cs : List ℕ) (c : ℕ) → list_all p cs ≡ true → has c cs ≡ true → p c ≡ true
has_all p [] c every h = absurd (true≢false (sym h))
has_all p (d ∷ cs) c every h =
    let parts = and_parts (p d) (list_all p cs) every in
    ⊎_elim (λ same. subst (λ z. p z ≡ true) (eqb-true d c same) parts.0) (has_all p cs c parts.1) (or_cases (d == c) (has c cs) h)

-- the numbers from one on, so many, pass a test
abbrev all_from : (ℕ → Bool) → ℕ → ℕ → Bool
all_from p low zero = true
all_from p low (suc n) = p low && all_from p (low + 1) n

from_low : (c low n : ℕ) → low ≤ c → c < low + suc n → (low ≡ c) ⊎ ((low + 1 ≤ c) × (c < low + 1 + n))
from_low c low n above below = grind (arith)

in_span : (p : ℕ → Bool) (c low n : ℕ) → low ≤ c → c < low + n → all_from p low n ≡ true → p c ≡ true
in_span p c low zero above below every = absurd (omega arith)
in_span p c low (suc n) above below every =
    let parts = and_parts (p low) (all_from p (low + 1) n) every in
    ⊎_elim (λ same. subst (λ z. p z ≡ true) same parts.0) (λ more. in_span p c (low + 1) n more.0 more.1 parts.1) (from_low c low n above below)

-- an ASCII letter or digit
abbrev pub is_solid : ℕ → Bool
is_solid c = is_in_range 48 57 c || is_in_range 65 90 c || is_in_range 97 122 c

abbrev is_clear : ℕ → Bool
is_clear c = not (is_white_space c) && not (c == 35)

digits_clear : all_from is_clear 48 10 ≡ true
unfolding ucd_props
digits_clear = refl

upper_clear : all_from is_clear 65 26 ≡ true
unfolding ucd_props
upper_clear = refl

lower_clear : all_from is_clear 97 26 ≡ true
unfolding ucd_props
lower_clear = refl

is_within : (low high c : ℕ) → is_in_range low high c ≡ true → (low ≤ c) × (c ≤ high)
is_within low high c h = let parts = and_parts (nat_le low c) (nat_le c high) h in (leb-true low c parts.0, leb-true c high parts.1)

within_clear : (c low high n : ℕ) → all_from is_clear low n ≡ true → low + n ≡ high + 1 → is_in_range low high c ≡ true → is_clear c ≡ true
within_clear c low high n every e h = let w = is_within low high c h in in_span is_clear c low n w.0 (omega (w.1, e, arith)) every

solid_is_clear : (c : ℕ) → is_solid c ≡ true → is_clear c ≡ true
solid_is_clear c h =
    ⊎_elim
    (λ more. ⊎_elim (within_clear c 48 57 10 digits_clear refl) (within_clear c 65 90 26 upper_clear refl) (or_cases (is_in_range 48 57 c) (is_in_range 65 90 c) more))
    (within_clear c 97 122 26 lower_clear refl)
    (or_cases (is_in_range 48 57 c || is_in_range 65 90 c) (is_in_range 97 122 c) h)

no_not : (b : Bool) → not b ≡ true → b ≡ false
no_not true h = sym h
no_not false h = refl

-- no blank begins with it
pub solid_clear : (c : ℕ) (t : List ℕ) → is_solid c ≡ true → IsClear (c ∷ t)
solid_clear c t h =
    let parts = and_parts (not (is_white_space c)) (not (c == 35)) (solid_is_clear c h) in (no_not (is_white_space c) parts.0, no_not (c == 35) parts.1)

pub solid_apart : (c d : ℕ) → is_solid c ≡ true → is_solid d ≡ false → c ≡ d → ⊥
solid_apart c d h none e = true≢false (sym h ∙ ap is_solid e ∙ none)

pub hex_solid : (c : ℕ) → is_digit c 16 ≡ true → is_solid c ≡ true
hex_solid c h = grind (arith, nat_tests)

-- ---- the letters of escapes

-- an answer by a chain of tests, of which one is this: the character is of the list, or the rest of the chain tells
pick_by : {A : Type 0} (p : A → Bool) (c d : ℕ) (cs : List ℕ) (x y : A) (b : Bool) → (c == d) ≡ b → has d cs ≡ true → (p y ≡ true → has c cs ≡ true)
    → p (if b then x else y) ≡ true → has c cs ≡ true
pick_by p c d cs x y true e h more f = subst (λ z. has z cs ≡ true) (sym (eqb-true c d e)) h
pick_by p c d cs x y false e h more f = more f

pick : {A : Type 0} (p : A → Bool) (c d : ℕ) (cs : List ℕ) (x y : A) → has d cs ≡ true → (p y ≡ true → has c cs ≡ true)
    → p (if c == d then x else y) ≡ true → has c cs ≡ true
pick p c d cs x y h more f = pick_by p c d cs x y (c == d) refl h more f

abbrev pub control_letters : List ℕ
control_letters = codes "aftnrv"

abbrev pub code_letters : List ℕ
code_letters = codes "xuU"

pub control_letter : (c : ℕ) → is_some (control_of c) ≡ true → has c control_letters ≡ true
control_letter c h =
    let cs = control_letters in
    pick is_some c 97 cs (Some 7) _ refl
    (pick is_some c 102 cs (Some 12) _ refl
    (pick is_some c 116 cs (Some 9) _ refl
    (pick is_some c 110 cs (Some 10) _ refl
    (pick is_some c 114 cs (Some 13) _ refl
    (pick is_some c 118 cs (Some 11) None refl (λ f. absurd (true≢false (sym f)))))))) h

pub code_letter : (c : ℕ) → nat_lt 0 (coded_length c) ≡ true → has c code_letters ≡ true
code_letter c h =
    let cs = code_letters in
    pick (nat_lt 0) c 120 cs 2 _ refl (pick (nat_lt 0) c 117 cs 4 _ refl (pick (nat_lt 0) c 85 cs 8 0 refl (λ f. absurd (true≢false (sym f))))) h

-- ---- names of categories

same_by : (xs ys : List ℕ) → starts_with nat_eq xs ys ≡ true → starts_with nat_eq ys xs ≡ true → xs ≡ ys
same_by [] [] h g = refl
same_by [] (y ∷ ys) h g = absurd (true≢false (sym h))
same_by (x ∷ xs) [] h g = absurd (true≢false (sym g))
same_by (x ∷ xs) (y ∷ ys) h g =
    let left = and_parts (nat_eq y x) (starts_with nat_eq xs ys) h in
    let right = and_parts (nat_eq x y) (starts_with nat_eq ys xs) g in
    ap (λ c. c ∷ xs) (eqb-true x y right.0) ∙ ap (λ cs. y ∷ cs) (same_by xs ys left.1 right.1)

pub same_text_is : (xs ys : List ℕ) → same_text xs ys ≡ true → xs ≡ ys
same_text_is xs ys h = let parts = and_parts (starts_with nat_eq xs ys) (starts_with nat_eq ys xs) h in same_by xs ys parts.0 parts.1

-- each name of the rows passes the test
abbrev names_pass : {A : Type 0} → (List ℕ → Bool) → List (List ℕ × A) → Bool
names_pass p [] = true
names_pass p (row ∷ rows) = p row.0 && names_pass p rows

found_by : {A : Type 0} (p : List ℕ → Bool) (name : List ℕ) (row : List ℕ) (value : A) (more : Option A) (b : Bool) → same_text row name ≡ b
    → p row ≡ true → (is_some more ≡ true → p name ≡ true) → is_some (if b then Some value else more) ≡ true → p name ≡ true
found_by p name row value more true e h g f = subst (λ n. p n ≡ true) (same_text_is row name e) h
found_by p name row value more false e h g f = g f

-- so does one that has a value
pub found_passes : {A : Type 0} (p : List ℕ → Bool) (rows : List (List ℕ × A)) (name : List ℕ) → names_pass p rows ≡ true
    → is_some (value_of rows name) ≡ true → p name ≡ true
found_passes p [] name every f = absurd (true≢false (sym f))
found_passes p (row ∷ rows) name every f =
    let parts = and_parts (p row.0) (names_pass p rows) every in
    found_by p name row.0 row.1 (value_of rows name) (same_text row.0 name) refl parts.0 (found_passes p rows name parts.1) f

lower_solid_by : (c : ℕ) → is_in_range 97 122 (to_ascii_lowercase c) ≡ true → is_solid c ≡ true
lower_solid_by c h = grind (arith, nat_tests)

lower_solid : (cs : List ℕ) → list_all (is_in_range 97 122) (map to_ascii_lowercase cs) ≡ true → list_all is_solid cs ≡ true
lower_solid [] h = refl
lower_solid (c ∷ cs) h =
    let parts = and_parts (is_in_range 97 122 (to_ascii_lowercase c)) (list_all (is_in_range 97 122) (map to_ascii_lowercase cs)) h in
    ap₂ ◌&&◌ (lower_solid_by c parts.0) (lower_solid cs parts.1)

-- a category's name is of letters
pub category_solid : (name : List ℕ) → is_some (category_named name) ≡ true → list_all is_solid name ≡ true
category_solid name h = lower_solid name (found_passes (list_all (is_in_range 97 122)) category_names (map to_ascii_lowercase name) refl h)
