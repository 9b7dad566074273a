-- Escapes that are written at one place are one.
use Rattle.std.specs.Prelude.{is_some}
use Rattle.std.proofs.Common.{◌≡◌, ℕ, zero, suc, Bool, true, false, List, [], ◌∷◌, ◌++◌, codes, ◌==◌, ◌&&◌, ◌⊎◌, inl, inr, ⊎_elim, not, nat_le, nat_lt, length, refl, sym, ap, ap₂, ◌∙◌, subst, true≢false, eqb-true, arith}
use Rattle.std.proofs.lemmas.Bool.{and_parts}
use Rattle.std.proofs.lemmas.Bool.Decides.{nat_tests}
use Rattle.std.specs.Char.{is_digit}
use Rattle.ucd_props.proofs.Computing.{ucd_props}
use Rattle.pattern_syntax.specs.declared.flags.Flags.{Flags}
use Rattle.pattern_syntax.specs.Flags.{Blank, white, comment, write_blanks, FineBlanks, has, is_nil}
use Rattle.pattern_syntax.specs.Sets.{is_scalar, category_named}
use Rattle.pattern_syntax.specs.Atom.{Digit, Atom, character, escaped, control, coded, braced, octal, perl, category, category_braced, write_digits, write_atom, is_escapable, is_octal_digit, octal_next, are_hex, spelt, number, control_of, coded_length, FineSpaced, FineBraced, FineAtom}
use Rattle.pattern_syntax.specs.Readers.{IsEscape}
use Rattle.pattern_syntax.proofs.BlanksLemmas.{apart}
use Rattle.pattern_syntax.proofs.SameBlanks.{head, tail, IsClear, same_blanks}
use Rattle.pattern_syntax.proofs.laws.CharacterLemmas.{has_all, is_solid, solid_clear, solid_apart, hex_solid, control_letters, code_letters, control_letter, code_letter, category_solid}
use Rattle.std.specs.List.{list_all}

-- ---- digits with blanks before them

abbrev digit_of : List Blank → ℕ → Digit
digit_of bs c = record { before = bs; digit = c }

one_digit : (k : Flags) (d e : Digit) (s t : List ℕ) → FineBlanks k d.before (d.digit ∷ s) → FineBlanks k e.before (e.digit ∷ t)
    → is_solid d.digit ≡ true → is_solid e.digit ≡ true → write_blanks d.before (d.digit ∷ s) ≡ write_blanks e.before (e.digit ∷ t) → (d ≡ e) × (s ≡ t)
one_digit k d e s t f g x y h =
    let same = same_blanks k d.before e.before (d.digit ∷ s) (e.digit ∷ t) f g (solid_clear d.digit s x) (solid_clear e.digit t y) h in
    (ap (λ bs. digit_of bs d.digit) same.0 ∙ ap (λ c. digit_of e.before c) (ap head same.1), ap tail same.1)

-- as many on both sides
pub as_many_digits : (k : Flags) (ds es : List Digit) (s t : List ℕ) → FineSpaced k ds s → FineSpaced k es t → list_all is_solid (spelt ds) ≡ true
    → list_all is_solid (spelt es) ≡ true → length ds ≡ length es → write_digits ds s ≡ write_digits es t → (ds ≡ es) × (s ≡ t)
as_many_digits k [] [] s t f g x y n h = (refl, h)
as_many_digits k [] (e ∷ es) s t f g x y n h = absurd (omega (n, arith))
as_many_digits k (d ∷ ds) [] s t f g x y n h = absurd (omega (n, arith))
as_many_digits k (d ∷ ds) (e ∷ es) s t f g x y n h =
    let left = and_parts (is_solid d.digit) (list_all is_solid (spelt ds)) x in
    let right = and_parts (is_solid e.digit) (list_all is_solid (spelt es)) y in
    let first = one_digit k d e (write_digits ds s) (write_digits es t) f.0 g.0 left.0 right.0 h in
    let more = as_many_digits k ds es s t f.1 g.1 left.1 right.1 (omega (n, arith)) first.1 in
    (ap (λ d. d ∷ ds) first.0 ∙ ap (λ ds. e ∷ ds) more.0, more.1)

brace_clear : (t : List ℕ) → IsClear (125 ∷ t)
unfolding ucd_props
brace_clear t = (refl, refl)

pub opening_clear : (t : List ℕ) → IsClear (123 ∷ t)
unfolding ucd_props
opening_clear t = (refl, refl)

-- no digit stands where the braces end
no_end : (k : Flags) (bs : List Blank) (e : Digit) (s t : List ℕ) → FineBlanks k bs (125 ∷ s) → FineBlanks k e.before (e.digit ∷ t) → is_solid e.digit ≡ true
    → write_blanks bs (125 ∷ s) ≡ write_blanks e.before (e.digit ∷ t) → ⊥
no_end k bs e s t f g y h =
    solid_apart e.digit 125 y refl (sym (ap head (same_blanks k bs e.before (125 ∷ s) (e.digit ∷ t) f g (brace_clear s) (solid_clear e.digit t y) h).1))

-- up to the end of the braces
pub to_the_brace : (k : Flags) (ds es : List Digit) (bs cs : List Blank) (s t : List ℕ) → FineSpaced k ds (write_blanks bs (125 ∷ s)) → FineSpaced k es (write_blanks cs (125 ∷ t))
    → FineBlanks k bs (125 ∷ s) → FineBlanks k cs (125 ∷ t) → list_all is_solid (spelt ds) ≡ true → list_all is_solid (spelt es) ≡ true
    → write_digits ds (write_blanks bs (125 ∷ s)) ≡ write_digits es (write_blanks cs (125 ∷ t)) → (ds ≡ es) × (bs ≡ cs) × (s ≡ t)
to_the_brace k [] [] bs cs s t f g a b x y h =
    let same = same_blanks k bs cs (125 ∷ s) (125 ∷ t) a b (brace_clear s) (brace_clear t) h in (refl, same.0, ap tail same.1)
to_the_brace k [] (e ∷ es) bs cs s t f g a b x y h =
    absurd (no_end k bs e s (write_digits es (write_blanks cs (125 ∷ t))) a g.0 (and_parts (is_solid e.digit) (list_all is_solid (spelt es)) y).0 h)
to_the_brace k (d ∷ ds) [] bs cs s t f g a b x y h =
    absurd (no_end k cs d t (write_digits ds (write_blanks bs (125 ∷ s))) b f.0 (and_parts (is_solid d.digit) (list_all is_solid (spelt ds)) x).0 (sym h))
to_the_brace k (d ∷ ds) (e ∷ es) bs cs s t f g a b x y h =
    let left = and_parts (is_solid d.digit) (list_all is_solid (spelt ds)) x in
    let right = and_parts (is_solid e.digit) (list_all is_solid (spelt es)) y in
    let first = one_digit k d e _ _ f.0 g.0 left.0 right.0 h in
    let more = to_the_brace k ds es bs cs s t f.1 g.1 a b left.1 right.1 first.1 in
    (ap (λ d. d ∷ ds) first.0 ∙ ap (λ ds. e ∷ ds) more.0, more.1, more.2)

-- ---- what holds before a character holds whatever follows it

pub blanks_before : (k : Flags) (bs : List Blank) (c : ℕ) (t u : List ℕ) → FineBlanks k bs (c ∷ t) → FineBlanks k bs (c ∷ u)
blanks_before k [] c t u f = tt
blanks_before k (white d ∷ bs) c t u f = (f.0, f.1, blanks_before k bs c t u f.2)
blanks_before k (comment cs ∷ []) c t u f = f
blanks_before k (comment cs ∷ white d ∷ bs) c t u f = (f.0, f.1, f.2, blanks_before k (white d ∷ bs) c t u f.3)
blanks_before k (comment cs ∷ comment ds ∷ bs) c t u f = (f.0, f.1, f.2, blanks_before k (comment ds ∷ bs) c t u f.3)

spaced_before : (k : Flags) (ds : List Digit) (bs : List Blank) (c : ℕ) (t u : List ℕ) → FineSpaced k ds (write_blanks bs (c ∷ t)) → FineSpaced k ds (write_blanks bs (c ∷ u))
spaced_before k [] bs c t u f = tt
spaced_before k (d ∷ ds) bs c t u f = (blanks_before k d.before d.digit _ _ f.0, spaced_before k ds bs c t u f.1)

abbrev write_inner : List Blank → List Digit → List Blank → List ℕ → List ℕ
write_inner before ds behind t = write_blanks before (123 ∷ write_digits ds (write_blanks behind (125 ∷ t)))

-- braces with what they hold
pub one_braced : (k : Flags) (bs gs : List Blank) (ds es : List Digit) (cs fs : List Blank) (s t : List ℕ) → FineBraced k bs ds cs → FineBraced k gs es fs
    → list_all is_solid (spelt ds) ≡ true → list_all is_solid (spelt es) ≡ true → write_inner bs ds cs s ≡ write_inner gs es fs t → (bs ≡ gs) × (ds ≡ es) × (cs ≡ fs) × (s ≡ t)
one_braced k bs gs ds es cs fs s t f g x y h =
    let left = write_digits ds (write_blanks cs (125 ∷ s)) in
    let right = write_digits es (write_blanks fs (125 ∷ t)) in
    let same = same_blanks k bs gs (123 ∷ left) (123 ∷ right) (blanks_before k bs 123 [] left f.0) (blanks_before k gs 123 [] right g.0) (opening_clear left) (opening_clear right) h in
    let inner = to_the_brace k ds es cs fs s t (spaced_before k ds cs 125 [] s f.1) (spaced_before k es fs 125 [] t g.1) (blanks_before k cs 125 [] s f.2) (blanks_before k fs 125 [] t g.2) x y (ap tail same.1) in
    (same.0, inner.0, inner.1, inner.2)

-- ---- octal digits

-- of at most so many digits fewer than all aren't followed by one more
abbrev IsRun : ℕ → List ℕ → List ℕ → Type 0
IsRun n [] t = (n ≡ 0) ⊎ (octal_next t ≡ false)
IsRun zero (d ∷ ds) t = ⊥
IsRun (suc n) (d ∷ ds) t = (is_octal_digit d ≡ true) × IsRun n ds t

no_more : (n e : ℕ) (es s t : List ℕ) → IsRun n [] s → IsRun n (e ∷ es) t → s ≡ e ∷ es ++ t → ⊥
no_more zero e es s t f g h = g
no_more (suc n) e es s t f g h = ⊎_elim (λ z. omega (z, arith)) (λ none. true≢false (sym g.0 ∙ ap octal_next (sym h) ∙ none)) f

one_run : (n : ℕ) (ds es : List ℕ) (s t : List ℕ) → IsRun n ds s → IsRun n es t → ds ++ s ≡ es ++ t → (ds ≡ es) × (s ≡ t)
one_run n [] [] s t f g h = (refl, h)
one_run n [] (e ∷ es) s t f g h = absurd (no_more n e es s t f g h)
one_run n (d ∷ ds) [] s t f g h = absurd (no_more n d ds t s g f (sym h))
one_run zero (d ∷ ds) (e ∷ es) s t f g h = absurd f
one_run (suc n) (d ∷ ds) (e ∷ es) s t f g h =
    let more = one_run n ds es s t f.1 g.1 (ap tail h) in (ap (λ d. d ∷ ds) (ap head h) ∙ ap (λ ds. e ∷ ds) more.0, more.1)

last_of : (b : Bool) → not (true && b) ≡ true → b ≡ false
last_of true f = sym f
last_of false f = refl

run_of : (n : ℕ) (ds t : List ℕ) → nat_le (length ds) n ≡ true → list_all is_octal_digit ds ≡ true → not (nat_lt (length ds) n && octal_next t) ≡ true → IsRun n ds t
run_of zero [] t a x f = inl refl
run_of (suc n) [] t a x f = inr (last_of (octal_next t) (sym (ap (λ b. not (b && octal_next t)) (positive n)) ∙ f))
  where
    positive : (n : ℕ) → nat_lt 0 (suc n) ≡ true
    positive n = grind (arith, nat_tests)
run_of zero (d ∷ ds) t a x f = absurd (too_many (length ds) a)
  where
    too_many : (m : ℕ) → nat_le (suc m) 0 ≡ true → ⊥
    too_many m a = grind (arith, nat_tests)
run_of (suc n) (d ∷ ds) t a x f =
    let parts = and_parts (is_octal_digit d) (list_all is_octal_digit ds) x in
    (parts.0, run_of n ds t (shorter (length ds) n a) parts.1 (ap (λ b. not (b && octal_next t)) (fewer (length ds) n) ∙ f))
  where
    shorter : (m n : ℕ) → nat_le (suc m) (suc n) ≡ true → nat_le m n ≡ true
    shorter m n a = grind (arith, nat_tests)

    fewer : (m n : ℕ) → nat_lt m n ≡ nat_lt (suc m) (suc n)
    fewer m n = grind (arith, nat_tests)

-- ---- which letter stands behind the `\`

abbrev is_control : ℕ → Bool
is_control c = is_some (control_of c)

abbrev is_code : ℕ → Bool
is_code c = nat_lt 0 (coded_length c)

abbrev is_perl : ℕ → Bool
is_perl c = has c (codes "dswDSW")

abbrev is_category : ℕ → Bool
is_category c = has c (codes "pP")

-- no letter of the list passes the test
pub clash : (p : ℕ → Bool) (cs : List ℕ) (c : ℕ) → list_all (λ d. not (p d)) cs ≡ true → has c cs ≡ true → p c ≡ true → ⊥
clash p cs c every h f = true≢false (sym (has_all (λ d. not (p d)) cs c every h) ∙ ap not f)

-- one letter is of one kind
control_code : (c : ℕ) → is_control c ≡ true → is_code c ≡ true → ⊥
control_code c f = clash is_code control_letters c refl (control_letter c f)

control_octal : (c : ℕ) → is_control c ≡ true → is_octal_digit c ≡ true → ⊥
control_octal c f = clash is_octal_digit control_letters c refl (control_letter c f)

control_perl : (c : ℕ) → is_control c ≡ true → is_perl c ≡ true → ⊥
control_perl c f = clash is_perl control_letters c refl (control_letter c f)

control_category : (c : ℕ) → is_control c ≡ true → is_category c ≡ true → ⊥
control_category c f = clash is_category control_letters c refl (control_letter c f)

escapable_control : (c : ℕ) → is_escapable c ≡ true → is_control c ≡ true → ⊥
escapable_control c f g = clash is_escapable control_letters c refl (control_letter c g) f

escapable_code : (c : ℕ) → is_escapable c ≡ true → is_code c ≡ true → ⊥
escapable_code c f g = clash is_escapable code_letters c refl (code_letter c g) f

escapable_octal : (c : ℕ) → is_escapable c ≡ true → is_octal_digit c ≡ true → ⊥
escapable_octal c f g = grind (arith, nat_tests)

escapable_perl : (c : ℕ) → is_escapable c ≡ true → is_perl c ≡ true → ⊥
escapable_perl c f g = clash is_escapable (codes "dswDSW") c refl g f

escapable_category : (c : ℕ) → is_escapable c ≡ true → is_category c ≡ true → ⊥
escapable_category c f g = clash is_escapable (codes "pP") c refl g f

code_octal : (c : ℕ) → is_code c ≡ true → is_octal_digit c ≡ true → ⊥
code_octal c f = clash is_octal_digit code_letters c refl (code_letter c f)

code_perl : (c : ℕ) → is_code c ≡ true → is_perl c ≡ true → ⊥
code_perl c f = clash is_perl code_letters c refl (code_letter c f)

code_category : (c : ℕ) → is_code c ≡ true → is_category c ≡ true → ⊥
code_category c f = clash is_category code_letters c refl (code_letter c f)

octal_perl : (c : ℕ) → is_octal_digit c ≡ true → is_perl c ≡ true → ⊥
octal_perl c f g = clash is_octal_digit (codes "dswDSW") c refl g f

octal_category : (c : ℕ) → is_octal_digit c ≡ true → is_category c ≡ true → ⊥
octal_category c f g = clash is_octal_digit (codes "pP") c refl g f

perl_category : (c : ℕ) → is_perl c ≡ true → is_category c ≡ true → ⊥
perl_category c f = clash is_category (codes "dswDSW") c refl f

pub data Kind : Type 0 where
  escapable : Kind
  controls : Kind
  code : Kind
  octals : Kind
  perls : Kind
  categories : Kind

abbrev pub test_of : Kind → ℕ → Bool
test_of escapable = is_escapable
test_of controls = is_control
test_of code = is_code
test_of octals = is_octal_digit
test_of perls = is_perl
test_of categories = is_category

one_kind : (i j : Kind) (c : ℕ) → test_of i c ≡ true → test_of j c ≡ true → i ≡ j
one_kind escapable escapable c f g = refl
one_kind escapable controls c f g = absurd (escapable_control c f g)
one_kind escapable code c f g = absurd (escapable_code c f g)
one_kind escapable octals c f g = absurd (escapable_octal c f g)
one_kind escapable perls c f g = absurd (escapable_perl c f g)
one_kind escapable categories c f g = absurd (escapable_category c f g)
one_kind controls escapable c f g = absurd (escapable_control c g f)
one_kind controls controls c f g = refl
one_kind controls code c f g = absurd (control_code c f g)
one_kind controls octals c f g = absurd (control_octal c f g)
one_kind controls perls c f g = absurd (control_perl c f g)
one_kind controls categories c f g = absurd (control_category c f g)
one_kind code escapable c f g = absurd (escapable_code c g f)
one_kind code controls c f g = absurd (control_code c g f)
one_kind code code c f g = refl
one_kind code octals c f g = absurd (code_octal c f g)
one_kind code perls c f g = absurd (code_perl c f g)
one_kind code categories c f g = absurd (code_category c f g)
one_kind octals escapable c f g = absurd (escapable_octal c g f)
one_kind octals controls c f g = absurd (control_octal c g f)
one_kind octals code c f g = absurd (code_octal c g f)
one_kind octals octals c f g = refl
one_kind octals perls c f g = absurd (octal_perl c f g)
one_kind octals categories c f g = absurd (octal_category c f g)
one_kind perls escapable c f g = absurd (escapable_perl c g f)
one_kind perls controls c f g = absurd (control_perl c g f)
one_kind perls code c f g = absurd (code_perl c g f)
one_kind perls octals c f g = absurd (octal_perl c g f)
one_kind perls perls c f g = refl
one_kind perls categories c f g = absurd (perl_category c f g)
one_kind categories escapable c f g = absurd (escapable_category c g f)
one_kind categories controls c f g = absurd (control_category c g f)
one_kind categories code c f g = absurd (code_category c g f)
one_kind categories octals c f g = absurd (octal_category c g f)
one_kind categories perls c f g = absurd (perl_category c g f)
one_kind categories categories c f g = refl

abbrev pub tag : Kind → ℕ
tag escapable = 0
tag controls = 1
tag code = 2
tag octals = 3
tag perls = 4
tag categories = 5

abbrev pub kind_of : Atom → Kind
kind_of (character c) = escapable
kind_of (escaped c) = escapable
kind_of (control letter) = controls
kind_of (coded letter ds) = code
kind_of (braced letter before ds behind) = code
kind_of (octal ds) = octals
kind_of (perl letter) = perls
kind_of (category letter before c) = categories
kind_of (category_braced letter before ds behind) = categories

abbrev pub letter_of : Atom → ℕ
letter_of (character c) = c
letter_of (escaped c) = c
letter_of (control letter) = letter
letter_of (coded letter ds) = letter
letter_of (braced letter before ds behind) = letter
letter_of (octal ds) = head ds
letter_of (perl letter) = letter
letter_of (category letter before c) = letter
letter_of (category_braced letter before ds behind) = letter

pub three_true : (a b c : Bool) → (a && b && c) ≡ true → (a ≡ true) × (b ≡ true) × (c ≡ true)
three_true true true true h = (refl, refl, refl)
three_true true true false h = absurd (true≢false (sym h))
three_true true false c h = absurd (true≢false (sym h))
three_true false b c h = absurd (true≢false (sym h))

pub four_true : (a b c d : Bool) → (a && b && c && d) ≡ true → (a ≡ true) × (b ≡ true) × (c ≡ true) × (d ≡ true)
four_true true true true true h = (refl, refl, refl, refl)
four_true true true true false h = absurd (true≢false (sym h))
four_true true true false d h = absurd (true≢false (sym h))
four_true true false c d h = absurd (true≢false (sym h))
four_true false b c d h = absurd (true≢false (sym h))

pub five_true : (a b c d e : Bool) → (a && b && c && d && e) ≡ true → (a ≡ true) × (b ≡ true) × (c ≡ true) × (d ≡ true) × (e ≡ true)
five_true true true true true true h = (refl, refl, refl, refl, refl)
five_true true true true true false h = absurd (true≢false (sym h))
five_true true true true false e h = absurd (true≢false (sym h))
five_true true true false d e h = absurd (true≢false (sym h))
five_true true false c d e h = absurd (true≢false (sym h))
five_true false b c d e h = absurd (true≢false (sym h))

coded_is_code : (letter n : ℕ) → (n == coded_length letter) ≡ true → nat_lt 0 n ≡ true → is_code letter ≡ true
coded_is_code letter n e f = subst (λ m. nat_lt 0 m ≡ true) (eqb-true n (coded_length letter) e) f

some_digits : (ds : List Digit) → not (is_nil ds) ≡ true → nat_lt 0 (length ds) ≡ true
some_digits [] h = absurd (true≢false (sym h))
some_digits (d ∷ ds) h = positive (length ds)
  where
    positive : (n : ℕ) → nat_lt 0 (suc n) ≡ true
    positive n = grind (arith, nat_tests)

-- the conditions of each kind
coded_fine : (letter : ℕ) (ds : List Digit) → (not (is_nil ds) && (length ds == coded_length letter) && are_hex ds && is_scalar (number 16 0 ds)) ≡ true
    → (not (is_nil ds) ≡ true) × ((length ds == coded_length letter) ≡ true) × (are_hex ds ≡ true) × (is_scalar (number 16 0 ds) ≡ true)
coded_fine letter ds h = four_true (not (is_nil ds)) (length ds == coded_length letter) (are_hex ds) (is_scalar (number 16 0 ds)) h

braced_fine : (letter : ℕ) (ds : List Digit) → (not (is_nil ds) && nat_lt 0 (coded_length letter) && are_hex ds && is_scalar (number 16 0 ds)) ≡ true
    → (not (is_nil ds) ≡ true) × (is_code letter ≡ true) × (are_hex ds ≡ true) × (is_scalar (number 16 0 ds) ≡ true)
braced_fine letter ds h = four_true (not (is_nil ds)) (nat_lt 0 (coded_length letter)) (are_hex ds) (is_scalar (number 16 0 ds)) h

octal_fine : (k : Flags) (ds t : List ℕ)
    → (k.octal && not (is_nil ds) && nat_le (length ds) 3 && list_all is_octal_digit ds && not (nat_lt (length ds) 3 && octal_next t)) ≡ true
    → (k.octal ≡ true) × (not (is_nil ds) ≡ true) × (nat_le (length ds) 3 ≡ true) × (list_all is_octal_digit ds ≡ true) × (not (nat_lt (length ds) 3 && octal_next t) ≡ true)
octal_fine k ds t h = five_true k.octal (not (is_nil ds)) (nat_le (length ds) 3) (list_all is_octal_digit ds) (not (nat_lt (length ds) 3 && octal_next t)) h

category_fine : (k : Flags) (letter : ℕ) (name : List ℕ) → (k.unicode && has letter (codes "pP") && is_some (category_named name)) ≡ true
    → (k.unicode ≡ true) × (is_category letter ≡ true) × (is_some (category_named name) ≡ true)
category_fine k letter name h = three_true k.unicode (has letter (codes "pP")) (is_some (category_named name)) h

-- the letter of an escape is of its kind
pub letter_is : (k : Flags) (a : Atom) (t : List ℕ) → IsEscape a → FineAtom k a t → test_of (kind_of a) (letter_of a) ≡ true
letter_is k (character c) t x f = absurd x
letter_is k (escaped c) t x f = f
letter_is k (control letter) t x f = f
letter_is k (coded letter ds) t x f = let c = coded_fine letter ds f.1 in coded_is_code letter (length ds) c.1 (some_digits ds c.0)
letter_is k (braced letter before ds behind) t x f = (braced_fine letter ds f.1).1
letter_is k (octal []) t x f = absurd (true≢false (sym (octal_fine k [] t f).1))
letter_is k (octal (d ∷ ds)) t x f = (and_parts (is_octal_digit d) (list_all is_octal_digit ds) (octal_fine k (d ∷ ds) t f).3).0
letter_is k (perl letter) t x f = f
letter_is k (category letter before c) t x f = (category_fine k letter (c ∷ []) f.1).1
letter_is k (category_braced letter before ds behind) t x f = (category_fine k letter (spelt ds) f.1).1

-- it stands second
pub letter_stands : (k : Flags) (a : Atom) (t : List ℕ) → IsEscape a → FineAtom k a t → head (tail (write_atom a t)) ≡ letter_of a
letter_stands k (character c) t x f = absurd x
letter_stands k (escaped c) t x f = refl
letter_stands k (control letter) t x f = refl
letter_stands k (coded letter ds) t x f = refl
letter_stands k (braced letter before ds behind) t x f = refl
letter_stands k (octal []) t x f = absurd (true≢false (sym (octal_fine k [] t f).1))
letter_stands k (octal (d ∷ ds)) t x f = refl
letter_stands k (perl letter) t x f = refl
letter_stands k (category letter before c) t x f = refl
letter_stands k (category_braced letter before ds behind) t x f = refl

same_letter : (k : Flags) (a b : Atom) (s t : List ℕ) → IsEscape a → IsEscape b → FineAtom k a s → FineAtom k b t → write_atom a s ≡ write_atom b t → letter_of a ≡ letter_of b
same_letter k a b s t x y f g h = sym (letter_stands k a s x f) ∙ ap (λ w. head (tail w)) h ∙ letter_stands k b t y g

same_kind : (k : Flags) (a b : Atom) (s t : List ℕ) → IsEscape a → IsEscape b → FineAtom k a s → FineAtom k b t → write_atom a s ≡ write_atom b t → kind_of a ≡ kind_of b
same_kind k a b s t x y f g h =
    one_kind (kind_of a) (kind_of b) (letter_of b) (subst (λ c. test_of (kind_of a) c ≡ true) (same_letter k a b s t x y f g h) (letter_is k a s x f)) (letter_is k b t y g)

hex_all : (ds : List Digit) → are_hex ds ≡ true → list_all is_solid (spelt ds) ≡ true
hex_all [] h = refl
hex_all (d ∷ ds) h = let parts = and_parts (is_digit d.digit 16) (are_hex ds) h in ap₂ ◌&&◌ (hex_solid d.digit parts.0) (hex_all ds parts.1)

-- what stands behind the opening brace
abbrev inner : List Digit → List Blank → List ℕ → List ℕ
inner ds behind t = write_digits ds (write_blanks behind (125 ∷ t))

-- digits and an opening brace are two
no_brace : (k : Flags) (ds : List Digit) (bs : List Blank) (s t : List ℕ) → not (is_nil ds) ≡ true → FineSpaced k ds s → list_all is_solid (spelt ds) ≡ true
    → FineBlanks k bs (123 ∷ t) → write_digits ds s ≡ write_blanks bs (123 ∷ t) → ⊥
no_brace k [] bs s t n f x g h = true≢false (sym n)
no_brace k (d ∷ ds) bs s t n f x g h =
    let solid = (and_parts (is_solid d.digit) (list_all is_solid (spelt ds)) x).0 in
    solid_apart d.digit 123 solid refl
    (ap head (same_blanks k d.before bs (d.digit ∷ write_digits ds s) (123 ∷ t) f.0 g (solid_clear d.digit (write_digits ds s) solid) (opening_clear t) h).1)

letter_solid : (c : ℕ) → is_some (category_named (c ∷ [])) ≡ true → is_solid c ≡ true
letter_solid c h = (and_parts (is_solid c) true (category_solid (c ∷ []) h)).0

no_brace_letter : (k : Flags) (c : ℕ) (bs cs : List Blank) (s t : List ℕ) → is_solid c ≡ true → FineBlanks k bs (c ∷ s) → FineBlanks k cs (123 ∷ t)
    → write_blanks bs (c ∷ s) ≡ write_blanks cs (123 ∷ t) → ⊥
no_brace_letter k c bs cs s t solid f g h =
    solid_apart c 123 solid refl (ap head (same_blanks k bs cs (c ∷ s) (123 ∷ t) f g (solid_clear c s solid) (opening_clear t) h).1)

abbrev behind_letter : List ℕ → List ℕ
behind_letter w = tail (tail w)

one_coded : (k : Flags) (l m : ℕ) (ds es : List Digit) (s t : List ℕ) → FineAtom k (coded l ds) s → FineAtom k (coded m es) t → l ≡ m
    → write_digits ds s ≡ write_digits es t → (coded l ds ≡ coded m es) × (s ≡ t)
one_coded k l m ds es s t f g e h =
    let left = coded_fine l ds f.1 in
    let right = coded_fine m es g.1 in
    let n : length ds ≡ length es = eqb-true _ _ left.1 ∙ ap coded_length e ∙ sym (eqb-true _ _ right.1) in
    let same = as_many_digits k ds es s t f.0 g.0 (hex_all ds left.2) (hex_all es right.2) n h in
    (ap (λ l. coded l ds) e ∙ ap (coded m) same.0, same.1)

one_in_braces : (k : Flags) (make : ℕ → List Blank → List Digit → List Blank → Atom) (l m : ℕ) (bs gs : List Blank) (ds es : List Digit) (cs fs : List Blank) (s t : List ℕ)
    → FineBraced k bs ds cs → FineBraced k gs es fs → list_all is_solid (spelt ds) ≡ true → list_all is_solid (spelt es) ≡ true → l ≡ m
    → write_inner bs ds cs s ≡ write_inner gs es fs t → (make l bs ds cs ≡ make m gs es fs) × (s ≡ t)
one_in_braces k make l m bs gs ds es cs fs s t f g x y e h =
    let same = one_braced k bs gs ds es cs fs s t f g x y h in
    (ap (λ l. make l bs ds cs) e ∙ ap (λ bs. make m bs ds cs) same.0 ∙ ap (λ ds. make m gs ds cs) same.1 ∙ ap (make m gs es) same.2, same.3)

one_octal : (k : Flags) (ds es s t : List ℕ) → FineAtom k (octal ds) s → FineAtom k (octal es) t → ds ++ s ≡ es ++ t → (octal ds ≡ octal es) × (s ≡ t)
one_octal k ds es s t f g h =
    let left = octal_fine k ds s f in
    let right = octal_fine k es t g in
    let same = one_run 3 ds es s t (run_of 3 ds s left.2 left.3 left.4) (run_of 3 es t right.2 right.3 right.4) h in
    (ap octal same.0, same.1)

one_category : (k : Flags) (l m : ℕ) (bs cs : List Blank) (c d : ℕ) (s t : List ℕ) → FineAtom k (category l bs c) s → FineAtom k (category m cs d) t → l ≡ m
    → write_blanks bs (c ∷ s) ≡ write_blanks cs (d ∷ t) → (category l bs c ≡ category m cs d) × (s ≡ t)
one_category k l m bs cs c d s t f g e h =
    let left = letter_solid c (category_fine k l (c ∷ []) f.1).2 in
    let right = letter_solid d (category_fine k m (d ∷ []) g.1).2 in
    let same = same_blanks k bs cs (c ∷ s) (d ∷ t) f.0 g.0 (solid_clear c s left) (solid_clear d t right) h in
    (ap (λ l. category l bs c) e ∙ ap (λ bs. category m bs c) same.0 ∙ ap (category m cs) (ap head same.1), ap tail same.1)

-- by the two letters, which are one, and the kinds, which are one
one_by : (k : Flags) (a b : Atom) (s t : List ℕ) → IsEscape a → IsEscape b → write_atom a s ≡ write_atom b t → FineAtom k a s → FineAtom k b t
    → letter_of a ≡ letter_of b → kind_of a ≡ kind_of b → (a ≡ b) × (s ≡ t)
one_by k (character c) b s t x y h f g e i = absurd x
one_by k (escaped c) (character d) s t x y h f g e i = absurd y
one_by k (escaped c) (escaped d) s t x y h f g e i = (ap escaped e, ap behind_letter h)
one_by k (escaped c) (control m) s t x y h f g e i = absurd (apart 0 1 refl (ap tag i))
one_by k (escaped c) (coded m es) s t x y h f g e i = absurd (apart 0 2 refl (ap tag i))
one_by k (escaped c) (braced m gs es fs) s t x y h f g e i = absurd (apart 0 2 refl (ap tag i))
one_by k (escaped c) (octal es) s t x y h f g e i = absurd (apart 0 3 refl (ap tag i))
one_by k (escaped c) (perl m) s t x y h f g e i = absurd (apart 0 4 refl (ap tag i))
one_by k (escaped c) (category m zs d) s t x y h f g e i = absurd (apart 0 5 refl (ap tag i))
one_by k (escaped c) (category_braced m gs es fs) s t x y h f g e i = absurd (apart 0 5 refl (ap tag i))
one_by k (control l) (character d) s t x y h f g e i = absurd y
one_by k (control l) (escaped d) s t x y h f g e i = absurd (apart 1 0 refl (ap tag i))
one_by k (control l) (control m) s t x y h f g e i = (ap control e, ap behind_letter h)
one_by k (control l) (coded m es) s t x y h f g e i = absurd (apart 1 2 refl (ap tag i))
one_by k (control l) (braced m gs es fs) s t x y h f g e i = absurd (apart 1 2 refl (ap tag i))
one_by k (control l) (octal es) s t x y h f g e i = absurd (apart 1 3 refl (ap tag i))
one_by k (control l) (perl m) s t x y h f g e i = absurd (apart 1 4 refl (ap tag i))
one_by k (control l) (category m zs d) s t x y h f g e i = absurd (apart 1 5 refl (ap tag i))
one_by k (control l) (category_braced m gs es fs) s t x y h f g e i = absurd (apart 1 5 refl (ap tag i))
one_by k (coded l ds) (character d) s t x y h f g e i = absurd y
one_by k (coded l ds) (escaped d) s t x y h f g e i = absurd (apart 2 0 refl (ap tag i))
one_by k (coded l ds) (control m) s t x y h f g e i = absurd (apart 2 1 refl (ap tag i))
one_by k (coded l ds) (coded m es) s t x y h f g e i = one_coded k l m ds es s t f g e (ap behind_letter h)
one_by k (coded l ds) (braced m gs es fs) s t x y h f g e i = let left = coded_fine l ds f.1 in absurd (no_brace k ds gs s (inner es fs t) left.0 f.0 (hex_all ds left.2) (blanks_before k gs 123 [] (inner es fs t) g.0.0) (ap behind_letter h))
one_by k (coded l ds) (octal es) s t x y h f g e i = absurd (apart 2 3 refl (ap tag i))
one_by k (coded l ds) (perl m) s t x y h f g e i = absurd (apart 2 4 refl (ap tag i))
one_by k (coded l ds) (category m zs d) s t x y h f g e i = absurd (apart 2 5 refl (ap tag i))
one_by k (coded l ds) (category_braced m gs es fs) s t x y h f g e i = absurd (apart 2 5 refl (ap tag i))
one_by k (braced l bs ds cs) (character d) s t x y h f g e i = absurd y
one_by k (braced l bs ds cs) (escaped d) s t x y h f g e i = absurd (apart 2 0 refl (ap tag i))
one_by k (braced l bs ds cs) (control m) s t x y h f g e i = absurd (apart 2 1 refl (ap tag i))
one_by k (braced l bs ds cs) (coded m es) s t x y h f g e i = let right = coded_fine m es g.1 in absurd (no_brace k es bs t (inner ds cs s) right.0 g.0 (hex_all es right.2) (blanks_before k bs 123 [] (inner ds cs s) f.0.0) (sym (ap behind_letter h)))
one_by k (braced l bs ds cs) (braced m gs es fs) s t x y h f g e i =
    one_in_braces k braced l m bs gs ds es cs fs s t f.0 g.0 (hex_all ds (braced_fine l ds f.1).2) (hex_all es (braced_fine m es g.1).2) e (ap behind_letter h)
one_by k (braced l bs ds cs) (octal es) s t x y h f g e i = absurd (apart 2 3 refl (ap tag i))
one_by k (braced l bs ds cs) (perl m) s t x y h f g e i = absurd (apart 2 4 refl (ap tag i))
one_by k (braced l bs ds cs) (category m zs d) s t x y h f g e i = absurd (apart 2 5 refl (ap tag i))
one_by k (braced l bs ds cs) (category_braced m gs es fs) s t x y h f g e i = absurd (apart 2 5 refl (ap tag i))
one_by k (octal ds) (character z) s t x y h f g e i = absurd y
one_by k (octal ds) (escaped d) s t x y h f g e i = absurd (apart 3 0 refl (ap tag i))
one_by k (octal ds) (control m) s t x y h f g e i = absurd (apart 3 1 refl (ap tag i))
one_by k (octal ds) (coded m es) s t x y h f g e i = absurd (apart 3 2 refl (ap tag i))
one_by k (octal ds) (braced m gs es fs) s t x y h f g e i = absurd (apart 3 2 refl (ap tag i))
one_by k (octal ds) (octal es) s t x y h f g e i = one_octal k ds es s t f g (ap tail h)
one_by k (octal ds) (perl m) s t x y h f g e i = absurd (apart 3 4 refl (ap tag i))
one_by k (octal ds) (category m zs d) s t x y h f g e i = absurd (apart 3 5 refl (ap tag i))
one_by k (octal ds) (category_braced m gs es fs) s t x y h f g e i = absurd (apart 3 5 refl (ap tag i))
one_by k (perl l) (character d) s t x y h f g e i = absurd y
one_by k (perl l) (escaped d) s t x y h f g e i = absurd (apart 4 0 refl (ap tag i))
one_by k (perl l) (control m) s t x y h f g e i = absurd (apart 4 1 refl (ap tag i))
one_by k (perl l) (coded m es) s t x y h f g e i = absurd (apart 4 2 refl (ap tag i))
one_by k (perl l) (braced m gs es fs) s t x y h f g e i = absurd (apart 4 2 refl (ap tag i))
one_by k (perl l) (octal es) s t x y h f g e i = absurd (apart 4 3 refl (ap tag i))
one_by k (perl l) (perl m) s t x y h f g e i = (ap perl e, ap behind_letter h)
one_by k (perl l) (category m zs d) s t x y h f g e i = absurd (apart 4 5 refl (ap tag i))
one_by k (perl l) (category_braced m gs es fs) s t x y h f g e i = absurd (apart 4 5 refl (ap tag i))
one_by k (category l bs c) (character z) s t x y h f g e i = absurd y
one_by k (category l bs c) (escaped d) s t x y h f g e i = absurd (apart 5 0 refl (ap tag i))
one_by k (category l bs c) (control m) s t x y h f g e i = absurd (apart 5 1 refl (ap tag i))
one_by k (category l bs c) (coded m es) s t x y h f g e i = absurd (apart 5 2 refl (ap tag i))
one_by k (category l bs c) (braced m gs es fs) s t x y h f g e i = absurd (apart 5 2 refl (ap tag i))
one_by k (category l bs c) (octal es) s t x y h f g e i = absurd (apart 5 3 refl (ap tag i))
one_by k (category l bs c) (perl m) s t x y h f g e i = absurd (apart 5 4 refl (ap tag i))
one_by k (category l bs c) (category m zs d) s t x y h f g e i = one_category k l m bs zs c d s t f g e (ap behind_letter h)
one_by k (category l bs c) (category_braced m gs es fs) s t x y h f g e i =
    absurd (no_brace_letter k c bs gs s (inner es fs t) (letter_solid c (category_fine k l (c ∷ []) f.1).2) f.0 (blanks_before k gs 123 [] (inner es fs t) g.0.0) (ap behind_letter h))
one_by k (category_braced l bs ds cs) (character d) s t x y h f g e i = absurd y
one_by k (category_braced l bs ds cs) (escaped d) s t x y h f g e i = absurd (apart 5 0 refl (ap tag i))
one_by k (category_braced l bs ds cs) (control m) s t x y h f g e i = absurd (apart 5 1 refl (ap tag i))
one_by k (category_braced l bs ds cs) (coded m es) s t x y h f g e i = absurd (apart 5 2 refl (ap tag i))
one_by k (category_braced l bs ds cs) (braced m gs es fs) s t x y h f g e i = absurd (apart 5 2 refl (ap tag i))
one_by k (category_braced l bs ds cs) (octal es) s t x y h f g e i = absurd (apart 5 3 refl (ap tag i))
one_by k (category_braced l bs ds cs) (perl m) s t x y h f g e i = absurd (apart 5 4 refl (ap tag i))
one_by k (category_braced l bs ds cs) (category m zs d) s t x y h f g e i =
    absurd (no_brace_letter k d zs bs t (inner ds cs s) (letter_solid d (category_fine k m (d ∷ []) g.1).2) g.0 (blanks_before k bs 123 [] (inner ds cs s) f.0.0) (sym (ap behind_letter h)))
one_by k (category_braced l bs ds cs) (category_braced m gs es fs) s t x y h f g e i =
    one_in_braces k category_braced l m bs gs ds es cs fs s t f.0 g.0 (category_solid (spelt ds) (category_fine k l (spelt ds) f.1).2) (category_solid (spelt es) (category_fine k m (spelt es) g.1).2) e (ap behind_letter h)

-- two escapes at one place are one, with one rest
pub one_escape : (k : Flags) (a b : Atom) (s t : List ℕ) → IsEscape a → IsEscape b → write_atom a s ≡ write_atom b t → FineAtom k a s → FineAtom k b t → (a ≡ b) × (s ≡ t)
one_escape k a b s t x y h f g = one_by k a b s t x y h f g (same_letter k a b s t x y f g h) (same_kind k a b s t x y f g h)
