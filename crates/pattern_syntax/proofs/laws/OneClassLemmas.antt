-- Two classes at one place are one.
use Rattle.std.specs.Prelude.{is_some}
use Rattle.std.proofs.Common.{◌≡◌, ℕ, Bool, true, false, List, [], ◌∷◌, ◌++◌, codes, ◌==◌, ◌||◌, ◌&&◌, ◌⊎◌, inl, inr, ⊎_elim, if◌then◌else◌, nat_eq, Option, Some, None, refl, sym, ap, ap₂, ◌∙◌, subst, true≢false, arith}
use Rattle.std.proofs.lemmas.Bool.{and_parts}
use Rattle.std.proofs.lemmas.Bool.Decides.{nat_tests}
use Rattle.std.specs.List.{list_any, starts_with, list_all}
use Rattle.ucd_props.proofs.Computing.{ucd_props}
use Rattle.unicode.specs.Binary.{is_white_space}
use Rattle.pattern_syntax.specs.declared.flags.Flags.{Flags}
use Rattle.pattern_syntax.specs.Flags.{Blank, white, comment, write_blanks, FineBlanks, has, begins, seen, is_nil}
use Rattle.pattern_syntax.specs.Sets.{Set, ascii_names, value_of, same_text}
use Rattle.pattern_syntax.specs.Atom.{Atom, character, escaped, control, coded, braced, octal, perl, category, category_braced, write_atom, single_of, FineAtom}
use Rattle.pattern_syntax.specs.Class.{Head, Inside, close, pass, one, range, named, nested, operation, Operation, both, minus, either, write_head, write_after, write_dashes, write_inside, write_name, write_operation, FineHead, FineCaret, FineDashes, FineBracket, FineInside, FineMember, FineSecond, is_member, is_blank_start, makes_range, begins_name, in_order, fits}
use Rattle.pattern_syntax.specs.Readers.{IsEscape}
use Rattle.pattern_syntax.proofs.BlanksLemmas.{apart, seen_behind, three, two, no_or_left, no_or_right, bracket_clear, dash_clear, and_clear, tilde_clear, number_sign}
use Rattle.pattern_syntax.proofs.SameBlanks.{head, tail, IsClear, same_blanks, same_line}
use Rattle.pattern_syntax.proofs.ClassSteps.{FineRange}
use Rattle.pattern_syntax.proofs.ClassMoves.{range_makes}
use Rattle.pattern_syntax.proofs.laws.CharacterLemmas.{is_solid, solid_apart, same_text_is, found_passes}
use Rattle.pattern_syntax.proofs.laws.OneAtomLemmas.{one_escape}

-- ---- blanks before what is clear where they are passed over

none_off : (k : Flags) (bs cs : List Blank) (t u : List ℕ) → k.spaces ≡ false → FineBlanks k bs t → FineBlanks k cs u → write_blanks bs t ≡ write_blanks cs u → (bs ≡ cs) × (t ≡ u)
none_off k [] [] t u off f g h = (refl, h)
none_off k [] (white d ∷ cs) t u off f g h = absurd (true≢false (sym g.0 ∙ off))
none_off k [] (comment ds ∷ cs) t u off f g h = absurd (true≢false (sym g.0 ∙ off))
none_off k (white c ∷ bs) cs t u off f g h = absurd (true≢false (sym f.0 ∙ off))
none_off k (comment c ∷ bs) cs t u off f g h = absurd (true≢false (sym f.0 ∙ off))

blanks_by : (k : Flags) (b : Bool) (bs cs : List Blank) (t u : List ℕ) → k.spaces ≡ b → FineBlanks k bs t → FineBlanks k cs u → (b ≡ true → IsClear t) → (b ≡ true → IsClear u)
    → write_blanks bs t ≡ write_blanks cs u → (bs ≡ cs) × (t ≡ u)
blanks_by k true bs cs t u e f g x y h = same_blanks k bs cs t u f g (x refl) (y refl) h
blanks_by k false bs cs t u e f g x y h = none_off k bs cs t u e f g h

pub blanks_before_clear : (k : Flags) (bs cs : List Blank) (t u : List ℕ) → FineBlanks k bs t → FineBlanks k cs u → (k.spaces ≡ true → IsClear t) → (k.spaces ≡ true → IsClear u)
    → write_blanks bs t ≡ write_blanks cs u → (bs ≡ cs) × (t ≡ u)
blanks_before_clear k bs cs t u f g x y h = blanks_by k k.spaces bs cs t u refl f g x y h

pub one_blank : (k : Flags) (b c : Blank) (s t : List ℕ) → FineBlanks k (b ∷ []) s → FineBlanks k (c ∷ []) t → write_blanks (b ∷ []) s ≡ write_blanks (c ∷ []) t → (b ≡ c) × (s ≡ t)
one_blank k (white c) (white d) s t f g h = (ap white (ap head h), ap tail h)
one_blank k (white c) (comment ds) s t f g h = absurd (true≢false (sym f.1 ∙ ap is_white_space (ap head h) ∙ number_sign))
one_blank k (comment cs) (white d) s t f g h = absurd (true≢false (sym g.1 ∙ ap is_white_space (ap head (sym h)) ∙ number_sign))
one_blank k (comment cs) (comment ds) s t f g h =
    let same = same_line cs ds s t f.1 g.1 f.2 g.2 (ap tail h) in (ap comment same.0, same.1)

-- ---- members that are a character or an escape

pub escape_first : (a : Atom) (t : List ℕ) → IsEscape a → head (write_atom a t) ≡ 92
escape_first (character c) t x = absurd x
escape_first (escaped c) t x = refl
escape_first (control c) t x = refl
escape_first (coded c ds) t x = refl
escape_first (braced c bs ds cs) t x = refl
escape_first (octal ds) t x = refl
escape_first (perl c) t x = refl
escape_first (category c bs d) t x = refl
escape_first (category_braced c bs ds cs) t x = refl

-- a character that is no `\`, or an escape
abbrev pub Stands : Flags → Atom → List ℕ → Type 0
Stands k a t = ((c : ℕ) × ((a ≡ character c) × (c ≡ 92 → ⊥))) ⊎ (IsEscape a × FineAtom k a t)

pub one_standing : (k : Flags) (a b : Atom) (s t : List ℕ) → Stands k a s → Stands k b t → write_atom a s ≡ write_atom b t → (a ≡ b) × (s ≡ t)
one_standing k a b s t (inl (c, (e, n))) (inl (d, (i, m))) h =
    let same : c ∷ s ≡ d ∷ t = ap (λ a. write_atom a s) (sym e) ∙ h ∙ ap (λ b. write_atom b t) i in (e ∙ ap character (ap head same) ∙ sym i, ap tail same)
one_standing k a b s t (inl (c, (e, n))) (inr (x, f)) h = absurd (n (ap head (ap (λ a. write_atom a s) (sym e) ∙ h) ∙ escape_first b t x))
one_standing k a b s t (inr (x, f)) (inl (d, (i, m))) h = absurd (m (ap head (ap (λ b. write_atom b t) (sym i) ∙ sym h) ∙ escape_first a s x))
one_standing k a b s t (inr (x, f)) (inr (y, g)) h = one_escape k a b s t x y h f g

pub not_among : (c d : ℕ) (cs : List ℕ) → has d cs ≡ true → has c cs ≡ false → c ≡ d → ⊥
not_among c d cs h none e = true≢false (sym h ∙ ap (λ z. has z cs) (sym e) ∙ none)

pub member_stands : (k : Flags) (a : Atom) (t : List ℕ) → FineMember k a t → Stands k a t
member_stands k (character c) t f = inl (c, (refl, not_among c 92 (codes "[]\\") refl (three (has c (codes "[]\\")) (is_blank_start k c) (has c (codes "&-~") && begins c t) f).0))
member_stands k (escaped c) t f = inr (tt, f)
member_stands k (control c) t f = inr (tt, f)
member_stands k (coded c ds) t f = inr (tt, f)
member_stands k (braced c bs ds cs) t f = inr (tt, f)
member_stands k (octal ds) t f = inr (tt, f)
member_stands k (perl c) t f = inr (tt, f)
member_stands k (category c bs d) t f = inr (tt, f)
member_stands k (category_braced c bs ds cs) t f = inr (tt, f)

pub second_stands : (k : Flags) (a : Atom) (t : List ℕ) → FineSecond k a t → Stands k a t
second_stands k (character c) t f = inl (c, (refl, not_among c 92 (codes "[]\\-") refl (two (has c (codes "[]\\-")) (is_blank_start k c) f).0))
second_stands k (escaped c) t f = inr (tt, f)
second_stands k (control c) t f = inr (tt, f)
second_stands k (coded c ds) t f = inr (tt, f)
second_stands k (braced c bs ds cs) t f = inr (tt, f)
second_stands k (octal ds) t f = inr (tt, f)
second_stands k (perl c) t f = inr (tt, f)
second_stands k (category c bs d) t f = inr (tt, f)
second_stands k (category_braced c bs ds cs) t f = inr (tt, f)

pub one_member : (k : Flags) (a b : Atom) (s t : List ℕ) → FineMember k a s → FineMember k b t → write_atom a s ≡ write_atom b t → (a ≡ b) × (s ≡ t)
one_member k a b s t f g h = one_standing k a b s t (member_stands k a s f) (member_stands k b t g) h

one_second : (k : Flags) (a b : Atom) (s t : List ℕ) → FineSecond k a s → FineSecond k b t → write_atom a s ≡ write_atom b t → (a ≡ b) × (s ≡ t)
one_second k a b s t f g h = one_standing k a b s t (second_stands k a s f) (second_stands k b t g) h

pub no_start : (k : Flags) (c : ℕ) → is_blank_start k c ≡ false → k.spaces ≡ true → (is_white_space c ≡ false) × ((c == 35) ≡ false)
no_start k c none on =
    let h : (is_white_space c || (c == 35)) ≡ false = sym (ap (λ b. b && (is_white_space c || (c == 35))) on) ∙ none in
    (no_or_left (is_white_space c) (c == 35) h, no_or_right (is_white_space c) (c == 35) h)

slash_first : (t : List ℕ) → IsClear (92 ∷ t)
unfolding ucd_props
slash_first t = (refl, refl)

second_clear : (k : Flags) (a : Atom) (t : List ℕ) → FineSecond k a t → k.spaces ≡ true → IsClear (write_atom a t)
second_clear k (character c) t f on = no_start k c (two (has c (codes "[]\\-")) (is_blank_start k c) f).1 on
second_clear k (escaped c) t f on = slash_first (tail (write_atom (escaped c) t))
second_clear k (control c) t f on = slash_first (tail (write_atom (control c) t))
second_clear k (coded c ds) t f on = slash_first (tail (write_atom (coded c ds) t))
second_clear k (braced c bs ds cs) t f on = slash_first (tail (write_atom (braced c bs ds cs) t))
second_clear k (octal ds) t f on = slash_first (tail (write_atom (octal ds) t))
second_clear k (perl c) t f on = slash_first (tail (write_atom (perl c) t))
second_clear k (category c bs d) t f on = slash_first (tail (write_atom (category c bs d) t))
second_clear k (category_braced c bs ds cs) t f on = slash_first (tail (write_atom (category_braced c bs ds cs) t))

-- ---- names

to_the_colon : (xs ys s t : List ℕ) → list_all is_solid xs ≡ true → list_all is_solid ys ≡ true → (xs ++ codes ":]") ++ s ≡ (ys ++ codes ":]") ++ t → (xs ≡ ys) × (s ≡ t)
to_the_colon [] [] s t x y h = (refl, ap tail (ap tail h))
to_the_colon [] (d ∷ ys) s t x y h = absurd (solid_apart d 58 (and_parts (is_solid d) (list_all is_solid ys) y).0 refl (ap head (sym h)))
to_the_colon (c ∷ xs) [] s t x y h = absurd (solid_apart c 58 (and_parts (is_solid c) (list_all is_solid xs) x).0 refl (ap head h))
to_the_colon (c ∷ xs) (d ∷ ys) s t x y h =
    let more = to_the_colon xs ys s t (and_parts (is_solid c) (list_all is_solid xs) x).1 (and_parts (is_solid d) (list_all is_solid ys) y).1 (ap tail h) in
    (ap (λ c. c ∷ xs) (ap head h) ∙ ap (λ xs. d ∷ xs) more.0, more.1)

no_caret : (ys t w : List ℕ) → list_all is_solid ys ≡ true → 94 ∷ w ≡ (ys ++ codes ":]") ++ t → ⊥
no_caret [] t w y h = apart 94 58 refl (ap head h)
no_caret (d ∷ ys) t w y h = solid_apart d 94 (and_parts (is_solid d) (list_all is_solid ys) y).0 refl (ap head (sym h))

abbrev behind_colon : List ℕ → List ℕ
behind_colon w = tail (tail w)

one_name_by : (m n : Bool) (xs ys s t : List ℕ) → list_all is_solid xs ≡ true → list_all is_solid ys ≡ true → write_name m xs s ≡ write_name n ys t → (m ≡ n) × (xs ≡ ys) × (s ≡ t)
one_name_by true true xs ys s t x y h = let same = to_the_colon xs ys s t x y (ap tail (ap behind_colon h)) in (refl, same.0, same.1)
one_name_by true false xs ys s t x y h = absurd (no_caret ys t _ y (ap behind_colon h))
one_name_by false true xs ys s t x y h = absurd (no_caret xs s _ x (sym (ap behind_colon h)))
one_name_by false false xs ys s t x y h = let same = to_the_colon xs ys s t x y (ap behind_colon h) in (refl, same.0, same.1)

pub name_solid : (name : List ℕ) → is_some (value_of ascii_names name) ≡ true → list_all is_solid name ≡ true
name_solid name h = found_passes (list_all is_solid) ascii_names name refl h

pub one_name : (m n : Bool) (xs ys s t : List ℕ) → is_some (value_of ascii_names xs) ≡ true → is_some (value_of ascii_names ys) ≡ true
    → write_name m xs s ≡ write_name n ys t → (m ≡ n) × (xs ≡ ys) × (s ≡ t)
one_name m n xs ys s t x y h = one_name_by m n xs ys s t (name_solid xs x) (name_solid ys y) h

nat_eq_self : (n : ℕ) → nat_eq n n ≡ true
nat_eq_self n = grind (nat_tests, arith)

starts_alike : (xs t : List ℕ) → starts_with nat_eq (xs ++ t) (xs ++ []) ≡ true
starts_alike [] [] = refl
starts_alike [] (c ∷ t) = refl
starts_alike (x ∷ xs) t = ap₂ ◌&&◌ (nat_eq_self x) (starts_alike xs t)

name_starts : (negated : Bool) (name t : List ℕ) → starts_with nat_eq (write_name negated name t) (write_name negated name []) ≡ true
name_starts true name t = starts_alike ((codes "[:^" ++ name) ++ codes ":]") t
name_starts false name t = starts_alike ((codes "[:" ++ name) ++ codes ":]") t

abbrev begins_row : List ℕ → List ℕ → Bool
begins_row w name = starts_with nat_eq w (write_name false name []) || starts_with nat_eq w (write_name true name [])

or_true : (a b : Bool) → b ≡ true → (a || b) ≡ true
or_true true b h = refl
or_true false b h = h

row_by : (negated : Bool) (name w : List ℕ) → starts_with nat_eq w (write_name negated name []) ≡ true → begins_row w name ≡ true
row_by true name w h = or_true (starts_with nat_eq w (write_name false name [])) (starts_with nat_eq w (write_name true name [])) h
row_by false name w h = ap (λ b. b || starts_with nat_eq w (write_name true name [])) h

or_first : (a b : Bool) → a ≡ true → (a || b) ≡ true
or_first a b h = ap (λ c. c || b) h

row_found : (row : List ℕ × Set) (rows : List (List ℕ × Set)) (negated : Bool) (name w : List ℕ) (b : Bool) → same_text row.0 name ≡ b
    → (is_some (value_of rows name) ≡ true → list_any (λ (row : List ℕ × Set). begins_row w row.0) rows ≡ true)
    → is_some (if b then Some row.1 else value_of rows name) ≡ true → starts_with nat_eq w (write_name negated name []) ≡ true
    → (begins_row w row.0 || list_any (λ (row : List ℕ × Set). begins_row w row.0) rows) ≡ true
row_found row rows negated name w true e more f h =
    or_first (begins_row w row.0) (list_any (λ (row : List ℕ × Set). begins_row w row.0) rows)
    (row_by negated row.0 w (subst (λ n. starts_with nat_eq w (write_name negated n []) ≡ true) (sym (same_text_is row.0 name e)) h))
row_found row rows negated name w false e more f h =
    or_true (begins_row w row.0) (list_any (λ (row : List ℕ × Set). begins_row w row.0) rows) (more f)

rows_by : (rows : List (List ℕ × Set)) (negated : Bool) (name w : List ℕ) → is_some (value_of rows name) ≡ true → starts_with nat_eq w (write_name negated name []) ≡ true
    → list_any (λ (row : List ℕ × Set). begins_row w row.0) rows ≡ true
rows_by [] negated name w f h = absurd (true≢false (sym f))
rows_by (row ∷ rows) negated name w f h = row_found row rows negated name w (same_text row.0 name) refl (λ f. rows_by rows negated name w f h) f h

pub name_begins : (negated : Bool) (name t : List ℕ) → is_some (value_of ascii_names name) ≡ true → begins_name (write_name negated name t) ≡ true
name_begins negated name t f = rows_by ascii_names negated name (write_name negated name t) f (name_starts negated name t)

-- ---- heads

caret_clear : (t : List ℕ) → IsClear (94 ∷ t)
unfolding ucd_props
caret_clear t = (refl, refl)

dash_first : (t : List ℕ) → IsClear (45 ∷ t)
dash_first t = (dash_clear, refl)

bracket_first : (t : List ℕ) → IsClear (93 ∷ t)
bracket_first t = (bracket_clear, refl)

comes : (k : Flags) (c : ℕ) (bs : List Blank) (t w : List ℕ) → FineBlanks k bs (c ∷ t) → IsClear (c ∷ t) → w ≡ write_blanks bs (c ∷ t) → (c == c) ≡ true → begins c (seen k w) ≡ false → ⊥
comes k c bs t w f x e i none =
    true≢false (sym i ∙ sym (ap (begins c) (ap (seen k) e ∙ seen_behind k bs (c ∷ t) f (λ on. x))) ∙ none)

one_caret : (k : Flags) (x y : Option (List Blank)) (s t : List ℕ) → FineCaret k x s → FineCaret k y t → write_after x (codes "^") s ≡ write_after y (codes "^") t → (x ≡ y) × (s ≡ t)
one_caret k None None s t f g h = (refl, h)
one_caret k None (Some bs) s t f g h = absurd (comes k 94 bs t s g (caret_clear t) h refl f)
one_caret k (Some bs) None s t f g h = absurd (comes k 94 bs s t f (caret_clear s) (sym h) refl g)
one_caret k (Some bs) (Some cs) s t f g h =
    let same = same_blanks k bs cs (94 ∷ s) (94 ∷ t) f g (caret_clear s) (caret_clear t) h in (ap Some same.0, ap tail same.1)

one_dashes : (k : Flags) (xs ys : List (List Blank)) (s t : List ℕ) → FineDashes k xs s → FineDashes k ys t → write_dashes xs s ≡ write_dashes ys t → (xs ≡ ys) × (s ≡ t)
one_dashes k [] [] s t f g h = (refl, h)
one_dashes k [] (bs ∷ ys) s t f g h = absurd (comes k 45 bs (write_dashes ys t) s g.0 (dash_first (write_dashes ys t)) h refl f)
one_dashes k (bs ∷ xs) [] s t f g h = absurd (comes k 45 bs (write_dashes xs s) t f.0 (dash_first (write_dashes xs s)) (sym h) refl g)
one_dashes k (bs ∷ xs) (cs ∷ ys) s t f g h =
    let same = same_blanks k bs cs (45 ∷ write_dashes xs s) (45 ∷ write_dashes ys t) f.0 g.0 (dash_first (write_dashes xs s)) (dash_first (write_dashes ys t)) h in
    let more = one_dashes k xs ys s t f.1 g.1 (ap tail same.1) in
    (ap (λ bs. bs ∷ xs) same.0 ∙ ap (λ xs. cs ∷ xs) more.0, more.1)

one_bracket : (k : Flags) (b : Bool) (x y : Option (List Blank)) (s t : List ℕ) → FineBracket k b x s → FineBracket k b y t → write_after x (codes "]") s ≡ write_after y (codes "]") t
    → (x ≡ y) × (s ≡ t)
one_bracket k b None None s t f g h = (refl, h)
one_bracket k true None (Some bs) s t f g h = absurd (comes k 93 bs t s g (bracket_first t) h refl f)
one_bracket k false None (Some bs) s t f g h = absurd g
one_bracket k true (Some bs) None s t f g h = absurd (comes k 93 bs s t f (bracket_first s) (sym h) refl g)
one_bracket k false (Some bs) None s t f g h = absurd f
one_bracket k true (Some bs) (Some cs) s t f g h =
    let same = same_blanks k bs cs (93 ∷ s) (93 ∷ t) f g (bracket_first s) (bracket_first t) h in (ap Some same.0, ap tail same.1)
one_bracket k false (Some bs) (Some cs) s t f g h = absurd f

abbrev head_of : Option (List Blank) → List (List Blank) → Option (List Blank) → Head
head_of x ds y = record { negated = x; dashes = ds; bracket = y }

pub one_head : (k : Flags) (h g : Head) (s t : List ℕ) → FineHead k h s → FineHead k g t → write_head h s ≡ write_head g t → (h ≡ g) × (s ≡ t)
one_head k h g s t f e same =
    let caret = one_caret k h.negated g.negated _ _ f.0 e.0 (ap tail same) in
    let dashes = one_dashes k h.dashes g.dashes _ _ f.1 e.1 caret.1 in
    let bracket = one_bracket k (is_nil g.dashes) h.bracket g.bracket s t (subst (λ ds. FineBracket k (is_nil ds) h.bracket s) dashes.0 f.2) e.2 dashes.1 in (
      ap (λ x. head_of x h.dashes h.bracket) caret.0 ∙ ap (λ ds. head_of g.negated ds h.bracket) dashes.0 ∙ ap (head_of g.negated g.dashes) bracket.0,
      bracket.1,
    )

-- ---- how a class goes on

op_char : Operation → ℕ
op_char both = 38
op_char minus = 45
op_char either = 126

operation_text : (o : Operation) (t : List ℕ) → write_operation o t ≡ op_char o ∷ op_char o ∷ t
unfolding op_char
operation_text both t = refl
operation_text minus t = refl
operation_text either t = refl

op_number : (o : Operation) → (op_char o ≡ 38) ⊎ ((op_char o ≡ 45) ⊎ (op_char o ≡ 126))
unfolding op_char
op_number both = inl refl
op_number minus = inr (inl refl)
op_number either = inr (inr refl)

by_op : (p : ℕ → Bool) (b : Bool) (o : Operation) → p 38 ≡ b → p 45 ≡ b → p 126 ≡ b → p (op_char o) ≡ b
by_op p b o x y z = ⊎_elim (λ e. ap p e ∙ x) (λ more. ⊎_elim (λ e. ap p e ∙ y) (λ e. ap p e ∙ z) more) (op_number o)

same_op : (o p : Operation) → op_char o ≡ op_char p → o ≡ p
unfolding op_char
same_op both both e = refl
same_op both minus e = absurd (apart 38 45 refl e)
same_op both either e = absurd (apart 38 126 refl e)
same_op minus both e = absurd (apart 45 38 refl e)
same_op minus minus e = refl
same_op minus either e = absurd (apart 45 126 refl e)
same_op either both e = absurd (apart 126 38 refl e)
same_op either minus e = absurd (apart 126 45 refl e)
same_op either either e = refl

-- what stands where a class goes on
data Start (k : Flags) (w : List ℕ) : Type 0 where
  ends : head w ≡ 93 → Start k w
  blank : (b : Blank) (t : List ℕ) → FineBlanks k (b ∷ []) t → w ≡ write_blanks (b ∷ []) t → Start k w
  member : (d : ℕ) (v : List ℕ) → w ≡ d ∷ v → (d ≡ 92) ⊎ (is_member k d v ≡ true) → Start k w
  bracket : head w ≡ 91 → Start k w
  operator : (o : Operation) (v : List ℕ) → w ≡ op_char o ∷ op_char o ∷ v → Start k w

abbrev number : (k : Flags) (w : List ℕ) → Start k w → ℕ
number k w (ends e) = 0
number k w (blank b t f e) = 1
number k w (member d v e m) = 2
number k w (bracket e) = 3
number k w (operator o v e) = 4

-- no blank begins with these
not_blank : (k : Flags) (b : Blank) (t w : List ℕ) (c : ℕ) → is_white_space c ≡ false → (c == 35) ≡ false → FineBlanks k (b ∷ []) t → w ≡ write_blanks (b ∷ []) t → head w ≡ c → ⊥
not_blank k (white d) t w c clear hash f e h = true≢false (sym f.1 ∙ ap is_white_space (sym (ap head e) ∙ h) ∙ clear)
not_blank k (comment cs) t w c clear hash f e h = apart c 35 hash (sym h ∙ ap head e)

blank_on : (k : Flags) (b : Blank) (t : List ℕ) → FineBlanks k (b ∷ []) t → k.spaces ≡ true
blank_on k (white c) t f = f.0
blank_on k (comment cs) t f = f.0

open_clear : is_white_space 91 ≡ false
unfolding ucd_props
open_clear = refl

slash_white : is_white_space 92 ≡ false
unfolding ucd_props
slash_white = refl

no_member : (k : Flags) (d c : ℕ) (v : List ℕ) → has c (codes "[]\\") ≡ true → d ≡ c → is_member k d v ≡ true → ⊥
no_member k d c v bad e m = not_among d c (codes "[]\\") bad (three (has d (codes "[]\\")) (is_blank_start k d) (has d (codes "&-~") && begins d v) m).0 e

member_not : (k : Flags) (d c : ℕ) (v w : List ℕ) → has c (codes "[]\\") ≡ true → (c == 92) ≡ false → w ≡ d ∷ v → (d ≡ 92) ⊎ (is_member k d v ≡ true) → head w ≡ c → ⊥
member_not k d c v w bad slash e m h =
    let same : d ≡ c = sym (ap head e) ∙ h in ⊎_elim (λ s. apart c 92 slash (sym same ∙ s)) (λ m. no_member k d c v bad same m) m

member_blank : (k : Flags) (d : ℕ) (v w : List ℕ) (b : Blank) (t : List ℕ) → w ≡ d ∷ v → (d ≡ 92) ⊎ (is_member k d v ≡ true) → FineBlanks k (b ∷ []) t → w ≡ write_blanks (b ∷ []) t → ⊥
member_blank k d v w b t e m f i =
    ⊎_elim
    (λ s. not_blank k b t w 92 slash_white refl f i (ap head e ∙ s))
    (λ m.
    let clear = no_start k d (three (has d (codes "[]\\")) (is_blank_start k d) (has d (codes "&-~") && begins d v) m).1 (blank_on k b t f) in
    not_blank k b t w d clear.0 clear.1 f i (ap head e))
    m

op_pair : (o : Operation) (v : List ℕ) → begins (op_char o) (op_char o ∷ v) ≡ true
op_pair o v = nat_eq_self (op_char o)

member_operator : (k : Flags) (d : ℕ) (v w : List ℕ) (o : Operation) (t : List ℕ) → w ≡ d ∷ v → (d ≡ 92) ⊎ (is_member k d v ≡ true) → w ≡ op_char o ∷ op_char o ∷ t → ⊥
member_operator k d v w o t e m i =
    let same : d ∷ v ≡ op_char o ∷ op_char o ∷ t = sym e ∙ i in
    ⊎_elim
    (λ s. true≢false (sym (ap (λ c. c == 92) (sym (ap head same) ∙ s)) ∙ by_op (λ c. c == 92) false o refl refl refl))
    (λ m.
    let none = (three (has d (codes "[]\\")) (is_blank_start k d) (has d (codes "&-~") && begins d v) m).2 in
    true≢false
    (sym (ap₂ ◌&&◌ (by_op (λ c. has c (codes "&-~")) true o refl refl refl) (op_pair o t))
    ∙ ap₂ (λ c v. has c (codes "&-~") && begins c v) (sym (ap head same)) (sym (ap tail same)) ∙ none))
    m

op_head : (c : ℕ) (w : List ℕ) (o : Operation) (t : List ℕ) → (38 == c) ≡ false → (45 == c) ≡ false → (126 == c) ≡ false → head w ≡ c → w ≡ op_char o ∷ op_char o ∷ t → ⊥
op_head c w o t x y z h e = apart (op_char o) c (by_op (λ d. d == c) false o x y z) (sym (ap head e) ∙ h)

op_blank : (k : Flags) (w : List ℕ) (o : Operation) (t : List ℕ) (b : Blank) (s : List ℕ) → w ≡ op_char o ∷ op_char o ∷ t → FineBlanks k (b ∷ []) s → w ≡ write_blanks (b ∷ []) s → ⊥
op_blank k w o t b s e f i = not_blank k b s w (op_char o) (by_op is_white_space false o and_clear dash_clear tilde_clear) (by_op (λ c. c == 35) false o refl refl refl) f i (ap head e)

one_start : (k : Flags) (w : List ℕ) (x y : Start k w) → number k w x ≡ number k w y
one_start k w (ends e) (ends i) = refl
one_start k w (ends e) (blank b t f i) = absurd (not_blank k b t w 93 bracket_clear refl f i e)
one_start k w (ends e) (member d v i m) = absurd (member_not k d 93 v w refl refl i m e)
one_start k w (ends e) (bracket i) = absurd (apart 93 91 refl (sym e ∙ i))
one_start k w (ends e) (operator o v i) = absurd (op_head 93 w o v refl refl refl e i)
one_start k w (blank b t f e) (ends i) = absurd (not_blank k b t w 93 bracket_clear refl f e i)
one_start k w (blank b t f e) (blank c s g i) = refl
one_start k w (blank b t f e) (member d v i m) = absurd (member_blank k d v w b t i m f e)
one_start k w (blank b t f e) (bracket i) = absurd (not_blank k b t w 91 open_clear refl f e i)
one_start k w (blank b t f e) (operator o v i) = absurd (op_blank k w o v b t i f e)
one_start k w (member d v e m) (ends i) = absurd (member_not k d 93 v w refl refl e m i)
one_start k w (member d v e m) (blank b t f i) = absurd (member_blank k d v w b t e m f i)
one_start k w (member d v e m) (member c u i n) = refl
one_start k w (member d v e m) (bracket i) = absurd (member_not k d 91 v w refl refl e m i)
one_start k w (member d v e m) (operator o u i) = absurd (member_operator k d v w o u e m i)
one_start k w (bracket e) (ends i) = absurd (apart 93 91 refl (sym i ∙ e))
one_start k w (bracket e) (blank b t f i) = absurd (not_blank k b t w 91 open_clear refl f i e)
one_start k w (bracket e) (member d v i m) = absurd (member_not k d 91 v w refl refl i m e)
one_start k w (bracket e) (bracket i) = refl
one_start k w (bracket e) (operator o v i) = absurd (op_head 91 w o v refl refl refl e i)
one_start k w (operator o v e) (ends i) = absurd (op_head 93 w o v refl refl refl i e)
one_start k w (operator o v e) (blank b t f i) = absurd (op_blank k w o v b t e f i)
one_start k w (operator o v e) (member d u i m) = absurd (member_operator k d u w o v i m e)
one_start k w (operator o v e) (bracket i) = absurd (op_head 91 w o v refl refl refl i e)
one_start k w (operator o v e) (operator p u i) = refl

member_start : (k : Flags) (a : Atom) (t w : List ℕ) → FineMember k a t → w ≡ write_atom a t → Start k w
member_start k (character c) t w f e = member c t e (inr f)
member_start k (escaped c) t w f e = member 92 (tail (write_atom (escaped c) t)) e (inl refl)
member_start k (control c) t w f e = member 92 (tail (write_atom (control c) t)) e (inl refl)
member_start k (coded c ds) t w f e = member 92 (tail (write_atom (coded c ds) t)) e (inl refl)
member_start k (braced c bs ds cs) t w f e = member 92 (tail (write_atom (braced c bs ds cs) t)) e (inl refl)
member_start k (octal ds) t w f e = member 92 (tail (write_atom (octal ds) t)) e (inl refl)
member_start k (perl c) t w f e = member 92 (tail (write_atom (perl c) t)) e (inl refl)
member_start k (category c bs d) t w f e = member 92 (tail (write_atom (category c bs d) t)) e (inl refl)
member_start k (category_braced c bs ds cs) t w f e = member 92 (tail (write_atom (category_braced c bs ds cs) t)) e (inl refl)

member_number : (k : Flags) (a : Atom) (t w : List ℕ) (f : FineMember k a t) (e : w ≡ write_atom a t) → number k w (member_start k a t w f e) ≡ 2
unfolding member_start
member_number k (character c) t w f e = refl
member_number k (escaped c) t w f e = refl
member_number k (control c) t w f e = refl
member_number k (coded c ds) t w f e = refl
member_number k (braced c bs ds cs) t w f e = refl
member_number k (octal ds) t w f e = refl
member_number k (perl c) t w f e = refl
member_number k (category c bs d) t w f e = refl
member_number k (category_braced c bs ds cs) t w f e = refl

name_first : (negated : Bool) (name t : List ℕ) → head (write_name negated name t) ≡ 91
name_first true name t = refl
name_first false name t = refl

start_of : (k : Flags) (p : Inside) (t w : List ℕ) → FineInside k p t → w ≡ write_inside p t → Start k w
start_of k close t w f e = ends (ap head e)
start_of k (pass b p) t w f e = blank b (write_inside p t) f.0 e
start_of k (one a p) t w f e = member_start k a (write_inside p t) w f.0 e
start_of k (range a bs cs b p) t w f e = member_start k a (write_blanks bs (codes "-" ++ write_blanks cs (write_atom b (write_inside p t)))) w f.0 e
start_of k (named negated name p) t w f e = bracket (ap head e ∙ name_first negated name (write_inside p t))
start_of k (nested h q p) t w f e = bracket (ap head e)
start_of k (operation o p) t w f e = operator o (write_inside p t) (e ∙ operation_text o (write_inside p t))

abbrev number_of : Inside → ℕ
number_of close = 0
number_of (pass b p) = 1
number_of (one a p) = 2
number_of (range a bs cs b p) = 2
number_of (named negated name p) = 3
number_of (nested h q p) = 3
number_of (operation o p) = 4

start_number : (k : Flags) (p : Inside) (t w : List ℕ) (f : FineInside k p t) (e : w ≡ write_inside p t) → number k w (start_of k p t w f e) ≡ number_of p
unfolding start_of
start_number k close t w f e = refl
start_number k (pass b p) t w f e = refl
start_number k (one a p) t w f e = member_number k a (write_inside p t) w f.0 e
start_number k (range a bs cs b p) t w f e = member_number k a (write_blanks bs (codes "-" ++ write_blanks cs (write_atom b (write_inside p t)))) w f.0 e
start_number k (named negated name p) t w f e = refl
start_number k (nested h q p) t w f e = refl
start_number k (operation o p) t w f e = refl

same_number : (k : Flags) (p q : Inside) (s t : List ℕ) → FineInside k p s → FineInside k q t → write_inside p s ≡ write_inside q t → number_of p ≡ number_of q
same_number k p q s t f g h =
    let w = write_inside p s in
    sym (start_number k p s w f refl) ∙ one_start k w (start_of k p s w f refl) (start_of k q t w g h) ∙ start_number k q t w g h

-- a single one behind which a range is written
some_first : (x y : Option ℕ) → in_order x y ≡ true → is_some x ≡ true
some_first (Some a) y h = refl
some_first None y h = absurd (true≢false (sym h))

ordered : (k : Flags) (a b : Atom) → (fits k a && fits k b && in_order (single_of a) (single_of b)) ≡ true → in_order (single_of a) (single_of b) ≡ true
ordered k a b h = last_of (fits k a) (fits k b) (in_order (single_of a) (single_of b)) h
  where
    last_of : (x y z : Bool) → (x && y && z) ≡ true → z ≡ true
    last_of true true z h = h
    last_of true false z h = absurd (true≢false (sym h))
    last_of false y z h = absurd (true≢false (sym h))

abbrev behind_first : List Blank → List Blank → Atom → List ℕ → List ℕ
behind_first bs cs b w = write_blanks bs (codes "-" ++ write_blanks cs (write_atom b w))

one_or_range : (k : Flags) (a c b : Atom) (bs cs : List Blank) (s t : List ℕ) → FineMember k a s → (is_some (single_of a) && makes_range k s) ≡ false → FineRange k c bs cs b t
    → write_atom a s ≡ write_atom c (behind_first bs cs b t) → ⊥
one_or_range k a c b bs cs s t f none g h =
    let same = one_member k a c s (behind_first bs cs b t) f g.0 h in
    let single : is_some (single_of a) ≡ true = ap (λ a. is_some (single_of a)) same.0 ∙ some_first (single_of c) (single_of b) (ordered k c b g.4) in
    let makes : makes_range k s ≡ true = ap (makes_range k) same.1 ∙ range_makes k c bs cs b t g in
    true≢false (sym (ap₂ ◌&&◌ single makes) ∙ none)

one_range : (k : Flags) (a d : Atom) (bs gs cs fs : List Blank) (b e : Atom) (s t : List ℕ) → FineRange k a bs cs b s → FineRange k d gs fs e t
    → write_atom a (behind_first bs cs b s) ≡ write_atom d (behind_first gs fs e t) → (a ≡ d) × (bs ≡ gs) × (cs ≡ fs) × (b ≡ e) × (s ≡ t)
one_range k a d bs gs cs fs b e s t f g h =
    let first = one_member k a d (behind_first bs cs b s) (behind_first gs fs e t) f.0 g.0 h in
    let dash = same_blanks k bs gs (45 ∷ write_blanks cs (write_atom b s)) (45 ∷ write_blanks fs (write_atom e t)) f.1 g.1 (dash_first (write_blanks cs (write_atom b s))) (dash_first (write_blanks fs (write_atom e t))) first.1 in
    let gap = blanks_before_clear k cs fs (write_atom b s) (write_atom e t) f.2 g.2 (second_clear k b s f.3) (second_clear k e t g.3) (ap tail dash.1) in
    let second = one_second k b e s t f.3 g.3 gap.1 in
    (first.0, dash.0, gap.0, second.0, second.1)

inside_by : (k : Flags) (p q : Inside) (s t : List ℕ) → FineInside k p s → FineInside k q t → write_inside p s ≡ write_inside q t → number_of p ≡ number_of q → (p ≡ q) × (s ≡ t)
inside_by k close close s t f y w i = (refl, ap tail w)
inside_by k close (pass c q) s t f y w i = absurd (apart 0 1 refl i)
inside_by k close (one d q) s t f y w i = absurd (apart 0 2 refl i)
inside_by k close (range d gs fs e q) s t f y w i = absurd (apart 0 2 refl i)
inside_by k close (named n other q) s t f y w i = absurd (apart 0 3 refl i)
inside_by k close (nested g u q) s t f y w i = absurd (apart 0 3 refl i)
inside_by k close (operation z q) s t f y w i = absurd (apart 0 4 refl i)
inside_by k (pass b p) close s t f y w i = absurd (apart 1 0 refl i)
inside_by k (pass b p) (pass c q) s t f y w i =
    let first = one_blank k b c (write_inside p s) (write_inside q t) f.0 y.0 w in
    let more = inside_by k p q s t f.1 y.1 first.1 (same_number k p q s t f.1 y.1 first.1) in
    (ap (λ b. pass b p) first.0 ∙ ap (pass c) more.0, more.1)
inside_by k (pass b p) (one d q) s t f y w i = absurd (apart 1 2 refl i)
inside_by k (pass b p) (range d gs fs e q) s t f y w i = absurd (apart 1 2 refl i)
inside_by k (pass b p) (named n other q) s t f y w i = absurd (apart 1 3 refl i)
inside_by k (pass b p) (nested g u q) s t f y w i = absurd (apart 1 3 refl i)
inside_by k (pass b p) (operation z q) s t f y w i = absurd (apart 1 4 refl i)
inside_by k (one a p) close s t f y w i = absurd (apart 2 0 refl i)
inside_by k (one a p) (pass c q) s t f y w i = absurd (apart 2 1 refl i)
inside_by k (one a p) (one d q) s t f y w i =
    let first = one_member k a d (write_inside p s) (write_inside q t) f.0 y.0 w in
    let more = inside_by k p q s t f.3 y.3 first.1 (same_number k p q s t f.3 y.3 first.1) in
    (ap (λ a. one a p) first.0 ∙ ap (one d) more.0, more.1)
inside_by k (one a p) (range d gs fs e q) s t f y w i = absurd (one_or_range k a d e gs fs (write_inside p s) (write_inside q t) f.0 f.2 (y.0, y.1, y.2, y.3, y.4) w)
inside_by k (one a p) (named n other q) s t f y w i = absurd (apart 2 3 refl i)
inside_by k (one a p) (nested g u q) s t f y w i = absurd (apart 2 3 refl i)
inside_by k (one a p) (operation z q) s t f y w i = absurd (apart 2 4 refl i)
inside_by k (range a bs cs b p) close s t f y w i = absurd (apart 2 0 refl i)
inside_by k (range a bs cs b p) (pass c q) s t f y w i = absurd (apart 2 1 refl i)
inside_by k (range a bs cs b p) (one d q) s t f y w i = absurd (one_or_range k d a b bs cs (write_inside q t) (write_inside p s) y.0 y.2 (f.0, f.1, f.2, f.3, f.4) (sym w))
inside_by k (range a bs cs b p) (range d gs fs e q) s t f y w i =
    let first = one_range k a d bs gs cs fs b e (write_inside p s) (write_inside q t) (f.0, f.1, f.2, f.3, f.4) (y.0, y.1, y.2, y.3, y.4) w in
    let more = inside_by k p q s t f.5 y.5 first.4 (same_number k p q s t f.5 y.5 first.4) in (
      ap (λ a. range a bs cs b p) first.0 ∙ ap (λ bs. range d bs cs b p) first.1 ∙ ap (λ cs. range d gs cs b p) first.2 ∙ ap (λ b. range d gs fs b p) first.3 ∙ ap (range d gs fs e) more.0,
      more.1,
    )
inside_by k (range a bs cs b p) (named n other q) s t f y w i = absurd (apart 2 3 refl i)
inside_by k (range a bs cs b p) (nested g u q) s t f y w i = absurd (apart 2 3 refl i)
inside_by k (range a bs cs b p) (operation z q) s t f y w i = absurd (apart 2 4 refl i)
inside_by k (named m name p) close s t f y w i = absurd (apart 3 0 refl i)
inside_by k (named m name p) (pass c q) s t f y w i = absurd (apart 3 1 refl i)
inside_by k (named m name p) (one d q) s t f y w i = absurd (apart 3 2 refl i)
inside_by k (named m name p) (range d gs fs e q) s t f y w i = absurd (apart 3 2 refl i)
inside_by k (named m name p) (named n other q) s t f y w i =
    let first = one_name m n name other (write_inside p s) (write_inside q t) f.0 y.0 w in
    let more = inside_by k p q s t f.1 y.1 first.2 (same_number k p q s t f.1 y.1 first.2) in
    (ap (λ m. named m name p) first.0 ∙ ap (λ name. named n name p) first.1 ∙ ap (named n other) more.0, more.1)
inside_by k (named m name p) (nested g u q) s t f y w i = absurd (true≢false (sym (name_begins m name (write_inside p s) f.0) ∙ ap begins_name w ∙ y.0))
inside_by k (named m name p) (operation z q) s t f y w i = absurd (apart 3 4 refl i)
inside_by k (nested h r p) close s t f y w i = absurd (apart 3 0 refl i)
inside_by k (nested h r p) (pass c q) s t f y w i = absurd (apart 3 1 refl i)
inside_by k (nested h r p) (one d q) s t f y w i = absurd (apart 3 2 refl i)
inside_by k (nested h r p) (range d gs fs e q) s t f y w i = absurd (apart 3 2 refl i)
inside_by k (nested h r p) (named n other q) s t f y w i = absurd (true≢false (sym (name_begins n other (write_inside q t) y.0) ∙ ap begins_name (sym w) ∙ f.0))
inside_by k (nested h r p) (nested g u q) s t f y w i =
    let first = one_head k h g (write_inside r (write_inside p s)) (write_inside u (write_inside q t)) f.1 y.1 w in
    let inner = inside_by k r u (write_inside p s) (write_inside q t) f.2 y.2 first.1 (same_number k r u (write_inside p s) (write_inside q t) f.2 y.2 first.1) in
    let more = inside_by k p q s t f.3 y.3 inner.1 (same_number k p q s t f.3 y.3 inner.1) in
    (ap (λ h. nested h r p) first.0 ∙ ap (λ r. nested g r p) inner.0 ∙ ap (nested g u) more.0, more.1)
inside_by k (nested h r p) (operation z q) s t f y w i = absurd (apart 3 4 refl i)
inside_by k (operation o p) close s t f y w i = absurd (apart 4 0 refl i)
inside_by k (operation o p) (pass c q) s t f y w i = absurd (apart 4 1 refl i)
inside_by k (operation o p) (one d q) s t f y w i = absurd (apart 4 2 refl i)
inside_by k (operation o p) (range d gs fs e q) s t f y w i = absurd (apart 4 2 refl i)
inside_by k (operation o p) (named n other q) s t f y w i = absurd (apart 4 3 refl i)
inside_by k (operation o p) (nested g u q) s t f y w i = absurd (apart 4 3 refl i)
inside_by k (operation o p) (operation z q) s t f y w i =
    let same = sym (operation_text o (write_inside p s)) ∙ w ∙ operation_text z (write_inside q t) in
    let text = ap tail (ap tail same) in
    let more = inside_by k p q s t f y text (same_number k p q s t f y text) in
    (ap (λ o. operation o p) (same_op o z (ap head same)) ∙ ap (operation z) more.0, more.1)

pub one_inside : (k : Flags) (p q : Inside) (s t : List ℕ) → FineInside k p s → FineInside k q t → write_inside p s ≡ write_inside q t → (p ≡ q) × (s ≡ t)
one_inside k p q s t f g h = inside_by k p q s t f g h (same_number k p q s t f g h)

-- two classes at one place are one, with one rest
pub one_class : (k : Flags) (h g : Head) (p q : Inside) (s t : List ℕ) → write_head h (write_inside p s) ≡ write_head g (write_inside q t)
    → FineHead k h (write_inside p s) → FineInside k p s → FineHead k g (write_inside q t) → FineInside k q t → (h ≡ g) × (p ≡ q) × (s ≡ t)
one_class k h g p q s t w f x e y =
    let first = one_head k h g (write_inside p s) (write_inside q t) f e w in
    let inner = one_inside k p q s t x y first.1 in
    (first.0, inner.0, inner.1)
