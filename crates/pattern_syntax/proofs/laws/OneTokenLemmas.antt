-- Two tokens at one place are one.
use Rattle.std.proofs.Common.{◌≡◌, ℕ, Bool, true, false, List, [], ◌∷◌, ◌++◌, codes, ◌==◌, ◌||◌, inl, inr, not, nat_lt, if◌then◌else◌, refl, sym, ap, ◌∙◌, subst, true≢false, eqb-true, arith}
use Rattle.std.proofs.lemmas.Bool.Decides.{nat_tests}
use Rattle.std.specs.List.{list_any, list_all}
use Rattle.pattern_syntax.specs.declared.flags.Flags.{Flags}
use Rattle.pattern_syntax.specs.Flags.{has, begins, rest}
use Rattle.pattern_syntax.specs.Atom.{Atom, character, escaped, control, coded, braced, octal, perl, category, category_braced, write_atom, FineAtom}
use Rattle.pattern_syntax.specs.Class.{is_blank_start}
use Rattle.pattern_syntax.specs.Syntax.{Edge, text_start, text_end, edge, no_edge, word_start, word_end, half_start, half_end, left, right, Single, atom, dot, caret, dollar, look, class, write_single, fine_edge, FineLook, FineAlone, FineSingle, is_special, Kind, numbered, named, flagged, edge_of}
use Rattle.pattern_syntax.specs.Tokens.{Token, bar, set, item, opens, closes, write_token, FineToken}
use Rattle.pattern_syntax.specs.Readers.{IsEscape, OpensGroup}
use Rattle.pattern_syntax.proofs.BlanksLemmas.{apart, no_or_left}
use Rattle.pattern_syntax.proofs.SameBlanks.{head, tail}
use Rattle.pattern_syntax.proofs.laws.OneAtomLemmas.{Kind as LetterKind, escapable, controls, code, octals, perls, categories, test_of, kind_of, letter_of, letter_is, letter_stands, clash}
use Rattle.pattern_syntax.proofs.laws.OneClassLemmas.{Stands, one_standing, not_among, one_class}

-- ---- looks

-- the lists differ where both go on
abbrev differ : List ℕ → List ℕ → Bool
differ [] ys = false
differ (x ∷ xs) [] = false
differ (x ∷ xs) (y ∷ ys) = not (x == y) || differ xs ys

differ_by : (x y : ℕ) (b : Bool) → (not (x == y) || b) ≡ true → x ≡ y → b ≡ true
differ_by x y b h e = sym (ap (λ c. not c || b) (subst (λ z. (x == z) ≡ true) e (same_number x))) ∙ h
  where
    same_number : (x : ℕ) → (x == x) ≡ true
    same_number x = grind (arith, nat_tests)

apart_texts : (xs ys s t : List ℕ) → differ xs ys ≡ true → xs ++ s ≡ ys ++ t → ⊥
apart_texts [] ys s t h e = true≢false (sym h)
apart_texts (x ∷ xs) [] s t h e = true≢false (sym h)
apart_texts (x ∷ xs) (y ∷ ys) s t h e = apart_texts xs ys s t (differ_by x y (differ xs ys) h (ap head e)) (ap tail e)

-- one text before both
pub same_behind : (xs s t : List ℕ) → xs ++ s ≡ xs ++ t → s ≡ t
same_behind [] s t e = e
same_behind (x ∷ xs) s t e = same_behind xs s t (ap tail e)

-- a word in braces is no repetition
no_word : (c : ℕ) (t w : List ℕ) → w ≡ 123 ∷ c ∷ t → list_any (λ d. c == d) (codes "0123456789") ≡ false → fine_edge w ≡ true → ⊥
no_word c t w e none f = true≢false (sym f ∙ ap (λ w. not (begins 123 w) || list_any (λ d. begins d (rest w)) (codes "0123456789")) e ∙ none)

one_look : (k : Flags) (x y : Edge) (s t : List ℕ) → FineLook x s → FineLook y t → (edge_of x).0 ++ s ≡ (edge_of y).0 ++ t → (x ≡ y) × (s ≡ t)
one_look k text_start text_start s t f g e = (refl, same_behind (codes "\\A") s t e)
one_look k text_start text_end s t f g e = absurd (apart_texts (codes "\\A") (codes "\\z") s t refl e)
one_look k text_start edge s t f g e = absurd (apart_texts (codes "\\A") (codes "\\b") s t refl e)
one_look k text_start no_edge s t f g e = absurd (apart_texts (codes "\\A") (codes "\\B") s t refl e)
one_look k text_start word_start s t f g e = absurd (apart_texts (codes "\\A") (codes "\\b{start}") s t refl e)
one_look k text_start word_end s t f g e = absurd (apart_texts (codes "\\A") (codes "\\b{end}") s t refl e)
one_look k text_start half_start s t f g e = absurd (apart_texts (codes "\\A") (codes "\\b{start-half}") s t refl e)
one_look k text_start half_end s t f g e = absurd (apart_texts (codes "\\A") (codes "\\b{end-half}") s t refl e)
one_look k text_start left s t f g e = absurd (apart_texts (codes "\\A") (codes "\\<") s t refl e)
one_look k text_start right s t f g e = absurd (apart_texts (codes "\\A") (codes "\\>") s t refl e)
one_look k text_end text_start s t f g e = absurd (apart_texts (codes "\\z") (codes "\\A") s t refl e)
one_look k text_end text_end s t f g e = (refl, same_behind (codes "\\z") s t e)
one_look k text_end edge s t f g e = absurd (apart_texts (codes "\\z") (codes "\\b") s t refl e)
one_look k text_end no_edge s t f g e = absurd (apart_texts (codes "\\z") (codes "\\B") s t refl e)
one_look k text_end word_start s t f g e = absurd (apart_texts (codes "\\z") (codes "\\b{start}") s t refl e)
one_look k text_end word_end s t f g e = absurd (apart_texts (codes "\\z") (codes "\\b{end}") s t refl e)
one_look k text_end half_start s t f g e = absurd (apart_texts (codes "\\z") (codes "\\b{start-half}") s t refl e)
one_look k text_end half_end s t f g e = absurd (apart_texts (codes "\\z") (codes "\\b{end-half}") s t refl e)
one_look k text_end left s t f g e = absurd (apart_texts (codes "\\z") (codes "\\<") s t refl e)
one_look k text_end right s t f g e = absurd (apart_texts (codes "\\z") (codes "\\>") s t refl e)
one_look k edge text_start s t f g e = absurd (apart_texts (codes "\\b") (codes "\\A") s t refl e)
one_look k edge text_end s t f g e = absurd (apart_texts (codes "\\b") (codes "\\z") s t refl e)
one_look k edge edge s t f g e = (refl, same_behind (codes "\\b") s t e)
one_look k edge no_edge s t f g e = absurd (apart_texts (codes "\\b") (codes "\\B") s t refl e)
one_look k edge word_start s t f g e = absurd (no_word 115 (tail (tail (tail (tail ((edge_of word_start).0 ++ t))))) s (ap tail (ap tail e)) refl f)
one_look k edge word_end s t f g e = absurd (no_word 101 (tail (tail (tail (tail ((edge_of word_end).0 ++ t))))) s (ap tail (ap tail e)) refl f)
one_look k edge half_start s t f g e = absurd (no_word 115 (tail (tail (tail (tail ((edge_of half_start).0 ++ t))))) s (ap tail (ap tail e)) refl f)
one_look k edge half_end s t f g e = absurd (no_word 101 (tail (tail (tail (tail ((edge_of half_end).0 ++ t))))) s (ap tail (ap tail e)) refl f)
one_look k edge left s t f g e = absurd (apart_texts (codes "\\b") (codes "\\<") s t refl e)
one_look k edge right s t f g e = absurd (apart_texts (codes "\\b") (codes "\\>") s t refl e)
one_look k no_edge text_start s t f g e = absurd (apart_texts (codes "\\B") (codes "\\A") s t refl e)
one_look k no_edge text_end s t f g e = absurd (apart_texts (codes "\\B") (codes "\\z") s t refl e)
one_look k no_edge edge s t f g e = absurd (apart_texts (codes "\\B") (codes "\\b") s t refl e)
one_look k no_edge no_edge s t f g e = (refl, same_behind (codes "\\B") s t e)
one_look k no_edge word_start s t f g e = absurd (apart_texts (codes "\\B") (codes "\\b{start}") s t refl e)
one_look k no_edge word_end s t f g e = absurd (apart_texts (codes "\\B") (codes "\\b{end}") s t refl e)
one_look k no_edge half_start s t f g e = absurd (apart_texts (codes "\\B") (codes "\\b{start-half}") s t refl e)
one_look k no_edge half_end s t f g e = absurd (apart_texts (codes "\\B") (codes "\\b{end-half}") s t refl e)
one_look k no_edge left s t f g e = absurd (apart_texts (codes "\\B") (codes "\\<") s t refl e)
one_look k no_edge right s t f g e = absurd (apart_texts (codes "\\B") (codes "\\>") s t refl e)
one_look k word_start text_start s t f g e = absurd (apart_texts (codes "\\b{start}") (codes "\\A") s t refl e)
one_look k word_start text_end s t f g e = absurd (apart_texts (codes "\\b{start}") (codes "\\z") s t refl e)
one_look k word_start edge s t f g e = absurd (no_word 115 (tail (tail (tail (tail ((edge_of word_start).0 ++ s))))) t (ap tail (ap tail (sym e))) refl g)
one_look k word_start no_edge s t f g e = absurd (apart_texts (codes "\\b{start}") (codes "\\B") s t refl e)
one_look k word_start word_start s t f g e = (refl, same_behind (codes "\\b{start}") s t e)
one_look k word_start word_end s t f g e = absurd (apart_texts (codes "\\b{start}") (codes "\\b{end}") s t refl e)
one_look k word_start half_start s t f g e = absurd (apart_texts (codes "\\b{start}") (codes "\\b{start-half}") s t refl e)
one_look k word_start half_end s t f g e = absurd (apart_texts (codes "\\b{start}") (codes "\\b{end-half}") s t refl e)
one_look k word_start left s t f g e = absurd (apart_texts (codes "\\b{start}") (codes "\\<") s t refl e)
one_look k word_start right s t f g e = absurd (apart_texts (codes "\\b{start}") (codes "\\>") s t refl e)
one_look k word_end text_start s t f g e = absurd (apart_texts (codes "\\b{end}") (codes "\\A") s t refl e)
one_look k word_end text_end s t f g e = absurd (apart_texts (codes "\\b{end}") (codes "\\z") s t refl e)
one_look k word_end edge s t f g e = absurd (no_word 101 (tail (tail (tail (tail ((edge_of word_end).0 ++ s))))) t (ap tail (ap tail (sym e))) refl g)
one_look k word_end no_edge s t f g e = absurd (apart_texts (codes "\\b{end}") (codes "\\B") s t refl e)
one_look k word_end word_start s t f g e = absurd (apart_texts (codes "\\b{end}") (codes "\\b{start}") s t refl e)
one_look k word_end word_end s t f g e = (refl, same_behind (codes "\\b{end}") s t e)
one_look k word_end half_start s t f g e = absurd (apart_texts (codes "\\b{end}") (codes "\\b{start-half}") s t refl e)
one_look k word_end half_end s t f g e = absurd (apart_texts (codes "\\b{end}") (codes "\\b{end-half}") s t refl e)
one_look k word_end left s t f g e = absurd (apart_texts (codes "\\b{end}") (codes "\\<") s t refl e)
one_look k word_end right s t f g e = absurd (apart_texts (codes "\\b{end}") (codes "\\>") s t refl e)
one_look k half_start text_start s t f g e = absurd (apart_texts (codes "\\b{start-half}") (codes "\\A") s t refl e)
one_look k half_start text_end s t f g e = absurd (apart_texts (codes "\\b{start-half}") (codes "\\z") s t refl e)
one_look k half_start edge s t f g e = absurd (no_word 115 (tail (tail (tail (tail ((edge_of half_start).0 ++ s))))) t (ap tail (ap tail (sym e))) refl g)
one_look k half_start no_edge s t f g e = absurd (apart_texts (codes "\\b{start-half}") (codes "\\B") s t refl e)
one_look k half_start word_start s t f g e = absurd (apart_texts (codes "\\b{start-half}") (codes "\\b{start}") s t refl e)
one_look k half_start word_end s t f g e = absurd (apart_texts (codes "\\b{start-half}") (codes "\\b{end}") s t refl e)
one_look k half_start half_start s t f g e = (refl, same_behind (codes "\\b{start-half}") s t e)
one_look k half_start half_end s t f g e = absurd (apart_texts (codes "\\b{start-half}") (codes "\\b{end-half}") s t refl e)
one_look k half_start left s t f g e = absurd (apart_texts (codes "\\b{start-half}") (codes "\\<") s t refl e)
one_look k half_start right s t f g e = absurd (apart_texts (codes "\\b{start-half}") (codes "\\>") s t refl e)
one_look k half_end text_start s t f g e = absurd (apart_texts (codes "\\b{end-half}") (codes "\\A") s t refl e)
one_look k half_end text_end s t f g e = absurd (apart_texts (codes "\\b{end-half}") (codes "\\z") s t refl e)
one_look k half_end edge s t f g e = absurd (no_word 101 (tail (tail (tail (tail ((edge_of half_end).0 ++ s))))) t (ap tail (ap tail (sym e))) refl g)
one_look k half_end no_edge s t f g e = absurd (apart_texts (codes "\\b{end-half}") (codes "\\B") s t refl e)
one_look k half_end word_start s t f g e = absurd (apart_texts (codes "\\b{end-half}") (codes "\\b{start}") s t refl e)
one_look k half_end word_end s t f g e = absurd (apart_texts (codes "\\b{end-half}") (codes "\\b{end}") s t refl e)
one_look k half_end half_start s t f g e = absurd (apart_texts (codes "\\b{end-half}") (codes "\\b{start-half}") s t refl e)
one_look k half_end half_end s t f g e = (refl, same_behind (codes "\\b{end-half}") s t e)
one_look k half_end left s t f g e = absurd (apart_texts (codes "\\b{end-half}") (codes "\\<") s t refl e)
one_look k half_end right s t f g e = absurd (apart_texts (codes "\\b{end-half}") (codes "\\>") s t refl e)
one_look k left text_start s t f g e = absurd (apart_texts (codes "\\<") (codes "\\A") s t refl e)
one_look k left text_end s t f g e = absurd (apart_texts (codes "\\<") (codes "\\z") s t refl e)
one_look k left edge s t f g e = absurd (apart_texts (codes "\\<") (codes "\\b") s t refl e)
one_look k left no_edge s t f g e = absurd (apart_texts (codes "\\<") (codes "\\B") s t refl e)
one_look k left word_start s t f g e = absurd (apart_texts (codes "\\<") (codes "\\b{start}") s t refl e)
one_look k left word_end s t f g e = absurd (apart_texts (codes "\\<") (codes "\\b{end}") s t refl e)
one_look k left half_start s t f g e = absurd (apart_texts (codes "\\<") (codes "\\b{start-half}") s t refl e)
one_look k left half_end s t f g e = absurd (apart_texts (codes "\\<") (codes "\\b{end-half}") s t refl e)
one_look k left left s t f g e = (refl, same_behind (codes "\\<") s t e)
one_look k left right s t f g e = absurd (apart_texts (codes "\\<") (codes "\\>") s t refl e)
one_look k right text_start s t f g e = absurd (apart_texts (codes "\\>") (codes "\\A") s t refl e)
one_look k right text_end s t f g e = absurd (apart_texts (codes "\\>") (codes "\\z") s t refl e)
one_look k right edge s t f g e = absurd (apart_texts (codes "\\>") (codes "\\b") s t refl e)
one_look k right no_edge s t f g e = absurd (apart_texts (codes "\\>") (codes "\\B") s t refl e)
one_look k right word_start s t f g e = absurd (apart_texts (codes "\\>") (codes "\\b{start}") s t refl e)
one_look k right word_end s t f g e = absurd (apart_texts (codes "\\>") (codes "\\b{end}") s t refl e)
one_look k right half_start s t f g e = absurd (apart_texts (codes "\\>") (codes "\\b{start-half}") s t refl e)
one_look k right half_end s t f g e = absurd (apart_texts (codes "\\>") (codes "\\b{end-half}") s t refl e)
one_look k right left s t f g e = absurd (apart_texts (codes "\\>") (codes "\\<") s t refl e)
one_look k right right s t f g e = (refl, same_behind (codes "\\>") s t e)

abbrev look_letters : List ℕ
look_letters = codes "AzbB<>"

look_letter : (x : Edge) (t : List ℕ) → has (head (tail ((edge_of x).0 ++ t))) look_letters ≡ true
look_letter text_start t = refl
look_letter text_end t = refl
look_letter edge t = refl
look_letter no_edge t = refl
look_letter word_start t = refl
look_letter word_end t = refl
look_letter half_start t = refl
look_letter half_end t = refl
look_letter left t = refl
look_letter right t = refl

-- no escape begins with the letter of a look
no_look_letter : (kind : LetterKind) → list_all (λ d. not (test_of kind d)) look_letters ≡ true
no_look_letter escapable = refl
no_look_letter controls = refl
no_look_letter code = refl
no_look_letter octals = refl
no_look_letter perls = refl
no_look_letter categories = refl

escape_or_look : (k : Flags) (a : Atom) (x : Edge) (s t : List ℕ) → IsEscape a → FineAtom k a s → write_atom a s ≡ (edge_of x).0 ++ t → ⊥
escape_or_look k a x s t esc f e =
    let letter : head (tail ((edge_of x).0 ++ t)) ≡ letter_of a = ap (λ w. head (tail w)) (sym e) ∙ letter_stands k a s esc f in
    clash (test_of (kind_of a)) look_letters (letter_of a) (no_look_letter (kind_of a)) (subst (λ c. has c look_letters ≡ true) letter (look_letter x t)) (letter_is k a s esc f)

-- ---- single items

pub alone_stands : (k : Flags) (a : Atom) (t : List ℕ) → FineAlone k a t → Stands k a t
alone_stands k (character c) t f = inl (c, (refl, not_among c 92 (codes "\\.+*?()|[{^$") refl (no_or_left (is_special c) (is_blank_start k c) f)))
alone_stands k (escaped c) t f = inr (tt, f)
alone_stands k (control c) t f = inr (tt, f)
alone_stands k (coded c ds) t f = inr (tt, f)
alone_stands k (braced c bs ds cs) t f = inr (tt, f)
alone_stands k (octal ds) t f = inr (tt, f)
alone_stands k (perl c) t f = inr (tt, f)
alone_stands k (category c bs d) t f = inr (tt, f)
alone_stands k (category_braced c bs ds cs) t f = inr (tt, f)

edge_first : (x : Edge) (t : List ℕ) → head ((edge_of x).0 ++ t) ≡ 92
edge_first text_start t = refl
edge_first text_end t = refl
edge_first edge t = refl
edge_first no_edge t = refl
edge_first word_start t = refl
edge_first word_end t = refl
edge_first half_start t = refl
edge_first half_end t = refl
edge_first left t = refl
edge_first right t = refl

atom_or_look : (k : Flags) (a : Atom) (x : Edge) (s t : List ℕ) → Stands k a s → write_atom a s ≡ (edge_of x).0 ++ t → ⊥
atom_or_look k a x s t (inl (c, (e, n))) h = n (ap head (ap (λ a. write_atom a s) (sym e) ∙ h) ∙ edge_first x t)
atom_or_look k a x s t (inr (esc, f)) h = escape_or_look k a x s t esc f h

-- by its first character a text is of one kind: these begin something, and all others are characters
abbrev pub kind_at : ℕ → ℕ
kind_at c =
    if c == 92 then 1 else if c == 46 then 2 else if c == 94 then 3 else if c == 36 then 4 else if c == 91 then 5 else
    if c == 124 then 6 else if c == 40 then 7 else if c == 41 then 8 else 0

skip_by : (c d x y : ℕ) (b : Bool) → (c == d) ≡ b → is_special c ≡ false → is_special d ≡ true → (if b then x else y) ≡ y
skip_by c d x y true e none some = absurd (true≢false (sym some ∙ ap is_special (sym (eqb-true c d e)) ∙ none))
skip_by c d x y false e none some = refl

skip : (c d x y : ℕ) → is_special c ≡ false → is_special d ≡ true → (if c == d then x else y) ≡ y
skip c d x y none some = skip_by c d x y (c == d) refl none some

pub plain_kind : (c : ℕ) → is_special c ≡ false → kind_at c ≡ 0
plain_kind c none =
    skip c 92 1 _ none refl ∙ skip c 46 2 _ none refl ∙ skip c 94 3 _ none refl ∙ skip c 36 4 _ none refl
    ∙ skip c 91 5 _ none refl ∙ skip c 124 6 _ none refl ∙ skip c 40 7 _ none refl ∙ skip c 41 8 0 none refl

abbrev pub atom_kind : Atom → ℕ
atom_kind (character c) = 0
atom_kind a = 1

abbrev pub single_kind : Single → ℕ
single_kind (atom a) = atom_kind a
single_kind dot = 2
single_kind caret = 3
single_kind dollar = 4
single_kind (look x) = 1
single_kind (class h p) = 5

pub single_begins : (k : Flags) (x : Single) (t : List ℕ) → FineSingle k x t → kind_at (head (write_single x t)) ≡ single_kind x
single_begins k (atom (character c)) t f = plain_kind c (no_or_left (is_special c) (is_blank_start k c) f)
single_begins k (atom (escaped c)) t f = refl
single_begins k (atom (control c)) t f = refl
single_begins k (atom (coded c ds)) t f = refl
single_begins k (atom (braced c bs ds cs)) t f = refl
single_begins k (atom (octal ds)) t f = refl
single_begins k (atom (perl c)) t f = refl
single_begins k (atom (category c bs d)) t f = refl
single_begins k (atom (category_braced c bs ds cs)) t f = refl
single_begins k dot t f = refl
single_begins k caret t f = refl
single_begins k dollar t f = refl
single_begins k (look text_start) t f = refl
single_begins k (look text_end) t f = refl
single_begins k (look edge) t f = refl
single_begins k (look no_edge) t f = refl
single_begins k (look word_start) t f = refl
single_begins k (look word_end) t f = refl
single_begins k (look half_start) t f = refl
single_begins k (look half_end) t f = refl
single_begins k (look left) t f = refl
single_begins k (look right) t f = refl
single_begins k (class h p) t f = refl

low_kind : (a : Atom) (n : ℕ) → nat_lt 1 n ≡ true → atom_kind a ≡ n → ⊥
low_kind (character c) n h e = true≢false (sym h ∙ ap (nat_lt 1) (sym e))
low_kind (escaped c) n h e = true≢false (sym h ∙ ap (nat_lt 1) (sym e))
low_kind (control c) n h e = true≢false (sym h ∙ ap (nat_lt 1) (sym e))
low_kind (coded c ds) n h e = true≢false (sym h ∙ ap (nat_lt 1) (sym e))
low_kind (braced c bs ds cs) n h e = true≢false (sym h ∙ ap (nat_lt 1) (sym e))
low_kind (octal ds) n h e = true≢false (sym h ∙ ap (nat_lt 1) (sym e))
low_kind (perl c) n h e = true≢false (sym h ∙ ap (nat_lt 1) (sym e))
low_kind (category c bs d) n h e = true≢false (sym h ∙ ap (nat_lt 1) (sym e))
low_kind (category_braced c bs ds cs) n h e = true≢false (sym h ∙ ap (nat_lt 1) (sym e))

single_by : (k : Flags) (x y : Single) (s t : List ℕ) → FineSingle k x s → FineSingle k y t → write_single x s ≡ write_single y t → single_kind x ≡ single_kind y → (x ≡ y) × (s ≡ t)
single_by k (atom a) (atom b) s t f z e n = let same = one_standing k a b s t (alone_stands k a s f) (alone_stands k b t z) e in (ap atom same.0, same.1)
single_by k (atom a) dot s t f z e n = absurd (low_kind a 2 refl n)
single_by k (atom a) caret s t f z e n = absurd (low_kind a 3 refl n)
single_by k (atom a) dollar s t f z e n = absurd (low_kind a 4 refl n)
single_by k (atom a) (look y) s t f z e n = absurd (atom_or_look k a y s t (alone_stands k a s f) e)
single_by k (atom a) (class g q) s t f z e n = absurd (low_kind a 5 refl n)
single_by k dot (atom b) s t f z e n = absurd (low_kind b 2 refl (sym n))
single_by k dot dot s t f z e n = (refl, ap tail e)
single_by k dot caret s t f z e n = absurd (apart 2 3 refl n)
single_by k dot dollar s t f z e n = absurd (apart 2 4 refl n)
single_by k dot (look y) s t f z e n = absurd (apart 2 1 refl n)
single_by k dot (class g q) s t f z e n = absurd (apart 2 5 refl n)
single_by k caret (atom b) s t f z e n = absurd (low_kind b 3 refl (sym n))
single_by k caret dot s t f z e n = absurd (apart 3 2 refl n)
single_by k caret caret s t f z e n = (refl, ap tail e)
single_by k caret dollar s t f z e n = absurd (apart 3 4 refl n)
single_by k caret (look y) s t f z e n = absurd (apart 3 1 refl n)
single_by k caret (class g q) s t f z e n = absurd (apart 3 5 refl n)
single_by k dollar (atom b) s t f z e n = absurd (low_kind b 4 refl (sym n))
single_by k dollar dot s t f z e n = absurd (apart 4 2 refl n)
single_by k dollar caret s t f z e n = absurd (apart 4 3 refl n)
single_by k dollar dollar s t f z e n = (refl, ap tail e)
single_by k dollar (look y) s t f z e n = absurd (apart 4 1 refl n)
single_by k dollar (class g q) s t f z e n = absurd (apart 4 5 refl n)
single_by k (look x) (atom b) s t f z e n = absurd (atom_or_look k b x t s (alone_stands k b t z) (sym e))
single_by k (look x) dot s t f z e n = absurd (apart 1 2 refl n)
single_by k (look x) caret s t f z e n = absurd (apart 1 3 refl n)
single_by k (look x) dollar s t f z e n = absurd (apart 1 4 refl n)
single_by k (look x) (look y) s t f z e n = let same = one_look k x y s t f z e in (ap look same.0, same.1)
single_by k (look x) (class g q) s t f z e n = absurd (apart 1 5 refl n)
single_by k (class h p) (atom b) s t f z e n = absurd (low_kind b 5 refl (sym n))
single_by k (class h p) dot s t f z e n = absurd (apart 5 2 refl n)
single_by k (class h p) caret s t f z e n = absurd (apart 5 3 refl n)
single_by k (class h p) dollar s t f z e n = absurd (apart 5 4 refl n)
single_by k (class h p) (look y) s t f z e n = absurd (apart 5 1 refl n)
single_by k (class h p) (class g q) s t f z e n =
    let same = one_class k h g p q s t e f.0 f.1 z.0 z.1 in (ap (λ h. class h p) same.0 ∙ ap (class g) same.1, same.2)

pub one_single : (k : Flags) (x y : Single) (s t : List ℕ) → write_single x s ≡ write_single y t → FineSingle k x s → FineSingle k y t → (x ≡ y) × (s ≡ t)
one_single k x y s t e f g = single_by k x y s t f g e (sym (single_begins k x s f) ∙ ap (λ w. kind_at (head w)) e ∙ single_begins k y t g)

-- ---- tokens

abbrev pub token_kind : Token → ℕ
token_kind bar = 6
token_kind (set bs l) = 7
token_kind (item x) = single_kind x
token_kind (opens m) = 7
token_kind closes = 8

opens_begins : (m : Kind) (t : List ℕ) → kind_at (head (write_token (opens m) t)) ≡ 7
opens_begins numbered t = refl
opens_begins (named bs p name) t = refl
opens_begins (flagged bs l) t = refl

token_begins : (k : Flags) (a : Token) (t : List ℕ) → FineToken k a t → kind_at (head (write_token a t)) ≡ token_kind a
token_begins k bar t f = refl
token_begins k (set bs l) t f = refl
token_begins k (item x) t f = single_begins k x t f
token_begins k (opens m) t f = opens_begins m t
token_begins k closes t f = refl

pub single_low : (x : Single) (n : ℕ) → nat_lt 5 n ≡ true → single_kind x ≡ n → ⊥
single_low (atom (character c)) n h e = true≢false (sym h ∙ ap (nat_lt 5) (sym e))
single_low (atom (escaped c)) n h e = true≢false (sym h ∙ ap (nat_lt 5) (sym e))
single_low (atom (control c)) n h e = true≢false (sym h ∙ ap (nat_lt 5) (sym e))
single_low (atom (coded c ds)) n h e = true≢false (sym h ∙ ap (nat_lt 5) (sym e))
single_low (atom (braced c bs ds cs)) n h e = true≢false (sym h ∙ ap (nat_lt 5) (sym e))
single_low (atom (octal ds)) n h e = true≢false (sym h ∙ ap (nat_lt 5) (sym e))
single_low (atom (perl c)) n h e = true≢false (sym h ∙ ap (nat_lt 5) (sym e))
single_low (atom (category c bs d)) n h e = true≢false (sym h ∙ ap (nat_lt 5) (sym e))
single_low (atom (category_braced c bs ds cs)) n h e = true≢false (sym h ∙ ap (nat_lt 5) (sym e))
single_low dot n h e = true≢false (sym h ∙ ap (nat_lt 5) (sym e))
single_low caret n h e = true≢false (sym h ∙ ap (nat_lt 5) (sym e))
single_low dollar n h e = true≢false (sym h ∙ ap (nat_lt 5) (sym e))
single_low (look x) n h e = true≢false (sym h ∙ ap (nat_lt 5) (sym e))
single_low (class g p) n h e = true≢false (sym h ∙ ap (nat_lt 5) (sym e))

-- two tokens that open are one
abbrev pub OneOpening : Type 0
OneOpening = (k : Flags) (a b : Token) (s t : List ℕ) → OpensGroup a → OpensGroup b → write_token a s ≡ write_token b t → FineToken k a s → FineToken k b t → (a ≡ b) × (s ≡ t)

module _ (one_opening : OneOpening) where
  token_by : (k : Flags) (a b : Token) (s t : List ℕ) → write_token a s ≡ write_token b t → FineToken k a s → FineToken k b t → token_kind a ≡ token_kind b → (a ≡ b) × (s ≡ t)
  token_by k bar bar s t e f g i = (refl, ap tail e)
  token_by k bar (set cs j) s t e f g i = absurd (apart 6 7 refl i)
  token_by k bar (item y) s t e f g i = absurd (single_low y 6 refl (sym i))
  token_by k bar (opens n) s t e f g i = absurd (apart 6 7 refl i)
  token_by k bar closes s t e f g i = absurd (apart 6 8 refl i)
  token_by k (set bs l) bar s t e f g i = absurd (apart 7 6 refl i)
  token_by k (set bs l) (set cs j) s t e f g i = one_opening k (set bs l) (set cs j) s t tt tt e f g
  token_by k (set bs l) (item y) s t e f g i = absurd (single_low y 7 refl (sym i))
  token_by k (set bs l) (opens n) s t e f g i = one_opening k (set bs l) (opens n) s t tt tt e f g
  token_by k (set bs l) closes s t e f g i = absurd (apart 7 8 refl i)
  token_by k (item x) bar s t e f g i = absurd (single_low x 6 refl i)
  token_by k (item x) (set cs j) s t e f g i = absurd (single_low x 7 refl i)
  token_by k (item x) (item y) s t e f g i = let same = one_single k x y s t e f g in (ap item same.0, same.1)
  token_by k (item x) (opens n) s t e f g i = absurd (single_low x 7 refl i)
  token_by k (item x) closes s t e f g i = absurd (single_low x 8 refl i)
  token_by k (opens m) bar s t e f g i = absurd (apart 7 6 refl i)
  token_by k (opens m) (set cs j) s t e f g i = one_opening k (opens m) (set cs j) s t tt tt e f g
  token_by k (opens m) (item y) s t e f g i = absurd (single_low y 7 refl (sym i))
  token_by k (opens m) (opens n) s t e f g i = one_opening k (opens m) (opens n) s t tt tt e f g
  token_by k (opens m) closes s t e f g i = absurd (apart 7 8 refl i)
  token_by k closes bar s t e f g i = absurd (apart 8 6 refl i)
  token_by k closes (set cs j) s t e f g i = absurd (apart 8 7 refl i)
  token_by k closes (item y) s t e f g i = absurd (single_low y 8 refl (sym i))
  token_by k closes (opens n) s t e f g i = absurd (apart 8 7 refl i)
  token_by k closes closes s t e f g i = (refl, ap tail e)

  pub one_token : (k : Flags) (a b : Token) (s t : List ℕ) → write_token a s ≡ write_token b t → FineToken k a s → FineToken k b t → (a ≡ b) × (s ≡ t)
  one_token k a b s t e f g = token_by k a b s t e f g (sym (token_begins k a s f) ∙ ap (λ w. kind_at (head w)) e ∙ token_begins k b t g)
