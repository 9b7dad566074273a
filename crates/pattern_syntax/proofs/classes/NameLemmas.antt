-- How names of sets are written.
use Rattle.std.specs.Char.{is_ascii_lowercase}
use Rattle.std.specs.Prelude.{is_some}
use Rattle.std.proofs.Common.{◌≡◌, ℕ, Bool, true, false, ◌&&◌, ◌||◌, ◌⊎◌, inl, inr, ⊎_elim, if◌then◌else◌, List, [], ◌∷◌, ◌++◌, codes, drop, length, Option, Some, append_assoc, refl, sym, ap, ap₂, ◌∙◌, subst, true≢false, nat_eq}
use Rattle.std.specs.List.{list_any, starts_with, list_all}
use Rattle.std.proofs.lemmas.Bool.{and_parts, and_from, or_cases}
use Rattle.std.proofs.lemmas.Bool.Decides.{Decides-eqb}
use Rattle.std.proofs.lemmas.List.{append-nil}
use Rattle.std.proofs.lemmas.Slice.Eq.{starts_is}
use Rattle.pattern_syntax.specs.Sets.{Set, ascii_names, same_text, value_of}
use Rattle.pattern_syntax.specs.Class.{write_name, begins_name}
use Rattle.pattern_syntax.specs.ClassReading.{open_name, after_letters}
use Rattle.pattern_syntax.proofs.BlanksLemmas.{head, tail, apart}

abbrev Rows : Type 0
Rows = List (List ℕ × Set)

prefix : (w p : List ℕ) → starts_with nat_eq w p ≡ true → w ≡ p ++ drop (length p) w
prefix w p h = (starts_is Decides-eqb w p (starts_with nat_eq w p) refl).0 h

has_prefix : (w p t : List ℕ) → w ≡ p ++ t → starts_with nat_eq w p ≡ true
has_prefix w p t e = (starts_is Decides-eqb w p (starts_with nat_eq w p) refl).1 t e

same_text_refl : (a : List ℕ) → same_text a a ≡ true
same_text_refl a = let h = has_prefix a a [] (sym (append-nil a)) in and_from (starts_with nat_eq a a) (starts_with nat_eq a a) h h

nothing_behind : (a b s t : List ℕ) → a ≡ b ++ s → b ≡ a ++ t → a ≡ b
nothing_behind [] [] s t e f = refl
nothing_behind [] (d ∷ b) s t e f = cc
nothing_behind (c ∷ a) [] s t e f = cc
nothing_behind (c ∷ a) (d ∷ b) s t e f = ap₂ (λ c a. c ∷ a) (ap head e) (nothing_behind a b s t (ap tail e) (ap tail f))

same_text_true : (a b : List ℕ) → same_text a b ≡ true → a ≡ b
same_text_true a b h =
    let parts = and_parts (starts_with nat_eq a b) (starts_with nat_eq b a) h in
    nothing_behind a b (drop (length b) a) (drop (length a) b) (prefix a b parts.0) (prefix b a parts.1)

-- ---- names are small letters

abbrev rows_small : Rows → Bool
rows_small [] = true
rows_small (row ∷ rows) = list_all is_ascii_lowercase row.0 && rows_small rows

names_small : rows_small ascii_names ≡ true
names_small = refl

small_by : (row : List ℕ × Set) (rows : Rows) (name : List ℕ) (b : Bool) → same_text row.0 name ≡ b → list_all is_ascii_lowercase row.0 ≡ true
    → (is_some (value_of rows name) ≡ true → list_all is_ascii_lowercase name ≡ true) → is_some (if b then Some row.1 else value_of rows name) ≡ true
    → list_all is_ascii_lowercase name ≡ true
small_by row rows name true e small more h = subst (λ n. list_all is_ascii_lowercase n ≡ true) (same_text_true row.0 name e) small
small_by row rows name false e small more h = more h

small_in : (rows : Rows) (name : List ℕ) → rows_small rows ≡ true → is_some (value_of rows name) ≡ true → list_all is_ascii_lowercase name ≡ true
small_in [] name s h = absurd (true≢false (sym h))
small_in (row ∷ rows) name s h =
    let parts = and_parts (list_all is_ascii_lowercase row.0) (rows_small rows) s in
    small_by row rows name (same_text row.0 name) refl parts.0 (small_in rows name parts.1) h

pub name_small : (name : List ℕ) → is_some (value_of ascii_names name) ≡ true → list_all is_ascii_lowercase name ≡ true
name_small name h = small_in ascii_names name names_small h

-- ---- how a name is written

pub written_name : (negated : Bool) (name t : List ℕ) → write_name negated name t ≡ open_name negated (name ++ (58 ∷ 93 ∷ t))
written_name true name t = ap (λ w. 91 ∷ 58 ∷ 94 ∷ w) (append_assoc name (58 ∷ 93 ∷ []) t)
written_name false name t = ap (λ w. 91 ∷ 58 ∷ w) (append_assoc name (58 ∷ 93 ∷ []) t)

name_then : (negated : Bool) (name t : List ℕ) → write_name negated name t ≡ write_name negated name [] ++ t
name_then true name t = ap (λ w. w ++ t) (sym (append-nil (codes "[:^" ++ name ++ codes ":]")))
name_then false name t = ap (λ w. w ++ t) (sym (append-nil (codes "[:" ++ name ++ codes ":]")))

-- ---- a text that begins with a name

abbrev begins_row : List ℕ → List ℕ × Set → Bool
begins_row w row = starts_with nat_eq w (write_name false row.0 []) || starts_with nat_eq w (write_name true row.0 [])

abbrev NamedBy : Rows → List ℕ → Type 0
NamedBy rows w = (negated : Bool) × (name : List ℕ) × (t : List ℕ) × (w ≡ write_name negated name t) × (is_some (value_of rows name) ≡ true)

row_named : (row : List ℕ × Set) (w : List ℕ) → begins_row w row ≡ true → (negated : Bool) × (t : List ℕ) × (w ≡ write_name negated row.0 t)
row_named row w h =
    ⊎_elim
    (λ plain. (false, drop (length (write_name false row.0 [])) w, prefix w (write_name false row.0 []) plain ∙ sym (name_then false row.0 _)))
    (λ negated. (true, drop (length (write_name true row.0 [])) w, prefix w (write_name true row.0 []) negated ∙ sym (name_then true row.0 _)))
    (or_cases (starts_with nat_eq w (write_name false row.0 [])) (starts_with nat_eq w (write_name true row.0 [])) h)

known_by : (a : Set) (b : Bool) (found : Option Set) → (b ≡ true) ⊎ (is_some found ≡ true) → is_some (if b then Some a else found) ≡ true
known_by a true found h = refl
known_by a false found (inl h) = absurd (true≢false (sym h))
known_by a false found (inr h) = h

named_in : (rows : Rows) (w : List ℕ) → list_any (begins_row w) rows ≡ true → NamedBy rows w
named_in [] w h = absurd (true≢false (sym h))
named_in (row ∷ rows) w h =
    ⊎_elim
    (λ here. let found = row_named row w here in
    (found.0, row.0, found.1, found.2, known_by row.1 (same_text row.0 row.0) (value_of rows row.0) (inl (same_text_refl row.0))))
    (λ later. let found = named_in rows w later in
    (found.0, found.1, found.2, found.3, known_by row.1 (same_text row.0 found.1) (value_of rows found.1) (inr found.4)))
    (or_cases (begins_row w row) (list_any (begins_row w) rows) h)

-- there is a name
pub named_there : (w : List ℕ) → begins_name w ≡ true → NamedBy ascii_names w
named_there w h = named_in ascii_names w h

-- ---- there is one

colon_ends : (c : ℕ) (b : Bool) (t u : List ℕ) → is_ascii_lowercase c ≡ b → b ≡ true → after_letters t ≡ u → after_letters (c ∷ t) ≡ u
colon_ends c true t u e f more = ap (λ b. if b then after_letters t else c ∷ t) e ∙ more
colon_ends c false t u e f more = absurd (true≢false (sym f))

-- behind its letters a name has a colon
pub behind_name : (name t : List ℕ) → list_all is_ascii_lowercase name ≡ true → after_letters (name ++ (58 ∷ t)) ≡ 58 ∷ t
behind_name [] t h = refl
behind_name (c ∷ name) t h =
    let parts = and_parts (is_ascii_lowercase c) (list_all is_ascii_lowercase name) h in
    colon_ends c (is_ascii_lowercase c) (name ++ (58 ∷ t)) (58 ∷ t) refl parts.0 (behind_name name t parts.1)

-- no name has a `^` for its first letter
no_caret : (name t u : List ℕ) → list_all is_ascii_lowercase name ≡ true → name ++ (58 ∷ t) ≡ 94 ∷ u → ⊥
no_caret [] t u h e = apart 58 94 refl (ap head e)
no_caret (c ∷ name) t u h e =
    let parts = and_parts (is_ascii_lowercase c) (list_all is_ascii_lowercase name) h in
    true≢false (sym parts.0 ∙ ap is_ascii_lowercase (ap head e))

pub caret_after : (name t : List ℕ) (u : List ℕ) → list_all is_ascii_lowercase name ≡ true → name ++ (58 ∷ t) ≡ 94 ∷ u → ⊥
caret_after name t u h e = no_caret name t u h e
