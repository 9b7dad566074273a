-- An escaped text is read as itself.
use Rattle.std.proofs.Common.{◌≡◌, ℕ, Bool, true, false, ◌&&◌, ◌||◌, ◌==◌, ◌⊎◌, inl, inr, ⊎_elim, List, [], ◌∷◌, ◌++◌, codes, encode_utf8, Some, if◌then◌else◌, refl, sym, ap, ap₂, ◌∙◌, subst, eqb-true, true≢false, ◌≤◌, lit≤}
use Rattle.std.proofs.lemmas.Bool.{and_parts, or_cases}
use Rattle.std.proofs.lemmas.Grind.{flat_map-append}
use Rattle.pattern_syntax.specs.declared.flags.Flags.{Flags}
use Rattle.pattern_syntax.specs.Flags.{has}
use Rattle.unicode.specs.Binary.{is_white_space}
use Rattle.pattern_syntax.specs.Sets.{closed, folds_with_another}
use Rattle.pattern_syntax.specs.Atom.{Atom, character, escaped, is_escapable, write_atom}
use Rattle.pattern_syntax.specs.Syntax.{Syntax, end, single, atom, write, Fine, is_special}
use Rattle.pattern_syntax.specs.SetTree.{SetTree, literal, trees}
use Rattle.pattern_syntax.specs.Reads.{Row, Found, Reads, found_of, branches, single_part, class_tree, joined as joined_rows, sequence, at_depth, put, names_of}
use Rattle.pattern_core.specs.Escape.{is_meta, escaped_char, escaped_text, encoded, joined, joined_all, text_of, texts_of, EscapedIsReadAsItself}
use Rattle.std.specs.List.{list_all}

-- a test that all members pass
pub has_all : (p : ℕ → Bool) (cs : List ℕ) (c : ℕ) → list_all p cs ≡ true → has c cs ≡ true → p c ≡ true
has_all p [] c every h = cc
has_all p (d ∷ cs) c every h =
    let parts = and_parts (p d) (list_all p cs) every in
    ⊎_elim (λ same. subst (λ z. p z ≡ true) (eqb-true d c same) parts.0) (has_all p cs c parts.1) (or_cases (d == c) (has c cs) h)

meta_escapable : (c : ℕ) → is_meta c ≡ true → is_escapable c ≡ true
meta_escapable c h = has_all is_escapable (codes "\\.+*?()|[]{}^$#&-~") c refl h

special_meta : (c : ℕ) → is_special c ≡ true → is_meta c ≡ true
special_meta c h = has_all is_meta (codes "\\.+*?()|[{^$") c refl h

true_or_false : (b : Bool) → (b ≡ true) ⊎ (b ≡ false)
true_or_false true = inl refl
true_or_false false = inr refl

plain_char : (c : ℕ) → is_meta c ≡ false → is_special c ≡ false
plain_char c h = ⊎_elim (λ e. absurd (true≢false (sym (special_meta c e) ∙ h))) (λ e. e) (true_or_false (is_special c))

-- the atom of a character, with a `\` or without
abbrev atom_of : ℕ → Bool → Atom
atom_of c true = escaped c
atom_of c false = character c

abbrev syntax_of : List ℕ → Syntax
syntax_of [] = end
syntax_of (c ∷ cs) = single (atom (atom_of c (is_meta c))) [] (syntax_of cs)

or_false : (a b : Bool) → a ≡ false → b ≡ false → (a || b) ≡ false
or_false a b e f = ap₂ ◌||◌ e f

append_nil : (xs : List ℕ) → xs ++ [] ≡ xs
append_nil [] = refl
append_nil (x ∷ xs) = ap (λ ys. x ∷ ys) (append_nil xs)

abbrev literals : List ℕ → List SetTree
literals [] = []
literals (c ∷ cs) = literal (encode_utf8 c) ∷ literals cs

abbrev row : List ℕ → Row
row cs = record { trees = literals cs; depth = 0 }

texts_joined : (cs : List ℕ) → joined_all (texts_of (trees (literals cs))) ≡ Some (encoded cs)
texts_joined [] = refl
texts_joined (c ∷ cs) = ap (joined (Some (encode_utf8 c))) (texts_joined cs)

sequence_text : (cs : List ℕ) → text_of (sequence (row cs)).tree ≡ Some (encoded cs)
sequence_text [] = refl
sequence_text (c ∷ []) = ap (λ xs. Some xs) (sym (append_nil (encode_utf8 c)))
sequence_text (c ∷ d ∷ cs) = texts_joined (c ∷ d ∷ cs)

-- several characters are one sequence, and one or none nests nowhere
sequence_depth : (cs : List ℕ) → (joined_rows (row cs ∷ [])).depth ≤ 1
sequence_depth [] = lit≤ tt
sequence_depth (c ∷ []) = lit≤ tt
sequence_depth (c ∷ d ∷ cs) = lit≤ tt

no_names : (cs : List ℕ) → names_of (syntax_of cs) ≡ []
no_names [] = refl
no_names (c ∷ cs) = no_names cs

module _ (k : Flags) (counts : k.spaces ≡ false) (apart : k.folds ≡ false) where
  fine_first : (c : ℕ) (m : Bool) (cs : List ℕ) → is_meta c ≡ m → Fine k (syntax_of cs) [] → Fine k (single (atom (atom_of c m)) [] (syntax_of cs)) []
  fine_first c true cs e f = (meta_escapable c e, tt, f)
  fine_first c false cs e f = (or_false (is_special c) _ (plain_char c e) (ap (λ b. b && (is_white_space c || (c == 35))) counts), tt, f)

  fine : (cs : List ℕ) → Fine k (syntax_of cs) []
  fine [] = tt
  fine (c ∷ cs) = fine_first c (is_meta c) cs refl (fine cs)

  written_first : (c : ℕ) (m : Bool) (t u : List ℕ) → t ≡ u → (if m then codes "\\" ++ c ∷ [] else c ∷ []) ++ t ≡ write_atom (atom_of c m) u
  written_first c true t u e = ap (λ t. 92 ∷ c ∷ t) e
  written_first c false t u e = ap (λ t. c ∷ t) e

  written : (cs : List ℕ) → escaped_text cs ≡ write (syntax_of cs) []
  written [] = refl
  written (c ∷ cs) = written_first c (is_meta c) (escaped_text cs) (write (syntax_of cs) []) (written cs)

  single_plain : (c : ℕ) (m : Bool) → single_part k (atom (atom_of c m)) ≡ at_depth 0 (literal (encode_utf8 c))
  single_plain c true = ap (λ b. at_depth 0 (if b && folds_with_another k c then class_tree k (closed k (λ d. d == c)) else literal (encode_utf8 c))) apart
  single_plain c false = ap (λ b. at_depth 0 (if b && folds_with_another k c then class_tree k (closed k (λ d. d == c)) else literal (encode_utf8 c))) apart

  rows : (cs : List ℕ) → branches k 0 (syntax_of cs) ≡ row cs ∷ []
  rows [] = refl
  rows (c ∷ cs) = ap₂ put (single_plain c (is_meta c)) (rows cs)

  pub read : (cs : List ℕ) → (found : Found) × (Reads k (escaped_text cs) found × (text_of found.part.tree ≡ Some (encoded cs)) × (found.part.depth ≤ 1) × (found.names ≡ []))
  read cs = (
    found_of k (syntax_of cs),
    (
      record { syntax = syntax_of cs; fine = fine cs; written = written cs; read = refl },
      ap (λ bs. text_of (joined_rows bs).tree) (rows cs) ∙ sequence_text cs,
      subst (λ (bs : List Row). (joined_rows bs).depth ≤ 1) (sym (rows cs)) (sequence_depth cs),
      no_names cs,
    ),
  )

pub escaped_reads : EscapedIsReadAsItself
escaped_reads k text counts apart = read k counts apart text

-- one character more
pub one_more : (cs : List ℕ) (c : ℕ) → encoded (escaped_text (cs ++ c ∷ [])) ≡ encoded (escaped_text cs) ++ encoded (escaped_char c)
one_more cs c =
    ap encoded (flat_map-append escaped_char cs (c ∷ []) ∙ ap (λ ds. escaped_text cs ++ ds) (append_nil (escaped_char c)))
    ∙ flat_map-append encode_utf8 (escaped_text cs) (escaped_char c)
