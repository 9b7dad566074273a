-- Looks that are written with a `\`.
use Rattle.std.proofs.Common.{◌≡◌, ◌≤◌, ℕ, ◌+◌, ◌-◌, Bool, true, false, List, [], ◌∷◌, ◌++◌, codes, ◌==◌, nat_eq, if◌then◌else◌, length, length-drop, drop, take, Some, None, refl, sym, ap, ◌∙◌, true≢false, eqb-true, eq-eqb, arith}
use Rattle.std.specs.List.{starts_with}
use Rattle.std.proofs.lemmas.Bool.{and_parts, and_from}
use Rattle.std.proofs.Math.Seq.{take-length}
use Rattle.std.proofs.lemmas.List.{drop-drop}
use Rattle.hir_tree.specs.declared.look.Look.{Look}
use Rattle.pattern_syntax.specs.declared.flags.Flags.{Flags}
use Rattle.pattern_syntax.specs.Syntax.{Edge, text_start, text_end, edge, no_edge, word_start, word_end, half_start, half_end, left, right, FineLook, fine_edge, edge_of}
use Rattle.pattern_syntax.specs.Escapes.{IsEscapeLetter}
use Rattle.pattern_syntax.specs.Singles.{EdgeAt, IsNamedEdge, IsPlainEdge, IsShortEdge, short_edge, look_of}
use Rattle.pattern_syntax.proofs.BlanksLemmas.{head, tail}

-- ---- a text begins with another

starts_split : (xs p : List ℕ) → starts_with nat_eq xs p ≡ true → xs ≡ p ++ drop (length p) xs
starts_split [] [] h = refl
starts_split [] (d ∷ p) h = absurd (true≢false (sym h))
starts_split (c ∷ xs) [] h = refl
starts_split (c ∷ xs) (d ∷ p) h =
    let parts = and_parts (nat_eq d c) (starts_with nat_eq xs p) h in
    ap (λ z. z ∷ xs) (sym (eqb-true d c parts.0)) ∙ ap (λ z. d ∷ z) (starts_split xs p parts.1)

starts_own : (p t : List ℕ) → starts_with nat_eq (p ++ t) p ≡ true
starts_own [] t = refl
starts_own (d ∷ p) t = and_from (nat_eq d d) (starts_with nat_eq (p ++ t) p) (eq-eqb d d refl) (starts_own p t)

-- the rest of a text from a place
abbrev from_place : List ℕ → ℕ → List ℕ
from_place text at = take (length text - at) (drop at text)

whole : (text : List ℕ) (at : ℕ) → from_place text at ≡ drop at text
whole text at =
    let rest : length text - at ≡ length (drop at text) = omega (arith, length-drop {A = ℕ}) in ap (λ n. take n (drop at text)) rest ∙ take-length (drop at text)

pub stands_on : (text name : List ℕ) (at : ℕ) → starts_with nat_eq (from_place text at) name ≡ true → drop at text ≡ name ++ drop (at + length name) text
stands_on text name at h =
    starts_split (drop at text) name (ap (λ z. starts_with nat_eq z name) (sym (whole text at)) ∙ h) ∙ ap (λ z. name ++ z) (drop-drop (length name) at text)

pub stands_of : (text name t : List ℕ) (at : ℕ) → drop at text ≡ name ++ t → starts_with nat_eq (from_place text at) name ≡ true
stands_of text name t at e = ap (λ z. starts_with nat_eq z name) (whole text at ∙ e) ∙ starts_own name t

-- ---- the kinds of looks

behind_letter : (w v t : List ℕ) (letter l : ℕ) → w ≡ 92 ∷ letter ∷ v → w ≡ 92 ∷ l ∷ t → v ≡ t
behind_letter w v t letter l e q = ap (λ z. tail (tail z)) (sym e ∙ q)

letter_is : (w v t : List ℕ) (letter l : ℕ) → w ≡ 92 ∷ letter ∷ v → w ≡ 92 ∷ l ∷ t → letter ≡ l
letter_is w v t letter l e q = ap (λ z. head (tail z)) (sym e ∙ q)

pub named_at : (k : Flags) (text : List ℕ) (at letter place next : ℕ) (name : List ℕ) (e : Edge) (read : Look) → IsEscapeLetter text at letter → letter ≡ 98
    → place ≡ next → at + 2 ≤ place → place ≤ length text → drop (at + 2) text ≡ name ++ drop place text
    → ((t : List ℕ) → (edge_of e).0 ++ t ≡ 92 ∷ 98 ∷ (name ++ t)) → FineLook e (drop next text) → read ≡ (edge_of e).1 k.unicode → EdgeAt k text at read next
named_at k text at letter place next name e read here b same past within stands writes fine is = record {
  edge = e;
  goes_on = (omega arith, omega arith);
  written =
      here.1 ∙ ap (λ z. 92 ∷ z ∷ drop (at + 2) text) b ∙ ap (λ z. 92 ∷ 98 ∷ z) (stands ∙ ap (λ n. name ++ drop n text) same) ∙ sym (writes (drop next text));
  fine = fine;
  is = is;
}

abbrev pub NoEdge : (Edge → Type 0) → List ℕ → Type 0
NoEdge Kind w = (e : Edge) (t : List ℕ) → Kind e → w ≡ (edge_of e).0 ++ t → FineLook e t → ⊥

pub no_named : (letter : ℕ) (w v : List ℕ) → w ≡ 92 ∷ letter ∷ v → ((t : List ℕ) → v ≡ codes "{start}" ++ t → ⊥) → ((t : List ℕ) → v ≡ codes "{end}" ++ t → ⊥)
    → ((t : List ℕ) → v ≡ codes "{start-half}" ++ t → ⊥) → ((t : List ℕ) → v ≡ codes "{end-half}" ++ t → ⊥) → NoEdge IsNamedEdge w
no_named letter w v here a b c d word_start t i q f = a t (behind_letter w v (codes "{start}" ++ t) letter 98 here q)
no_named letter w v here a b c d word_end t i q f = b t (behind_letter w v (codes "{end}" ++ t) letter 98 here q)
no_named letter w v here a b c d half_start t i q f = c t (behind_letter w v (codes "{start-half}" ++ t) letter 98 here q)
no_named letter w v here a b c d half_end t i q f = d t (behind_letter w v (codes "{end-half}" ++ t) letter 98 here q)
no_named letter w v here a b c d _ t i q f = absurd i

-- another letter stands there
pub other_letter : (letter : ℕ) (w v : List ℕ) → w ≡ 92 ∷ letter ∷ v → (letter ≡ 98 → ⊥) → NoEdge IsNamedEdge w
other_letter letter w v here other word_start t i q f = other (letter_is w v (codes "{start}" ++ t) letter 98 here q)
other_letter letter w v here other word_end t i q f = other (letter_is w v (codes "{end}" ++ t) letter 98 here q)
other_letter letter w v here other half_start t i q f = other (letter_is w v (codes "{start-half}" ++ t) letter 98 here q)
other_letter letter w v here other half_end t i q f = other (letter_is w v (codes "{end-half}" ++ t) letter 98 here q)
other_letter letter w v here other _ t i q f = absurd i

pub plain_at : (k : Flags) (text : List ℕ) (at letter : ℕ) (read : Look) → IsEscapeLetter text at letter → letter ≡ 98 → fine_edge (drop (at + 2) text) ≡ true
    → read ≡ (edge_of edge).1 k.unicode → EdgeAt k text at read (at + 2)
plain_at k text at letter read here b fine is = record {
  edge = edge;
  goes_on = (omega arith, here.0);
  written = here.1 ∙ ap (λ z. 92 ∷ z ∷ drop (at + 2) text) b;
  fine = fine;
  is = is;
}

pub no_plain_edge : (letter : ℕ) (w v : List ℕ) → w ≡ 92 ∷ letter ∷ v → (letter ≡ 98 → fine_edge v ≡ true → ⊥) → NoEdge IsPlainEdge w
no_plain_edge letter w v here none edge t i q f = none (letter_is w v t letter 98 here q) (ap fine_edge (behind_letter w v t letter 98 here q) ∙ f)
no_plain_edge letter w v here none _ t i q f = absurd i

-- what a letter alone is
abbrev Short : Bool → ℕ → Look → Type 0
Short u letter read =
    (e : Edge) × ((t : List ℕ) → (edge_of e).0 ++ t ≡ 92 ∷ letter ∷ t) × ((t : List ℕ) → FineLook e t) × (read ≡ (edge_of e).1 u)

some_is : (a b : Look) → Some a ≡ Some b → b ≡ a
some_is a b e = cc

none_some : (b : Look) → None ≡ Some b → ⊥
none_some b e = cc

short_by : (u : Bool) (letter : ℕ) (read : Look) (a b c d e : Bool) → (letter == 65) ≡ a → (letter == 122) ≡ b → (letter == 66) ≡ c → (letter == 60) ≡ d
    → (letter == 62) ≡ e
    → look_of u (if a then Some text_start else if b then Some text_end else if c then Some no_edge else if d then Some left else if e then Some right else None)
    ≡ Some read
    → Short u letter read
short_by u letter read true b c d e p q r s v h = (text_start, (λ t. ap (λ z. 92 ∷ z ∷ t) (sym (eqb-true letter 65 p))), (λ t. tt), some_is ((edge_of text_start).1 u) read h)
short_by u letter read false true c d e p q r s v h = (text_end, (λ t. ap (λ z. 92 ∷ z ∷ t) (sym (eqb-true letter 122 q))), (λ t. tt), some_is ((edge_of text_end).1 u) read h)
short_by u letter read false false true d e p q r s v h = (no_edge, (λ t. ap (λ z. 92 ∷ z ∷ t) (sym (eqb-true letter 66 r))), (λ t. tt), some_is ((edge_of no_edge).1 u) read h)
short_by u letter read false false false true e p q r s v h = (left, (λ t. ap (λ z. 92 ∷ z ∷ t) (sym (eqb-true letter 60 s))), (λ t. tt), some_is ((edge_of left).1 u) read h)
short_by u letter read false false false false true p q r s v h = (right, (λ t. ap (λ z. 92 ∷ z ∷ t) (sym (eqb-true letter 62 v))), (λ t. tt), some_is ((edge_of right).1 u) read h)
short_by u letter read false false false false false p q r s v h = absurd (none_some read h)

pub short_at : (k : Flags) (text : List ℕ) (at letter : ℕ) (read : Look) → IsEscapeLetter text at letter → look_of k.unicode (short_edge letter) ≡ Some read
    → EdgeAt k text at read (at + 2)
short_at k text at letter read here h =
    let s = short_by k.unicode letter read (letter == 65) (letter == 122) (letter == 66) (letter == 60) (letter == 62) refl refl refl refl refl h in record {
      edge = s.0;
      goes_on = (omega arith, here.0);
      written = here.1 ∙ sym (s.1 (drop (at + 2) text));
      fine = s.2 (drop (at + 2) text);
      is = s.3;
    }

some_none : (a : Look) → Some a ≡ None → ⊥
some_none a e = cc

-- the letter is none of them
not_short : (u : Bool) (letter l : ℕ) → letter ≡ l → look_of u (short_edge letter) ≡ None → look_of u (short_edge l) ≡ None
not_short u letter l e h = ap (λ z. look_of u (short_edge z)) (sym e) ∙ h

pub no_short : (u : Bool) (letter : ℕ) (w v : List ℕ) → w ≡ 92 ∷ letter ∷ v → look_of u (short_edge letter) ≡ None → NoEdge IsShortEdge w
no_short u letter w v here h text_start t i q f = some_none ((edge_of text_start).1 u) (not_short u letter 65 (letter_is w v t letter 65 here q) h)
no_short u letter w v here h text_end t i q f = some_none ((edge_of text_end).1 u) (not_short u letter 122 (letter_is w v t letter 122 here q) h)
no_short u letter w v here h no_edge t i q f = some_none ((edge_of no_edge).1 u) (not_short u letter 66 (letter_is w v t letter 66 here q) h)
no_short u letter w v here h left t i q f = some_none ((edge_of left).1 u) (not_short u letter 60 (letter_is w v t letter 60 here q) h)
no_short u letter w v here h right t i q f = some_none ((edge_of right).1 u) (not_short u letter 62 (letter_is w v t letter 62 here q) h)
no_short u letter w v here h _ t i q f = absurd i

-- no letter stands there, or no look of any kind
pub no_edge_letter : (w : List ℕ) → ((letter : ℕ) (v : List ℕ) → w ≡ 92 ∷ letter ∷ v → ⊥) → (e : Edge) (t : List ℕ) → w ≡ (edge_of e).0 ++ t → ⊥
no_edge_letter w none text_start t q = none 65 t q
no_edge_letter w none text_end t q = none 122 t q
no_edge_letter w none edge t q = none 98 t q
no_edge_letter w none no_edge t q = none 66 t q
no_edge_letter w none word_start t q = none 98 (codes "{start}" ++ t) q
no_edge_letter w none word_end t q = none 98 (codes "{end}" ++ t) q
no_edge_letter w none half_start t q = none 98 (codes "{start-half}" ++ t) q
no_edge_letter w none half_end t q = none 98 (codes "{end-half}" ++ t) q
no_edge_letter w none left t q = none 60 t q
no_edge_letter w none right t q = none 62 t q

pub no_edge_at : (w : List ℕ) → NoEdge IsNamedEdge w → NoEdge IsPlainEdge w → NoEdge IsShortEdge w → (e : Edge) (t : List ℕ) → w ≡ (edge_of e).0 ++ t → FineLook e t → ⊥
no_edge_at w named plain short text_start t q f = short text_start t tt q f
no_edge_at w named plain short text_end t q f = short text_end t tt q f
no_edge_at w named plain short edge t q f = plain edge t tt q f
no_edge_at w named plain short no_edge t q f = short no_edge t tt q f
no_edge_at w named plain short word_start t q f = named word_start t tt q f
no_edge_at w named plain short word_end t q f = named word_end t tt q f
no_edge_at w named plain short half_start t q f = named half_start t tt q f
no_edge_at w named plain short half_end t q f = named half_end t tt q f
no_edge_at w named plain short left t q f = short left t tt q f
no_edge_at w named plain short right t q f = short right t tt q f
