-- General categories.
use Rattle.std.specs.Prelude.{is_some}
use Rattle.std.proofs.Common.{◌≡◌, ◌≤◌, ℕ, ◌+◌, Bool, true, false, List, [], ◌∷◌, codes, ◌==◌, ◌&&◌, length, drop, refl, sym, ap, ◌∙◌, subst, true≢false, arith, not, eq-eqb}
use Rattle.std.proofs.lemmas.Bool.{and_parts, and_from}
use Rattle.regex_class.specs.declared.Class.{Class}
use Rattle.regex_class.specs.Ranges.{in_ranges}
use Rattle.pattern_syntax.specs.declared.flags.Flags.{Flags}
use Rattle.pattern_syntax.specs.declared.readings.Member.TheVariants.{Set}
use Rattle.pattern_syntax.specs.Flags.{write_blanks, FineBlanks, has}
use Rattle.pattern_syntax.specs.Sets.{is_any, complement, negated_if, category_named, category_set, closed, named_set}
use Rattle.pattern_syntax.specs.Atom.{Atom, category, category_braced, Digit, spelt, write_atom, FineAtom}
use Rattle.pattern_syntax.specs.Readers.{EscapeAt, IsSet}
use Rattle.pattern_syntax.specs.Escapes.{IsEscapeLetter, Spells, SpelledAt, BracesAt, in_braces, IsCategory, IsCategoryBraced}
use Rattle.pattern_syntax.proofs.BlanksLemmas.{tail}
use Rattle.pattern_syntax.proofs.spelling.BlanksSplit.{split}
use Rattle.pattern_syntax.proofs.spelling.SpellingLemmas.{not_same, spelled_on, spells_braces, spells_same, braces_same, digits_spell, braces_spell}
use Rattle.pattern_syntax.proofs.spelling.PlainLemmas.{name_clear, name_inner}

abbrev pub is_category : ℕ → Bool
is_category letter = has letter (codes "pP")

category_fine : (k : Flags) (letter : ℕ) (cs : List ℕ) → k.unicode ≡ true → is_category letter ≡ true → is_some (category_named cs) ≡ true
    → (k.unicode && is_category letter && is_some (category_named cs)) ≡ true
category_fine k letter cs u l n = and_from (k.unicode && is_category letter) (is_some (category_named cs)) (and_from k.unicode (is_category letter) u l) n

category_parts : (k : Flags) (letter : ℕ) (cs : List ℕ) → (k.unicode && is_category letter && is_some (category_named cs)) ≡ true
    → (k.unicode ≡ true) × (is_category letter ≡ true) × (is_some (category_named cs) ≡ true)
category_parts k letter cs h =
    let outer = and_parts (k.unicode && is_category letter) (is_some (category_named cs)) h in
    let inner = and_parts k.unicode (is_category letter) outer.0 in (inner.0, inner.1, outer.1)

-- ---- the set, by the letter

pub own_set : (k : Flags) (letter : ℕ) (name : List ℕ) (class : Class) → (letter ≡ 80 → ⊥) → IsSet class (closed k (named_set (category_named name)))
    → IsSet class (category_set k (letter == 80) name)
own_set k letter name class other is x = is x ∙ ap (λ b. negated_if b k (closed k (named_set (category_named name))) x) (sym (not_same letter 80 other))

pub others_set : (k : Flags) (letter : ℕ) (name : List ℕ) (class others : Class) → letter ≡ 80 → IsSet class (closed k (named_set (category_named name)))
    → IsSet others (complement k (in_ranges class.ranges.items)) → IsSet others (category_set k (letter == 80) name)
others_set k letter name class others same is rest x =
    rest x ∙ ap (λ b. is_any k x && not b) (is x) ∙ ap (λ b. negated_if b k (closed k (named_set (category_named name))) x) (sym (eq-eqb letter 80 same))

-- ---- one letter

pub category_at : (k : Flags) (text : List ℕ) (at letter next : ℕ) (cs : List ℕ) (class : Class) → IsEscapeLetter text at letter → k.unicode ≡ true
    → is_category letter ≡ true → SpelledAt k text (at + 2) 1 cs next → is_some (category_named cs) ≡ true
    → IsSet class (category_set k (letter == 80) cs) → EscapeAt k text at (Set class) next
category_at k text at letter next [] class e u l s n set = let counted : length {A = ℕ} [] ≡ 1 = s.counted in absurd (omega arith)
category_at k text at letter next (c ∷ []) class e u l s n set =
    let (v, h, r) = s.spelled in
    let b = split k (drop (at + 2) text) c v h in
    let past : at + 2 ≤ next = spelled_on k text (c ∷ []) (at + 2) next e.0 s.within s.spelled in record {
      atom = category letter b.0 c;
      escapes = tt;
      goes_on = (omega arith, s.within);
      written = e.1 ∙ ap (λ z. 92 ∷ letter ∷ z) (b.2 ∙ ap (λ z. write_blanks b.0 (c ∷ z)) r);
      fine = (subst (λ z. FineBlanks k b.0 (c ∷ z)) r b.1, category_fine k letter (c ∷ []) u l n);
      is = (refl, set, refl);
    }
category_at k text at letter next (c ∷ d ∷ cs) class e u l s n set = let counted : length (c ∷ d ∷ cs) ≡ 1 = s.counted in absurd (omega arith)

pub no_category : (k : Flags) (letter : ℕ) (w v : List ℕ) → w ≡ 92 ∷ letter ∷ v
    → ((cs t : List ℕ) → length cs ≡ 1 → is_some (category_named cs) ≡ true → Spells k cs v t → ⊥)
    → (a : Atom) (t : List ℕ) → IsCategory a → w ≡ write_atom a t → FineAtom k a t → ⊥
no_category k letter w v e none (category l bs c) t i q f =
    let named = (category_parts k l (c ∷ []) f.1).2 in
    let ds : List Digit = record { before = bs; digit = c } ∷ [] in
    none (c ∷ []) t refl named (subst (λ z. Spells k (c ∷ []) z t) (ap (λ z. tail (tail z)) (sym q ∙ e)) (digits_spell k ds t (name_clear (c ∷ []) named) (f.0, tt)))
no_category k letter w v e none _ t i q f = absurd i

pub other_category : (k : Flags) (text : List ℕ) (at next : ℕ) (ds : List ℕ) → SpelledAt k text at 1 ds next → is_some (category_named ds) ≡ false
    → (cs t : List ℕ) → length cs ≡ 1 → is_some (category_named cs) ≡ true → Spells k cs (drop at text) t → ⊥
other_category k text at next ds s none cs t n h r =
    true≢false (sym h ∙ ap (λ z. is_some (category_named z)) (spells_same k cs ds (drop at text) t (drop next text) r s.spelled (n ∙ sym s.counted)) ∙ none)

-- ---- braces

pub braced_category_at : (k : Flags) (text : List ℕ) (at letter next : ℕ) (cs : List ℕ) (class : Class) → IsEscapeLetter text at letter → k.unicode ≡ true
    → is_category letter ≡ true → BracesAt k text (at + 2) cs next → is_some (category_named cs) ≡ true
    → IsSet class (category_set k (letter == 80) cs) → EscapeAt k text at (Set class) next
braced_category_at k text at letter next cs class e u l s n set =
    let b = spells_braces k cs (drop (at + 2) text) (drop next text) s.spelled in
    let past : at + 2 ≤ next = spelled_on k text (in_braces cs) (at + 2) next e.0 s.within s.spelled in record {
      atom = category_braced letter b.0 b.1 b.2;
      escapes = tt;
      goes_on = (omega arith, s.within);
      written = e.1 ∙ ap (λ z. 92 ∷ letter ∷ z) b.5;
      fine = (b.4, category_fine k letter (spelt b.1) u l (ap (λ z. is_some (category_named z)) b.3 ∙ n));
      is = (refl, subst (λ z. IsSet class (category_set k (letter == 80) z)) (sym b.3) set, refl);
    }

pub no_braced_category : (k : Flags) (letter : ℕ) (w v : List ℕ) → w ≡ 92 ∷ letter ∷ v
    → ((cs t : List ℕ) → has 125 cs ≡ false → is_some (category_named cs) ≡ true → Spells k (in_braces cs) v t → ⊥)
    → (a : Atom) (t : List ℕ) → IsCategoryBraced a → w ≡ write_atom a t → FineAtom k a t → ⊥
no_braced_category k letter w v e none (category_braced l before ds behind) t i q f =
    let named = (category_parts k l (spelt ds) f.1).2 in
    none (spelt ds) t (name_inner (spelt ds) named) named
    (subst (λ z. Spells k (in_braces (spelt ds)) z t) (ap (λ z. tail (tail z)) (sym q ∙ e)) (braces_spell k before ds behind t (name_clear (spelt ds) named) f.0))
no_braced_category k letter w v e none _ t i q f = absurd i

pub other_braced_category : (k : Flags) (text : List ℕ) (at next : ℕ) (ds : List ℕ) → BracesAt k text at ds next → is_some (category_named ds) ≡ false
    → (cs t : List ℕ) → has 125 cs ≡ false → is_some (category_named cs) ≡ true → Spells k (in_braces cs) (drop at text) t → ⊥
other_braced_category k text at next ds s none cs t inner h r =
    true≢false
    (sym h ∙ ap (λ z. is_some (category_named z)) (braces_same k cs ds (drop at text) t (drop next text) inner s.inner r s.spelled) ∙ none)
