-- Unions of ranges, and what an open class has of them.
use Rattle.std.proofs.Common.{◌≡◌, ◌<◌, ◌≤◌, ℕ, Bool, true, false, ◌==◌, ◌&&◌, ◌||◌, not, nat_le, List, [], ◌∷◌, ◌++◌, Option, Some, refl, sym, ap, ap₂, ◌∙◌, eqb-true, eq-eqb, leb-true, le-leb, arith}
use Rattle.std.proofs.lemmas.Bool.{and_parts, and_from}
use Rattle.std.proofs.lemmas.Bool.Decides.{nat_tests}
use Rattle.std.specs.Int.{is_in_range}
use Rattle.std.specs.Char.{IsScalar}
use Rattle.ucd_derived.proofs.Computing.{ucd_derived}
use Rattle.unicode.specs.Binary.{is_uppercase}
use Rattle.regex_class.specs.declared.Class.{Class}
use Rattle.regex_class.specs.Ranges.{in_ranges, in_range, HasExactly, bool_xor}
use Rattle.regex_class.proofs.RangesLemmas.{in_ranges-append, in_ranges-above_max, or-false}
use Rattle.pattern_syntax.specs.declared.flags.Flags.{Flags}
use Rattle.pattern_syntax.specs.declared.readings.Literals.{Literals}
use Rattle.pattern_syntax.specs.Sets.{Set, none_of, union, complement, negated_if}
use Rattle.pattern_syntax.specs.Atom.{Atom, character, escaped, control, coded, braced, octal, perl, category, category_braced, single_of}
use Rattle.pattern_syntax.specs.Class.{both, minus, either, Waiting, combined, xor, matches_one, range_set, atom_set}
use Rattle.pattern_syntax.specs.ClassProgress.{part_of, literals_in, in_both}
use Rattle.pattern_syntax.specs.ClassReading.{Frame, framed, held}
use Rattle.pattern_syntax.specs.Readers.{IsSet}
use Rattle.pattern_syntax.proofs.RangesLemmas.{same_set, same_test}

-- ---- sets of ranges

above : (c : ℕ) → nat_le c 0x10_FFFF ≡ false → 0x10_FFFF < c
above c e = grind (arith, nat_tests)

exact_by : (class : Class) (s : Set) (c : ℕ) (b : Bool) → nat_le c 0x10_FFFF ≡ b → HasExactly class.ranges.items s → (0x10_FFFF < c → s c ≡ false)
    → in_ranges class.ranges.items c ≡ s c
exact_by class s c true e h none = h c (leb-true c 0x10_FFFF e)
exact_by class s c false e h none = in_ranges-above_max class.ranges.items c class.canonical (above c e) ∙ sym (none (above c e))

-- a set without numbers above Unicode's is had exactly
pub exact : (class : Class) (s : Set) → HasExactly class.ranges.items s → ((c : ℕ) → 0x10_FFFF < c → s c ≡ false) → IsSet class s
exact class s h none c = exact_by class s c (nat_le c 0x10_FFFF) refl h (none c)

pub class_above : (class : Class) (c : ℕ) → 0x10_FFFF < c → in_ranges class.ranges.items c ≡ false
class_above class c h = in_ranges-above_max class.ranges.items c class.canonical h

held_by : (class : Class) (ranges : List (ℕ × ℕ)) (c : ℕ) (b : Bool) → nat_le c 0x10_FFFF ≡ b → HasExactly class.ranges.items (in_ranges ranges)
    → in_ranges class.ranges.items c ≡ (b && in_ranges ranges c)
held_by class ranges c true e h = h c (leb-true c 0x10_FFFF e)
held_by class ranges c false e h = class_above class c (above c e)

pub exact_held : (class : Class) (ranges : List (ℕ × ℕ)) → HasExactly class.ranges.items (in_ranges ranges) → IsSet class (held ranges)
exact_held class ranges h c = held_by class ranges c (nat_le c 0x10_FFFF) refl h

own_by : (class : Class) (c : ℕ) (b : Bool) → nat_le c 0x10_FFFF ≡ b → (b && in_ranges class.ranges.items c) ≡ in_ranges class.ranges.items c
own_by class c true e = refl
own_by class c false e = sym (class_above class c (above c e))

pub held_class : (class : Class) → held class.ranges.items ≡ in_ranges class.ranges.items
held_class class = same_set _ _ (λ c. own_by class c (nat_le c 0x10_FFFF) refl)

and_over : (a b c : Bool) → (a && (b || c)) ≡ ((a && b) || (a && c))
and_over true b c = refl
and_over false b c = refl

pub held_append : (xs ys : List (ℕ × ℕ)) → held (xs ++ ys) ≡ union (held xs) (held ys)
held_append xs ys =
    same_set _ _ (λ c. ap (λ b. nat_le c 0x10_FFFF && b) (in_ranges-append xs ys c) ∙ and_over (nat_le c 0x10_FFFF) (in_ranges xs c) (in_ranges ys c))

and_none : (a : Bool) → (a && false) ≡ false
and_none true = refl
and_none false = refl

pub none_held_at : (c : ℕ) → held [] c ≡ false
unfolding in_ranges
none_held_at c = and_none (nat_le c 0x10_FFFF)

pub none_held : held [] ≡ none_of
none_held = same_set _ _ none_held_at

one_range : (a b c : ℕ) → in_ranges ((a, b) ∷ []) c ≡ (nat_le a c && nat_le c b)
unfolding in_ranges in_range
one_range a b c = or-false (nat_le a c && nat_le c b)

between_at : (a b c : ℕ) → b ≤ 0x10_FFFF → held ((a, b) ∷ []) c ≡ is_in_range a b c
between_at a b c h =
    ap (λ x. nat_le c 0x10_FFFF && x) (one_range a b c)
    ∙ same_test (nat_le c 0x10_FFFF && (nat_le a c && nat_le c b)) (nat_le a c && nat_le c b)
    (λ e. (and_parts (nat_le c 0x10_FFFF) (nat_le a c && nat_le c b) e).1)
    (λ e. let parts = and_parts (nat_le a c) (nat_le c b) e in
    let low : c ≤ b = leb-true c b parts.1 in
    and_from (nat_le c 0x10_FFFF) (nat_le a c && nat_le c b) (le-leb c 0x10_FFFF (omega arith)) e)

pub range_held : (a b : ℕ) → b ≤ 0x10_FFFF → held ((a, b) ∷ []) ≡ range_set (Some a) (Some b)
range_held a b h = same_set _ _ (λ c. between_at a b c h)

one_at : (a c : ℕ) → is_in_range a a c ≡ (c == a)
one_at a c =
    same_test (is_in_range a a c) (c == a)
    (λ e. let parts = and_parts (nat_le a c) (nat_le c a) e in
    let low : a ≤ c = leb-true a c parts.0 in
    let high : c ≤ a = leb-true c a parts.1 in
    eq-eqb c a (omega arith))
    (λ e. let h : c ≡ a = eqb-true c a e in and_from (nat_le a c) (nat_le c a) (le-leb a c (omega arith)) (le-leb c a (omega arith)))

pub one_held : (a : ℕ) → a ≤ 0x10_FFFF → held ((a, a) ∷ []) ≡ matches_one (Some a)
one_held a h = same_set _ _ (λ c. between_at a a c h ∙ one_at a c)

pub scalar_bound : (c : ℕ) → IsScalar c → c ≤ 0x10_FFFF
scalar_bound c h = grind (arith, nat_tests)

-- one character more
pub push_held : (old new : List (ℕ × ℕ)) (c a b d : ℕ) → new ≡ old ++ (a, b) ∷ [] → a ≡ c → b ≡ c → IsScalar c → held new d ≡ (held old d || d == c)
push_held old new c a b d e f g h =
    ap (λ ranges. held ranges d) (e ∙ ap₂ (λ a b. old ++ (a, b) ∷ []) f g) ∙ ap (λ (s : Set). s d) (held_append old ((c, c) ∷ []))
    ∙ ap (λ (s : Set). held old d || s d) (one_held c (scalar_bound c h))

-- ---- operations

xor_is : (a b : Bool) → bool_xor a b ≡ xor a b
xor_is true true = refl
xor_is true false = refl
xor_is false true = refl
xor_is false false = refl

pub both_sets : (class : Class) (a b : Class) → HasExactly class.ranges.items (λ c. in_ranges a.ranges.items c && in_ranges b.ranges.items c)
    → IsSet class (combined both (in_ranges a.ranges.items) (in_ranges b.ranges.items))
both_sets class a b h = exact class _ h (λ c above. ap (λ x. x && in_ranges b.ranges.items c) (class_above a c above))

pub left_alone : (class : Class) (a b : Class) → HasExactly class.ranges.items (λ c. in_ranges a.ranges.items c && not (in_ranges b.ranges.items c))
    → IsSet class (combined minus (in_ranges a.ranges.items) (in_ranges b.ranges.items))
left_alone class a b h = exact class _ h (λ c above. ap (λ x. x && not (in_ranges b.ranges.items c)) (class_above a c above))

pub one_alone : (class : Class) (a b : Class) → HasExactly class.ranges.items (λ c. bool_xor (in_ranges a.ranges.items c) (in_ranges b.ranges.items c))
    → IsSet class (combined either (in_ranges a.ranges.items) (in_ranges b.ranges.items))
one_alone class a b h =
    exact class _ (λ c le. h c le ∙ xor_is (in_ranges a.ranges.items c) (in_ranges b.ranges.items c))
    (λ c above. ap₂ xor (class_above a c above) (class_above b c above))

-- ---- members

pub single_set : (k : Flags) (a : Atom) (c : ℕ) → single_of a ≡ Some c → atom_set k a ≡ matches_one (Some c)
single_set k (character d) c e = ap matches_one e
single_set k (escaped d) c e = ap matches_one e
single_set k (control d) c e = ap matches_one e
single_set k (coded d ds) c e = ap matches_one e
single_set k (braced d bs ds cs) c e = ap matches_one e
single_set k (octal ds) c e = ap matches_one e
single_set k (perl d) c e = cc
single_set k (category d bs g) c e = cc
single_set k (category_braced d bs ds cs) c e = cc

-- ---- levels

abbrev pub frame_as : Bool → Waiting → Set → Option ℕ → ℕ → ℕ → Literals → Frame
frame_as negated w s left count deepest literals = framed negated (record {
  waiting = w;
  union = s;
  left = left;
  count = count;
  deepest = deepest;
  literals = literals;
})

pub same_frame : (m n : Bool) (v w : Waiting) (s t : Set) (a b : Option ℕ) (c d e f : ℕ) (x y : Literals)
    → m ≡ n → v ≡ w → s ≡ t → a ≡ b → c ≡ d → e ≡ f → x ≡ y → frame_as m v s a c e x ≡ frame_as n w t b d f y
same_frame m n v w s t a b c d e f x y p q r o u z g = λ i. frame_as (p i) (q i) (r i) (o i) (u i) (z i) (g i)

abbrev pub literals_as : Bool → Bool → Literals
literals_as any uppercase = record { any = any; uppercase = uppercase }

pub same_literals : (a b c d : Bool) → a ≡ b → c ≡ d → literals_as a c ≡ literals_as b d
same_literals a b c d e f = ap₂ literals_as e f

pub same_part : (s t : Set) (d e : ℕ) (x y : Literals) → s ≡ t → d ≡ e → x ≡ y → part_of s d x ≡ part_of t e y
same_part s t d e x y f g h = λ i. part_of (f i) (g i) (h i)

pub no_more : (x : Literals) → in_both x (literals_in []) ≡ x
no_more x = ap₂ literals_as (or-false x.any) (or-false x.uppercase)

-- a set of one, and its opposite where it is negated
pub negated_part : (k : Flags) (negated : Bool) (s t : Set) → negated ≡ true → ((c : ℕ) → s c ≡ complement k t c) → s ≡ negated_if negated k t
negated_part k negated s t e h = same_set _ _ h ∙ ap (λ b. negated_if b k t) (sym e)

pub plain_part : (k : Flags) (negated : Bool) (s t : Set) → negated ≡ false → s ≡ t → s ≡ negated_if negated k t
plain_part k negated s t e h = h ∙ ap (λ b. negated_if b k t) (sym e)

-- ---- heads

pub dash_small : is_uppercase 45 ≡ false
unfolding ucd_derived
dash_small = refl

pub bracket_small : is_uppercase 93 ≡ false
unfolding ucd_derived
bracket_small = refl
