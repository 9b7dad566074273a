-- Classes of the code, and the sets that they are.
use Rattle.std.specs.Prelude.{is_some}
use Rattle.std.proofs.Common.{◌≡◌, ⊎_elim, ℕ, ◌<◌, ◌≤◌, Bool, true, false, not, ◌&&◌, ◌||◌, nat_le, nat_lt, List, [], ◌∷◌, Option, Some, None, if◌then◌else◌, refl, sym, ap, ◌∙◌, subst, leb-true, arith}
use Rattle.std.specs.List.{list_all}
use Rattle.std.proofs.lemmas.Bool.{and_parts, cases_lt, false_from_ne_true}
use Rattle.std.proofs.lemmas.Bool.Decides.{nat_tests}
use Rattle.regex_class.specs.declared.Class.{Class}
use Rattle.regex_class.specs.Ranges.{in_range, in_ranges, HasExactly}
use Rattle.regex_class.proofs.RangesLemmas.{in_ranges-above_max}
use Rattle.unicode.specs.Sets.{in_set}
use Rattle.ucd_sets.specs.declared.set.Set.{Set as Named}
use Rattle.ucd_table.specs.Rows as table
use Rattle.pattern_syntax.specs.declared.flags.Flags.{Flags}
use Rattle.pattern_syntax.specs.Sets.{Set, is_scalar, is_any, characters, complement, closed, named_set}
use Rattle.pattern_syntax.specs.Readers.{IsSet}
use Rattle.pattern_syntax.proofs.RangesLemmas.{same_set}

-- no number above all characters is in the set
abbrev pub Ends : Set → Type 0
Ends s = (c : ℕ) → 0x10_FFFF < c → s c ≡ false

pub same_members : (class : Class) (s : Set) → HasExactly class.ranges.items s → Ends s → IsSet class s
same_members class s has ends c =
    ⊎_elim
    (λ low. has c (omega arith))
    (λ high. in_ranges-above_max class.ranges.items c class.canonical (omega arith) ∙ sym (ends c (omega arith)))
    (cases_lt c 0x11_0000)

pub class_ends : (class : Class) → Ends (in_ranges class.ranges.items)
class_ends class c above = in_ranges-above_max class.ranges.items c class.canonical above

-- a class as the set that it is
pub is_set : (class : Class) (s : Set) → IsSet class s → in_ranges class.ranges.items ≡ s
is_set class s is = same_set (in_ranges class.ranges.items) s is

-- the ranges end with the characters
abbrev pub are_within : List (ℕ × ℕ) → Bool
are_within = list_all (λ (r : ℕ × ℕ). nat_le r.1 0x10_FFFF)

pub ranges_end : (ranges : List (ℕ × ℕ)) → are_within ranges ≡ true → Ends (in_ranges ranges)
unfolding in_ranges in_range
ranges_end [] within c above = refl
ranges_end (r ∷ rs) within c above =
    let parts = and_parts (nat_le r.1 0x10_FFFF) (are_within rs) within in
    let later : in_ranges rs c ≡ false = ranges_end rs parts.1 c above in
    let last : r.1 ≤ 0x10_FFFF = leb-true r.1 0x10_FFFF parts.0 in
    rw later (grind (arith, nat_tests))

-- a class that was made of ranges is the set of which they are
pub made_of : (class : Class) (ranges : List (ℕ × ℕ)) (s : Set) → HasExactly class.ranges.items (in_ranges ranges) → are_within ranges ≡ true
    → ((c : ℕ) → in_ranges ranges c ≡ s c) → IsSet class s
made_of class ranges s has within same c = same_members class (in_ranges ranges) has (ranges_end ranges within) c ∙ same c

-- the crates of tables read ranges as classes do
table_ranges : (rs : List (ℕ × ℕ)) (c : ℕ) → in_ranges rs c ≡ table.in_ranges rs c
unfolding in_ranges in_range table.in_ranges
table_ranges [] c = refl
table_ranges (r ∷ rs) c = ap (λ b. in_range r c || b) (table_ranges rs c)

scalar_ends : (c : ℕ) → is_scalar c ≡ true → c ≤ 0x10_FFFF
scalar_ends c e = grind (arith, nat_tests)

above_scalars : (c : ℕ) → 0x10_FFFF < c → is_scalar c ≡ false
above_scalars c above = false_from_ne_true _ (λ e. let low = scalar_ends c e in omega arith)

where_true : (a b c : Bool) → (a ≡ true → b ≡ c) → (a && b) ≡ (a && c)
where_true true b c same = same refl
where_true false b c same = refl

-- the characters of a table
pub characters_of : (rs : List (ℕ × ℕ)) (s : Set) → table.HasExactly rs s → (c : ℕ) → characters (in_ranges rs) c ≡ characters s c
characters_of rs s has c = where_true (is_scalar c) (in_ranges rs c) (s c) (λ e. table_ranges rs c ∙ has c (scalar_ends c e))

pub scalars : (c : ℕ) → in_ranges ((0, 0xD7FF) ∷ (0xE000, 0x10_FFFF) ∷ []) c ≡ is_scalar c
unfolding in_ranges in_range
scalars c = grind (arith, nat_tests)

pub bytes : (c : ℕ) → in_ranges ((0, 0xFF) ∷ []) c ≡ nat_lt c 256
unfolding in_ranges in_range
bytes c = grind (arith, nat_tests)

surrogates : (c : ℕ) → c ≤ 0x10_FFFF → not (in_ranges ((0xD800, 0xDFFF) ∷ []) c) ≡ is_scalar c
unfolding in_ranges in_range
surrogates c low = grind (arith, nat_tests)

and_swaps : (a b : Bool) → (a && b) ≡ (b && a)
and_swaps true true = refl
and_swaps true false = refl
and_swaps false true = refl
and_swaps false false = refl

-- without the surrogates, ranges have their characters
pub without_surrogates : (all without surrogate : Class) (rs : List (ℕ × ℕ)) → HasExactly all.ranges.items (in_ranges rs)
    → HasExactly surrogate.ranges.items (in_ranges ((0xD800, 0xDFFF) ∷ []))
    → HasExactly without.ranges.items (λ c. in_ranges all.ranges.items c && not (in_ranges surrogate.ranges.items c))
    → IsSet without (characters (in_ranges rs))
without_surrogates all without surrogate rs has are left =
    same_members without (characters (in_ranges rs))
    (λ c low.
    left c low ∙ ap (λ b. b && not (in_ranges surrogate.ranges.items c)) (has c low)
    ∙ ap (λ b. in_ranges rs c && not b) (are c low)
    ∙ ap (λ b. in_ranges rs c && b) (surrogates c low) ∙ and_swaps (in_ranges rs c) (is_scalar c))
    (λ c above. ap (λ b. b && in_ranges rs c) (above_scalars c above))

any_ends : (k : Flags) → Ends (is_any k)
any_ends k c above = any_of k.unicode
  where
    any_of : (u : Bool) → (if u then is_scalar c else nat_lt c 256) ≡ false
    any_of true = above_scalars c above
    any_of false = grind (arith, nat_tests)

-- what isn't in the set
pub others_are : (k : Flags) (all others : Class) (s : Set) → IsSet all (is_any k)
    → HasExactly others.ranges.items (λ c. in_ranges all.ranges.items c && not (s c)) → IsSet others (complement k s)
others_are k all others s any has =
    same_members others (complement k s)
    (λ c low. has c low ∙ ap (λ b. b && not (s c)) (any c))
    (λ c above. ap (λ b. b && not (s c)) (any_ends k c above))

-- the characters of a category, closed under folding
pub closed_is : (k : Flags) (chars folded : Class) (rs : List (ℕ × ℕ)) (category : Named) (found : Option Named) → Some category ≡ found
    → table.HasExactly rs (in_set category) → IsSet chars (characters (in_ranges rs)) → IsSet folded (closed k (in_ranges chars.ranges.items))
    → IsSet folded (closed k (named_set found)) × (is_some found ≡ true)
closed_is k chars folded rs category found is has are are_closed =
    let members : in_ranges chars.ranges.items ≡ characters (in_set category) =
    is_set chars (characters (in_set category)) (λ c. are c ∙ characters_of rs (in_set category) has c) in
    subst (λ o. IsSet folded (closed k (named_set o)) × (is_some o ≡ true)) is (subst (λ s. IsSet folded (closed k s)) members are_closed, refl)

pub no_category : (found : Option Named) → ((category : Named) → found ≡ Some category → ⊥) → is_some found ≡ false
no_category (Some category) differs = absurd (differs category refl)
no_category None differs = refl
