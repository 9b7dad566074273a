-- Names in tables.
use Rattle.std.specs.Char.{is_ascii_digit}
use Rattle.std.specs.Prelude.{is_some, unwrap_or}
use Rattle.std.proofs.Common.{◌≡◌, ℕ, ◌≤◌, Bool, true, false, nat_eq, List, [], ◌∷◌, length, take, map, option_map, true≢false, if◌then◌else◌, Option, Some, None, MatchOption, IsSomeAnd, IfSome, IfNone, refl, sym, ap, ◌∙◌, subst, arith}
use Rattle.std.proofs.lemmas.Bool.{and_parts, and_from, false_from_ne_true}
use Rattle.std.proofs.lemmas.Bool.Decides.{Decides-eqb, nat_tests}
use Rattle.std.proofs.lemmas.Slice.Eq.{slice_eq-Decides}
use Rattle.std.proofs.lemmas.List.{length-take, take_all}
use lib.Pointwise.{pointwise}
use Rattle.regex_class.specs.declared.Class.{Class}
use Rattle.regex_class.specs.Ranges.{in_range, in_ranges, HasExactly}
use Rattle.pattern_syntax.specs.declared.sets.names.TheConstants.{ASCII_SETS}
use Rattle.pattern_syntax.specs.Sets.{Set, ascii_names, same_text, value_of, is_ascii_space, is_ascii_word, none_of}
use Rattle.pattern_syntax.specs.Readers.{IsSet}
use Rattle.pattern_syntax.proofs.sets.MemberLemmas.{are_within, made_of}

pointwise_same : (xs ys : List ℕ) → xs ≡ ys → pointwise nat_eq xs ys ≡ true
pointwise_same xs ys e = (slice_eq-Decides Decides-eqb xs ys _ refl).1 e

same_pointwise : (xs ys : List ℕ) → pointwise nat_eq xs ys ≡ true → xs ≡ ys
same_pointwise xs ys e = (slice_eq-Decides Decides-eqb xs ys _ refl).0 e

own_text : (xs : List ℕ) → same_text xs xs ≡ true
own_text xs =
    let whole : xs ≡ take (length xs) xs = sym (take_all (length xs) xs (omega arith)) in
    and_from _ _ (pointwise_same xs (take (length xs) xs) whole) (pointwise_same xs (take (length xs) xs) whole)

pub equal_texts : (xs ys : List ℕ) → xs ≡ ys → same_text xs ys ≡ true
equal_texts xs ys e = subst (λ zs. same_text xs zs ≡ true) e (own_text xs)

texts_equal : (xs ys : List ℕ) → same_text xs ys ≡ true → xs ≡ ys
texts_equal xs ys same =
    let parts = and_parts _ _ same in
    let second : ys ≡ take (length ys) xs = same_pointwise ys (take (length ys) xs) parts.0 in
    let first : xs ≡ take (length xs) ys = same_pointwise xs (take (length xs) ys) parts.1 in
    let long : length xs ≤ length ys = omega (arith, ap length first, length-take (length xs) ys) in
    sym (second ∙ take_all (length ys) xs long)

pub unequal_texts : (xs ys : List ℕ) → (xs ≡ ys → ⊥) → same_text xs ys ≡ false
unequal_texts xs ys differ = false_from_ne_true _ (λ same. differ (texts_equal xs ys same))

-- a table of the code has the names and the sets of one of the definitions
abbrev pub AreNamed : List (List ℕ × List (ℕ × ℕ)) → List (List ℕ × Set) → Type 0
AreNamed [] [] = Unit {0}
AreNamed (r ∷ rs) (s ∷ ss) = (r.0 ≡ s.0) × (are_within r.1 ≡ true) × ((c : ℕ) → in_ranges r.1 c ≡ s.1 c) × AreNamed rs ss
AreNamed _ _ = ⊥

-- so what has a name there
abbrev pub IsNamed : Option (List (ℕ × ℕ)) → Option Set → Type 0
IsNamed None None = Unit {0}
IsNamed (Some ranges) (Some s) = (are_within ranges ≡ true) × ((c : ℕ) → in_ranges ranges c ≡ s c)
IsNamed _ _ = ⊥

either : (ranges : List (ℕ × ℕ)) (s : Set) (o : Option (List (ℕ × ℕ))) (p : Option Set) (a b : Bool) → a ≡ b
    → IsNamed (Some ranges) (Some s) → IsNamed o p → IsNamed (if a then Some ranges else o) (if b then Some s else p)
either ranges s o p true true e here later = here
either ranges s o p false false e here later = later
either ranges s o p true false e here later = absurd (true≢false e)
either ranges s o p false true e here later = absurd (true≢false (sym e))

named : (rs : List (List ℕ × List (ℕ × ℕ))) (ss : List (List ℕ × Set)) → AreNamed rs ss → (name : List ℕ) → IsNamed (value_of rs name) (value_of ss name)
named [] [] are name = tt
named [] (s ∷ ss) are name = absurd are
named (r ∷ rs) [] are name = absurd are
named (r ∷ rs) (s ∷ ss) (same, within, members, more) name =
    either r.1 s.1 (value_of rs name) (value_of ss name) (same_text r.0 name) (same_text s.0 name) (ap (λ z. same_text z name) same)
    (within, members) (named rs ss more name)

picked : {V W : Type 0} (f : V → W) (v : V) (o : Option V) (b : Bool) → option_map f (if b then Some v else o) ≡ (if b then Some (f v) else option_map f o)
picked f v o true = refl
picked f v o false = refl

-- what is looked up, by what it stands for
pub seen_through : {R V W : Type 0} (name_of : R → List ℕ) (value : R → V) (f : V → W) (rows : List R) (name : List ℕ)
    → option_map f (value_of (map (λ row. (name_of row, value row)) rows) name) ≡ value_of (map (λ row. (name_of row, f (value row))) rows) name
seen_through name_of value f [] name = refl
seen_through name_of value f (r ∷ rows) name =
    picked f (value r) (value_of (map (λ row. (name_of row, value row)) rows) name) (same_text (name_of r) name)
    ∙ ap (λ o. if same_text (name_of r) name then Some (f (value r)) else o) (seen_through name_of value f rows name)

-- the table of the code
abbrev pub ascii_rows : List (List ℕ × List (ℕ × ℕ))
ascii_rows = map (λ row. (row.0.now, row.1.now)) ASCII_SETS

rows_are_named : AreNamed ascii_rows ascii_names
unfolding in_ranges in_range
rows_are_named = (
  refl,
  refl,
  (λ c. grind (arith, nat_tests)),
  (
    refl,
    refl,
    (λ c. grind (arith, nat_tests)),
    (
      refl,
      refl,
      (λ c. grind (arith, nat_tests)),
      (
        refl,
        refl,
        (λ c. grind (arith, nat_tests)),
        (
          refl,
          refl,
          (λ c. grind (arith, nat_tests)),
          (
            refl,
            refl,
            (λ c. grind (arith, nat_tests)),
            (
              refl,
              refl,
              (λ c. grind (arith, nat_tests)),
              (
                refl,
                refl,
                (λ c. grind (arith, nat_tests)),
                (
                  refl,
                  refl,
                  (λ c. grind (arith, nat_tests)),
                  (
                    refl,
                    refl,
                    (λ c. grind (arith, nat_tests)),
                    (
                      refl,
                      refl,
                      (λ c. grind (arith, nat_tests)),
                      (
                        refl,
                        refl,
                        (λ c. grind (arith, nat_tests)),
                        (
                          refl,
                          refl,
                          (λ c. grind (arith, nat_tests)),
                          (refl, refl, (λ c. grind (arith, nat_tests)), tt),
                        ),
                      ),
                    ),
                  ),
                ),
              ),
            ),
          ),
        ),
      ),
    ),
  ),
)

-- what the code finds
abbrev pub IsFound : Option Class → Option (List (ℕ × ℕ)) → Type 0
IsFound found ranges = MatchOption found (ranges ≡ None) (λ set. IsSomeAnd ranges (λ own. HasExactly set.ranges.items (in_ranges own)))

pub found_ranges : (set : Class) (own : List (ℕ × ℕ)) (ranges : Option (List (ℕ × ℕ))) → Some own ≡ ranges → HasExactly set.ranges.items (in_ranges own)
    → IsFound (Some set) ranges
found_ranges set own ranges is has = subst (λ o. IsSomeAnd o (λ rs. HasExactly set.ranges.items (in_ranges rs))) is has

some_set : (set : Class) (ranges : Option (List (ℕ × ℕ))) (o : Option Set) → IsNamed ranges o → IsFound (Some set) ranges
    → IsSet set (unwrap_or o none_of) × (is_some o ≡ true)
some_set set (Some ranges) (Some s) is has = (made_of set ranges s has is.0 is.1, refl)
some_set set (Some ranges) None is has = absurd is
some_set set None o is has = absurd has

no_set : (ranges : Option (List (ℕ × ℕ))) (o : Option Set) → IsNamed ranges o → ranges ≡ None → is_some o ≡ false
no_set ranges (Some s) is e = absurd (subst (λ r. IsNamed r (Some s)) e is)
no_set ranges None is e = refl

pub found_in_table : (name : List ℕ) (found : Option Class) → IsFound found (value_of ascii_rows name)
    → IfSome found (λ set. IsSet set (unwrap_or (value_of ascii_names name) none_of) × (is_some (value_of ascii_names name) ≡ true))
found_in_table name (Some set) is = some_set set (value_of ascii_rows name) (value_of ascii_names name) (named ascii_rows ascii_names rows_are_named name) is
found_in_table name None is = tt

pub none_in_table : (name : List ℕ) (found : Option Class) → IsFound found (value_of ascii_rows name)
    → IfNone found (is_some (value_of ascii_names name) ≡ false)
none_in_table name (Some set) is = tt
none_in_table name None is = no_set (value_of ascii_rows name) (value_of ascii_names name) (named ascii_rows ascii_names rows_are_named name) is

pub ascii_digits : (c : ℕ) → in_ranges ((0x30, 0x39) ∷ []) c ≡ is_ascii_digit c
unfolding in_ranges in_range
ascii_digits c = grind (arith, nat_tests)

pub ascii_spaces : (c : ℕ) → in_ranges ((0x09, 0x0D) ∷ (0x20, 0x20) ∷ []) c ≡ is_ascii_space c
unfolding in_ranges in_range
ascii_spaces c = grind (arith, nat_tests)

pub ascii_words : (c : ℕ) → in_ranges ((0x30, 0x39) ∷ (0x41, 0x5A) ∷ (0x5F, 0x5F) ∷ (0x61, 0x7A) ∷ []) c ≡ is_ascii_word c
unfolding in_ranges in_range
ascii_words c = grind (arith, nat_tests)
