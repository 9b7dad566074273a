-- How many spans are counted together.
use Rattle.std.proofs.Common.{◌≡◌, ℕ, zero, suc, ◌+◌, ◌-◌, ◌<◌, ◌≤◌, Bool, true, false, cond, eqb, List, [], ◌∷◌, ◌++◌, length, take, drop, slice_range, get_or, Option, Some, None, All, arith, refl, sym, subst, ap, ◌∙◌, min, is_some, IsTrue}
use Rattle.std.specs.List.{count_by, AllByRecursion}
use Rattle.std.proofs.Math.Seq.{take-add}
use Rattle.std.proofs.lemmas.List.Sums.{sum_by-append, sum_by-cons}
use Rattle.std.proofs.lemmas.Bool.Decides.{nat_tests}
use Rattle.std.proofs.lemmas.List.Elements.{recursion_from_All, All-weaker, All-push}
use Rattle.memchr.specs.Find.{IsFirstByte, is_byte}
use Rattle.grep_matcher.specs.Span.{Span}
use Rattle.sd_replace.specs.Replacement.{line_of, are_together, together_with, is_within, within_after}
use Rattle.sd_replace.specs.declared.replacer.Counted.{Counted}
use Rattle.sd_replace.specs.declared.replacer.Counted.TheVariants.{OverAll, InEachLine}

module _ {X : Type 0} (p : X → Bool) where
  count_append : (xs ys : List X) → count_by p (xs ++ ys) ≡ count_by p xs + count_by p ys
  count_append xs ys = sum_by-append (λ x. cond (p x) 1 0) xs ys

  count_cons : (x : X) (xs : List X) → count_by p (x ∷ xs) ≡ cond (p x) 1 0 + count_by p xs
  count_cons x xs = sum_by-cons (λ x. cond (p x) 1 0) x xs

  count_more : (a b : ℕ) (xs : List X) → a ≤ b → count_by p (take b xs) ≡ count_by p (take a xs) + count_by p (slice_range xs a b)
  count_more a b xs le =
      let e : a + (b - a) ≡ b = omega arith in
      ap (λ (k : ℕ). count_by p (take k xs)) (sym e) ∙ (ap (count_by p) (take-add a (b - a) xs) ∙ count_append (take a xs) (take (b - a) (drop a xs)))

  count_none : (d : X) (xs : List X) → ((k : ℕ) → k < length xs → p (get_or xs k d) ≡ true → ⊥) → count_by p xs ≡ 0
  count_none d [] h = refl
  count_none d (x ∷ xs) h = count_cons x xs ∙ by (p x) refl (count_none d xs (λ k lt. h (suc k) (omega arith)))
    where
      by : (b : Bool) → p x ≡ b → count_by p xs ≡ 0 → cond b 1 0 + count_by p xs ≡ 0
      by true e rest = absurd (h 0 (omega arith) e)
      by false e rest = omega arith

  count_some : (d : X) (xs : List X) (k : ℕ) → k < length xs → p (get_or xs k d) ≡ true → 0 < count_by p xs
  count_some d [] k lt h = absurd (omega arith)
  count_some d (x ∷ xs) zero lt h =
      subst (λ (n : ℕ). 0 < n) (sym (count_cons x xs)) (by (p x) h)
    where
      by : (b : Bool) → b ≡ true → 0 < cond b 1 0 + count_by p xs
      by true e = omega arith
      by false e = absurd (cc)
  count_some d (x ∷ xs) (suc k) lt h =
      let rest : 0 < count_by p xs = count_some d xs k (omega arith) h in
      omega (arith, count_cons x xs)

-- lines go up from place to place
lines_more : (bytes : List ℕ) (a b : ℕ) → a ≤ b → line_of bytes b ≡ line_of bytes a + count_by (λ byte. eqb byte 10) (slice_range bytes a b)
lines_more bytes a b le = count_more (λ byte. eqb byte 10) a b bytes le

-- what the search for a line feed tells
pub same_line : (bytes hay : List ℕ) (a b : ℕ) (found : Option ℕ) → hay ≡ slice_range bytes a b → a ≤ b → IsFirstByte (is_byte 10) hay found → is_some found ≡ false → line_of bytes b ≡ line_of bytes a
same_line bytes hay a b (Some k) is le h e = absurd (cc)
same_line bytes hay a b None is le h e =
    let none : count_by (λ byte. eqb byte 10) hay ≡ 0 = count_none (λ byte. eqb byte 10) 0 hay (λ k lt passes. h k (omega arith) lt passes) in
    lines_more bytes a b le ∙ (ap (λ (l : List ℕ). line_of bytes a + count_by (λ byte. eqb byte 10) l) (sym is) ∙ (ap (λ (k : ℕ). line_of bytes a + k) none ∙ (let z : line_of bytes a + 0 ≡ line_of bytes a = omega arith in z)))

pub later_line : (bytes hay : List ℕ) (a b : ℕ) (found : Option ℕ) → hay ≡ slice_range bytes a b → a ≤ b → IsFirstByte (is_byte 10) hay found → IsTrue (is_some found) → line_of bytes a < line_of bytes b
later_line bytes hay a b None is le h e = absurd (cc)
later_line bytes hay a b (Some k) is le h e =
    let some : 0 < count_by (λ byte. eqb byte 10) hay = count_some (λ byte. eqb byte 10) 0 hay k h.0.high h.1 in
    let there : 0 < count_by (λ byte. eqb byte 10) (slice_range bytes a b) = subst (λ (l : List ℕ). 0 < count_by (λ byte. eqb byte 10) l) is some in
    omega (arith, lines_more bytes a b le)

-- a place is counted together with itself
pub with_itself : (counted : Counted) (bytes : List ℕ) (place : ℕ) → are_together counted bytes place place ≡ true
with_itself OverAll bytes place = refl
with_itself InEachLine bytes place = grind (arith, nat_tests)

-- one more span, that begins at the place
pub one_more_counted : (counted : Counted) (bytes : List ℕ) (place : ℕ) (spans : List Span) (span : Span) → span.start ≡ place
    → together_with counted bytes place (spans ++ span ∷ []) ≡ together_with counted bytes place spans + 1
one_more_counted counted bytes place spans span is =
    count_append (λ (s : Span). are_together counted bytes place s.start) spans (span ∷ [])
    ∙ ap (λ (b : Bool). together_with counted bytes place spans + (0 + cond b 1 0)) (ap (are_together counted bytes place) is ∙ with_itself counted bytes place)

-- in a later line none is counted
none_by_recursion : (bytes : List ℕ) (a b : ℕ) (spans : List Span) → line_of bytes a < line_of bytes b → AllByRecursion (λ span. span.start ≤ a) spans → together_with InEachLine bytes b spans ≡ 0
none_by_recursion bytes a b [] lt h = refl
none_by_recursion bytes a b (x ∷ xs) lt h =
    let below : line_of bytes x.start < line_of bytes b = omega (arith, lines_more bytes x.start a h.0) in
    let no : eqb (line_of bytes b) (line_of bytes x.start) ≡ false = grind (arith, nat_tests) in
    count_cons (λ (s : Span). are_together InEachLine bytes b s.start) x xs ∙ (ap (λ (v : Bool). cond v 1 0 + together_with InEachLine bytes b xs) no ∙ (let z : 0 + together_with InEachLine bytes b xs ≡ 0 = omega (arith, none_by_recursion bytes a b xs lt h.1) in z))

pub none_counted : (bytes : List ℕ) (a b : ℕ) (spans : List Span) → line_of bytes a < line_of bytes b → All (λ span. span.start ≤ a) spans → together_with InEachLine bytes b spans ≡ 0
none_counted bytes a b spans lt h = none_by_recursion bytes a b spans lt (recursion_from_All (λ span. span.start ≤ a) spans h)

-- once the limit is used over the whole, no span is within it
pub none_within : (limit : ℕ) (bytes : List ℕ) (place : ℕ) (before spans : List Span) → 0 < limit → limit ≤ together_with OverAll bytes place before
    → within_after OverAll limit bytes before spans ≡ []
none_within limit bytes place before [] some le = refl
none_within limit bytes place before (x ∷ xs) some le =
    let same : together_with OverAll bytes x.start before ≡ together_with OverAll bytes place before = refl in
    let no : is_within OverAll limit bytes before x ≡ false = grind (arith, nat_tests) in
    let more : together_with OverAll bytes place (before ++ x ∷ []) ≡ together_with OverAll bytes place before + 1 = one_more_counted OverAll bytes x.start before x refl in
    rw no (none_within limit bytes place (before ++ x ∷ []) xs some (omega arith))

-- what is used of the limit at a place in the same line, and in a later one
pub used_on : (limit used : ℕ) (bytes : List ℕ) (a b : ℕ) (spans : List Span) → line_of bytes b ≡ line_of bytes a → used ≡ min limit (together_with InEachLine bytes a spans)
    → used ≡ min limit (together_with InEachLine bytes b spans)
used_on limit used bytes a b spans same e = e ∙ ap (λ (line : ℕ). min limit (count_by (λ span. eqb line (line_of bytes span.start)) spans)) (sym same)

pub used_anew : (limit : ℕ) (bytes : List ℕ) (a b : ℕ) (spans : List Span) → line_of bytes a < line_of bytes b → All (λ span. span.start ≤ a) spans
    → 0 ≡ min limit (together_with InEachLine bytes b spans)
used_anew limit bytes a b spans lt behind = omega (arith, none_counted bytes a b spans lt behind)

-- a span is within the limit exactly where some of it is left
pub is_within_left : (counted : Counted) (limit used place : ℕ) (bytes : List ℕ) (spans : List Span) (span : Span) → span.start ≡ place → 0 < limit
    → used ≡ min limit (together_with counted bytes place spans) → used < limit → true ≡ is_within counted limit bytes spans span
is_within_left counted limit used place bytes spans span is some e lt =
    let there : together_with counted bytes span.start spans ≡ together_with counted bytes place spans = ap (λ (p : ℕ). together_with counted bytes p spans) is in
    grind (arith, nat_tests)

pub is_within_no_more : (counted : Counted) (limit used place : ℕ) (bytes : List ℕ) (spans : List Span) (span : Span) → span.start ≡ place → 0 < limit
    → used ≡ min limit (together_with counted bytes place spans) → limit ≤ used → false ≡ is_within counted limit bytes spans span
is_within_no_more counted limit used place bytes spans span is some e le =
    let there : together_with counted bytes span.start spans ≡ together_with counted bytes place spans = ap (λ (p : ℕ). together_with counted bytes p spans) is in
    grind (arith, nat_tests)

-- what is used once a span more is counted
pub used_more : (counted : Counted) (limit used place : ℕ) (bytes : List ℕ) (spans : List Span) (span : Span) → span.start ≡ place
    → used ≡ min limit (together_with counted bytes place spans) → used < limit → used + 1 ≡ min limit (together_with counted bytes place (spans ++ span ∷ []))
used_more counted limit used place bytes spans span is e lt = omega (arith, one_more_counted counted bytes place spans span is)

pub used_all : (counted : Counted) (limit used place : ℕ) (bytes : List ℕ) (spans : List Span) (span : Span) → span.start ≡ place
    → used ≡ min limit (together_with counted bytes place spans) → limit ≤ used → used ≡ min limit (together_with counted bytes place (spans ++ span ∷ []))
used_all counted limit used place bytes spans span is e le = omega (arith, one_more_counted counted bytes place spans span is)

-- the spans behind a place, and one more that begins there
pub behind_more : (a b : ℕ) (spans : List Span) (span : Span) → a ≤ b → span.start ≡ b → All (λ s. s.start ≤ a) spans → All (λ s. s.start ≤ b) (spans ++ span ∷ [])
behind_more a b spans span le is h = All-push (λ s. s.start ≤ b) spans span (All-weaker (λ s. s.start ≤ a) (λ s. s.start ≤ b) (λ s g. omega arith) spans h) (omega arith)

-- nothing is within a limit that is used over the whole
pub spent : (counted : Counted) (limit used place : ℕ) (bytes : List ℕ) (before spans : List Span) → counted ≡ OverAll → 0 < limit
    → used ≡ min limit (together_with counted bytes place before) → eqb used limit ≡ true → within_after counted limit bytes before spans ≡ []
spent counted limit used place bytes before spans is some e full =
    let over : used ≡ min limit (together_with OverAll bytes place before) = subst (λ (k : Counted). used ≡ min limit (together_with k bytes place before)) is e in
    subst (λ (k : Counted). within_after k limit bytes before spans ≡ []) (sym is) (none_within limit bytes place before spans some (grind (arith, nat_tests)))
