-- A test whether spans are the fair cover, for examples.
use Rattle.std.proofs.Common.{◌≡◌, ℕ, zero, suc, ◌≤◌, Bool, true, false, not, ◌&&◌, ◌||◌, eqb, leb, ltb, List, [], ◌∷◌, length, Option, Some, None, arith, refl, sym, subst, ap, ◌∙◌, inl, inr}
use Rattle.std.specs.List.{list_any, AllByRecursion}
use Rattle.std.proofs.lemmas.Bool.{cases_eq}
use Rattle.std.proofs.lemmas.Bool.Decides.{nat_tests}
use Rattle.std.proofs.lemmas.List.Folds.{Any-from_list_any}
use Rattle.std.proofs.lemmas.List.Elements.{All-from_recursion}
use Rattle.grep_matcher.specs.Cover.{AccountsFor, IsFairCover, IsInTurn}
use Rattle.grep_matcher.specs.Replaced.{replaced_from}
use Rattle.grep_matcher.specs.Span.{Span}
use Rattle.grep_regex.specs.Matching.{end_at}
use Rattle.sd_replace.specs.Replacement.{Changes, Replacement, replaced_of, text_at}

abbrev accounts : ℕ → ℕ → Span → Bool
accounts place end span = eqb place span.start || ((ltb span.start place && ltb place span.end) || (eqb place span.end && eqb end place))

abbrev is_accounted : List Span → ℕ → Option ℕ → Bool
is_accounted spans place None = true
is_accounted spans place (Some end) = list_any (accounts place end) spans

-- each place up to n is accounted for
abbrev all_accounted : (ℕ → Option ℕ) → List Span → ℕ → Bool
all_accounted preferred spans zero = is_accounted spans 0 (preferred 0)
all_accounted preferred spans (suc n) = is_accounted spans (suc n) (preferred (suc n)) && all_accounted preferred spans n

abbrev is_end : Option ℕ → ℕ → Bool
is_end None end = false
is_end (Some other) end = eqb other end

abbrev all_preferred : (ℕ → Option ℕ) → ℕ → List Span → Bool
all_preferred preferred n [] = true
all_preferred preferred n (span ∷ spans) = leb span.start n && (is_end (preferred span.start) span.end && all_preferred preferred n spans)

abbrev may_follow : Span → Span → Bool
may_follow before span = leb before.end span.start && (not (eqb span.start before.end) || ltb span.start span.end)

abbrev is_in_turn : List Span → Bool
is_in_turn [] = true
is_in_turn (span ∷ []) = true
is_in_turn (before ∷ span ∷ spans) = may_follow before span && is_in_turn (span ∷ spans)

abbrev pub is_cover : (ℕ → Option ℕ) → ℕ → List Span → Bool
is_cover preferred n spans = all_preferred preferred n spans && (is_in_turn spans && all_accounted preferred spans n)

both : (a b : Bool) → a && b ≡ true → (a ≡ true) × (b ≡ true)
both true b h = (refl, h)
both false b h = absurd (cc)

accounted_for : (place end : ℕ) (span : Span) → accounts place end span ≡ true → AccountsFor span place end
accounted_for place end span h = elim (cases_eq place span.start) [
  | inl e ↦ inl e
  | inr other ↦ elim (cases_eq place span.end) [
    | inl e ↦ elim (cases_eq end place) [ inl f ↦ inr (inr (e, f)) | inr g ↦ absurd (grind (arith, nat_tests)) ]
    | inr g ↦ inr (inl (grind (arith, nat_tests), grind (arith, nat_tests)))
  ]
]

accounted : (preferred : ℕ → Option ℕ) (spans : List Span) (n place end : ℕ) → all_accounted preferred spans n ≡ true → place ≤ n → preferred place ≡ Some end → list_any (accounts place end) spans ≡ true
accounted preferred spans zero place end h within is =
    let e : place ≡ 0 = omega arith in
    subst (λ (k : ℕ). list_any (accounts k end) spans ≡ true) (sym e) (subst (λ (o : Option ℕ). is_accounted spans 0 o ≡ true) (ap preferred (sym e) ∙ is) h)
accounted preferred spans (suc n) place end h within is =
    let parts = both (is_accounted spans (suc n) (preferred (suc n))) (all_accounted preferred spans n) h in
    elim (cases_eq place (suc n)) [
      | inl e ↦ subst (λ (k : ℕ). list_any (accounts k end) spans ≡ true) (sym e) (subst (λ (o : Option ℕ). is_accounted spans (suc n) o ≡ true) (ap preferred (sym e) ∙ is) parts.0)
      | inr other ↦ accounted preferred spans n place end parts.1 (omega arith) is
    ]

the_end : (o : Option ℕ) (end : ℕ) → is_end o end ≡ true → o ≡ Some end
the_end None end h = absurd (cc)
the_end (Some other) end h = let e : other ≡ end = grind (arith, nat_tests) in ap (λ (k : ℕ). Some k) e

each : (preferred : ℕ → Option ℕ) (n : ℕ) (spans : List Span) → all_preferred preferred n spans ≡ true
    → AllByRecursion (λ span. (0 ≤ span.start) × (span.start ≤ n) × (preferred span.start ≡ Some span.end)) spans
each preferred n [] h = tt
each preferred n (x ∷ xs) h =
    let first = both (leb x.start n) (is_end (preferred x.start) x.end && all_preferred preferred n xs) h in
    let rest = both (is_end (preferred x.start) x.end) (all_preferred preferred n xs) first.1 in
    let start = first.0 in
    ((omega arith, grind (arith, nat_tests), the_end (preferred x.start) x.end rest.0), each preferred n xs rest.1)

in_turn : (spans : List Span) → is_in_turn spans ≡ true → IsInTurn spans
in_turn [] h = tt
in_turn (x ∷ []) h = tt
in_turn (x ∷ y ∷ spans) h =
    let parts = both (may_follow x y) (is_in_turn (y ∷ spans)) h in
    let follows = both (leb x.end y.start) (not (eqb y.start x.end) || ltb y.start y.end) parts.0 in
    let low = follows.0 in
    let later = follows.1 in
    ((grind (arith, nat_tests), λ e. grind (arith, nat_tests)), in_turn (y ∷ spans) parts.1)

-- spans that pass the test are the cover
cover : (preferred : ℕ → Option ℕ) (n : ℕ) (spans : List Span) → is_cover preferred n spans ≡ true → IsFairCover preferred 0 n spans
cover preferred n spans h =
    let parts = both (all_preferred preferred n spans) (is_in_turn spans && all_accounted preferred spans n) h in
    let rest = both (is_in_turn spans) (all_accounted preferred spans n) parts.1 in
    record {
      each_preferred = All-from_recursion (λ span. (0 ≤ span.start) × (span.start ≤ n) × (preferred span.start ≡ Some span.end)) spans (each preferred n spans parts.0);
      in_turn = in_turn spans rest.0;
      none_missed = λ place end low within is.
          let any = Any-from_list_any (accounts place end) spans (accounted preferred spans n place end rest.1 within is) in
          (any.1, (any.0, any.2, any.3), accounted_for place end any.1 any.4);
    }

-- a change that is computed from the spans of its cover
pub computed : (replacement : Replacement) (bytes new_bytes : List ℕ) (count : ℕ) (spans : List Span) → is_cover (end_at replacement.pattern bytes) (length bytes) spans ≡ true
    → new_bytes ≡ replaced_from (text_at replacement bytes) bytes 0 (replaced_of replacement bytes spans) → count ≡ length (replaced_of replacement bytes spans) → Changes replacement bytes new_bytes count
computed replacement bytes new_bytes count spans covers new counts =
    record { spans = spans; cover = cover (end_at replacement.pattern bytes) (length bytes) spans covers; bytes_are = new; count_is = counts }
