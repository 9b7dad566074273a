-- The groups of the first span.
use Rattle.std.proofs.Common.{◌≡◌, ℕ, ◌+◌, ◌≤◌, inl, inr, List, [], ◌∷◌, arith, sym, subst, Bool, true, false, Option, Some, None, Result, Ok, Err, IfOk, refl}
use Rattle.std.specs.Prelude.{IsSome}
use Rattle.std.proofs.lemmas.Bool.{cases_lt, cases_eq}
use Rattle.std.proofs.lemmas.List.Elements.{recursion_from_All}
use Rattle.grep_matcher.specs.Span.{Span, same_span}
use Rattle.grep_matcher.specs.Cover.{IsLawful, IsFairCover, IsFirst, NoneBetween, prefers, accepts}
use Rattle.grep_matcher.specs.Groups.{captured, group_at, AreGroups, AreOfMatch, HasFirst}

captured_first : (b : Bool) (preferred : ℕ → Option ℕ) (place end : ℕ) → captured b preferred place ≡ Some end → (b ≡ true) × (preferred place ≡ Some end)
captured_first true preferred place end h = (refl, h)
captured_first false preferred place end h = absurd (cc)

pub captured_lawful : (b : Bool) (preferred : ℕ → Option ℕ) (n : ℕ) → IsLawful preferred n → IsLawful (captured b preferred) n
captured_lawful b preferred n lawful place end l h = lawful place end l (captured_first b preferred place end h).1

module _ (b : Bool) (preferred : ℕ → Option ℕ) (n : ℕ) (of : ℕ → List (Option Span)) (lawful : (place end : ℕ) → place ≤ n → preferred place ≡ Some end → b ≡ true → AreGroups place end n (of place)) where
  -- captures whose group 0 is `found` hold the groups of that span
  first_of : (P : ℕ → ℕ → Type 0) → ((place end : ℕ) → P place end → captured b preferred place ≡ Some end) → (at : ℕ) (groups : List (Option Span)) (found : Span) (answer : Bool)
      → HasFirst P at n of groups answer → answer ≡ true → group_at groups 0 ≡ Some found → IsFirst P at n (Some found) × (groups ≡ of found.start)
  first_of P known_of at groups found false h is zeroth = absurd (cc)
  first_of P known_of at groups found true (span, first, same) is zeroth =
      let known = captured_first b preferred span.start span.end (known_of span.start span.end first.2) in
      let these = lawful span.start span.end first.1 known.1 known.0 in
      let zeroth_of : group_at (of span.start) 0 ≡ Some found = subst (λ (xs : List (Option Span)). group_at xs 0 ≡ Some found) same zeroth in
      let one : these.0.0 ≡ found = (let k = these.0.1 in cc) in
      let starts : span.start ≡ found.start = (let s = these.0.2 in cc) in
      let ends : span.end ≡ found.end = (let e = these.0.3 in cc) in
      let all : span ≡ found = same_span span found starts ends in
      (subst (λ (x : Span). IsFirst P at n (Some x)) all first, subst (λ (x : Span). groups ≡ of x.start) all same)

  pub first_found : (at : ℕ) (groups : List (Option Span)) (found : Span) (answer : Bool) → HasFirst (prefers (captured b preferred)) at n of groups answer → answer ≡ true → group_at groups 0 ≡ Some found
      → IsFirst (prefers (captured b preferred)) at n (Some found) × (groups ≡ of found.start)
  first_found = first_of (prefers (captured b preferred)) (λ place end p. p)

  pub first_accepted : (skip : Option ℕ) (at : ℕ) (groups : List (Option Span)) (found : Span) (answer : Bool) → HasFirst (accepts skip (captured b preferred)) at n of groups answer → answer ≡ true → group_at groups 0 ≡ Some found
      → IsFirst (accepts skip (captured b preferred)) at n (Some found) × (groups ≡ of found.start)
  first_accepted skip = first_of (accepts skip (captured b preferred)) (λ place end p. p.0)

  -- the groups found are those of a match in the haystack
  pub of_match : (skip : Option ℕ) (at : ℕ) (groups : List (Option Span)) (answer : Bool) → HasFirst (accepts skip (captured b preferred)) at n of groups answer → answer ≡ true → AreOfMatch n groups
  of_match skip at groups false h is = absurd (cc)
  of_match skip at groups true (span, first, same) is =
      let known = captured_first b preferred span.start span.end first.2.0 in
      let these = lawful span.start span.end first.1 known.1 known.0 in
      subst (λ (xs : List (Option Span)). AreOfMatch n xs) (sym same) (set_first (of span.start) these.0.0 these.0.1, these.1)
    where
      set_first : (xs : List (Option Span)) (span : Span) → group_at xs 0 ≡ Some span → IsSome (group_at xs 0)
      set_first xs span is = subst (λ (o : Option Span). IsSome o) (sym is) refl

  pub accepted : (skip : Option ℕ) (at : ℕ) (groups : List (Option Span)) (found : Span) → IsFirst (prefers (captured b preferred)) at n (Some found) × (groups ≡ of found.start) → ((found.start ≡ found.end) × (skip ≡ Some found.end) → ⊥)
      → HasFirst (accepts skip (captured b preferred)) at n of groups true
  accepted skip at groups found (h, same) not = (found, (h.0, h.1, (h.2, λ k e. not (sym e, let s : found.end ≡ found.start = e in cc)), λ place end l r q. h.3 place end l r q.0), same)

  none_refused : (skip : Option ℕ) (at high : ℕ) (found : Span) → IsFirst (prefers (captured b preferred)) at n (Some found) → found.start ≡ found.end → skip ≡ Some found.end
      → NoneBetween (prefers (captured b preferred)) (found.end + 1) high → NoneBetween (accepts skip (captured b preferred)) at high
  none_refused skip at high found f empty is rest place end l r q = elim (cases_lt place found.start) [
    | inl lt ↦ f.3 place end l lt q.0
    | inr ge ↦ elim (cases_eq place found.start) [
      | inl e ↦
          let here : captured b preferred found.start ≡ Some end = subst (λ (s : ℕ). captured b preferred s ≡ Some end) e q.0 in
          let there : captured b preferred found.start ≡ Some found.end = f.2 in
          let ends : end ≡ found.end = cc in
          q.1 (let k : found.end ≡ place = omega arith in cc) (omega arith)
      | inr ne ↦ rest place end (omega arith) r q.0
    ]
  ]

  pub refused : {E : Type 0} (skip : Option ℕ) (at : ℕ) (old groups : List (Option Span)) (found : Span) (r : Result Bool E) → IsFirst (prefers (captured b preferred)) at n (Some found) × (old ≡ of found.start) → (found.start ≡ found.end) × (skip ≡ Some found.end)
      → IfOk r (HasFirst (prefers (captured b preferred)) (found.end + 1) n of groups) → IfOk r (HasFirst (accepts skip (captured b preferred)) at n of groups)
  refused skip at old groups found (Err e) h is v = tt
  refused skip at old groups found (Ok true) h is (span, first, same) =
      let rise = is.0 in
      let later : found.end + 1 ≤ span.start = first.0 in
      let begins = h.0.0 in
      (span, (omega arith, first.1, (first.2, λ k e. absurd (let i = is.1 in let s : Some span.start ≡ Some found.end = cc in let u : span.start ≡ found.end = cc in omega arith)), none_refused skip at span.start found h.0 is.0 is.1 first.3), same)
  refused skip at old groups found (Ok false) h is v = none_refused skip at (n + 1) found h.0 is.0 is.1 v

pub none_found : (P : ℕ → ℕ → Type 0) (at n : ℕ) (of : ℕ → List (Option Span)) (groups : List (Option Span)) (answer : Bool) → HasFirst P at n of groups answer → answer ≡ false → IsFirst P at n None
none_found P at n of groups false h is = h
none_found P at n of groups true h is = absurd (cc)

-- a matcher that doesn't capture has the empty cover
pub none_captured : (preferred : ℕ → Option ℕ) (at n : ℕ) (spans : List Span) → IsFairCover (captured false preferred) at n spans → spans ≡ []
none_captured preferred at n [] cover = refl
none_captured preferred at n (span ∷ spans) cover =
    let first = (recursion_from_All (λ (x : Span). (at ≤ x.start) × (x.start ≤ n) × (captured false preferred x.start ≡ Some x.end)) (span ∷ spans) cover.each_preferred).0 in
    let is : None ≡ Some span.end = first.2 in
    absurd (cc)
