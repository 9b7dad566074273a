-- From what a searcher finds to what a matcher says of it.
use Rattle.std.proofs.Common.{◌≡◌, ℕ, zero, suc, ◌+◌, ◌<◌, ◌≤◌, Bool, true, false, List, length, replicate, Option, Some, None, IfSome, refl, sym, ap, ◌∙◌, subst, arith}
use Rattle.std.specs.Prelude.{option_and_then, option_map}
use Rattle.std.proofs.lemmas.Option.{none-some, same_Some}
use Rattle.grep_matcher.specs.Cover.{IsFirst, NoneBetween, prefers}
use Rattle.grep_matcher.specs.Groups.{HasFirst, captured, group_at}
use Rattle.grep_matcher.specs.Span.{Span}
use Rattle.hir_tree.specs.Groups.{ends_of}
use Rattle.hir_tree.specs.Tree.{Tree}
use Rattle.hir_core.specs.Found.{IsFound, IsOfLeast, span_of, whole_span}
use Rattle.grep_regex.specs.Matching.{IsWhole, MatchesAreWhole, end_at, match_at, spans_of, spans_at}
use Rattle.grep_regex.specs.MatchingLemmas.{group-span, span}
use Rattle.grep_regex.specs.NonMatching.{whole_end}

-- ends of which the start is known
from-start : (ends : Option (ℕ × ℕ)) (start : ℕ) → option_map (λ e. e.0) ends ≡ Some start → (end : ℕ) × (ends ≡ Some (start, end))
from-start None start starts = absurd (none-some start starts)
from-start (Some ends) start starts = (ends.1, ap Some (λ i. (same_Some ends.0 start starts i, ends.1)))

-- slots that are unset have no first group
unset-first : (slots : List (Option Span)) → slots ≡ replicate (length slots) None → group_at slots 0 ≡ None
unset-first slots unset = ap (λ s. group_at s 0) unset ∙ none (length slots)
  where
    none : (n : ℕ) → group_at (replicate n None) 0 ≡ None
    none zero = refl
    none (suc n) = refl

module _ (tree : Tree) (whole : MatchesAreWhole tree) (text : List ℕ) (at : ℕ) (within : at ≤ length text) where
  abbrev each : ℕ → Option (List (Option (ℕ × ℕ)))
  each = match_at tree text

  -- where nothing is found, nothing is preferred
  none-preferred : (to : ℕ) → ((place : ℕ) → at ≤ place → place < to → each place ≡ None) → NoneBetween (prefers (end_at tree text)) at to
  none-preferred to none place end from before is = none-some end (sym (ap (option_and_then whole_end) (none place from before)) ∙ is)

  -- the first match: its span, which is that of group 0
  record First (slots : List (Option Span)) : Type 0 where
    found : Span
    first : IsFirst (prefers (end_at tree text)) at (length text) (Some found)
    groups : slots ≡ spans_at tree text found.start
    whole_is : group_at slots 0 ≡ Some found

  first-found : (slots : List (Option Span)) → IsFound each at (length text) true slots → First slots
  first-found slots found =
      let least = found.1.0 in
      let here : each least ≡ Some found.0 = found.1.3 in
      let parts = whole_of least found.0 found.1.2 here in
      let ends = from-start (ends_of found.0 0) least parts.0 in
      let stops : end_at tree text least ≡ Some ends.0 = ap (option_and_then whole_end) here ∙ ap (option_map (λ e. e.1)) ends.1 in
      record {
        found = span (least, ends.0);
        first = (found.1.1, found.1.2, stops, none-preferred least found.1.4);
        groups = found.2 ∙ sym (ap spans_of here);
        whole_is = ap (λ s. group_at s 0) found.2 ∙ group-span found.0 0 ∙ ap span_of ends.1;
      }
    where
      whole_of : (least : ℕ) (groups : List (Option (ℕ × ℕ))) → least ≤ length text → each least ≡ Some groups → IsWhole text least groups
      whole_of least groups inside here = subst (λ (o : Option (List (Option (ℕ × ℕ)))). IfSome o (IsWhole text least)) here (whole text least inside)

  -- nothing is found
  none-found : (slots : List (Option Span)) → IsFound each at (length text) false slots → IsFirst (prefers (end_at tree text)) at (length text) None
  none-found slots found = none-preferred (length text + 1) (λ place from before. found.0 place from (omega arith))

  -- what `captures_at` says
  pub captures-found : (found : Bool) (slots : List (Option Span)) → IsFound each at (length text) found slots
      → HasFirst (prefers (captured true (end_at tree text))) at (length text) (spans_at tree text) slots found
  captures-found true slots found = let first = first-found slots found in (first.found, first.first, first.groups)
  captures-found false slots found = none-found slots found

  -- what `find_at` says: group 0 of the slots is the first match
  pub match-found : (found : Bool) (slots : List (Option Span)) → IsFound each at (length text) found slots
      → IsFirst (prefers (end_at tree text)) at (length text) (group_at slots 0)
  match-found true slots found =
      let first = first-found slots found in
      subst (IsFirst (prefers (end_at tree text)) at (length text)) (sym first.whole_is) first.first
  match-found false slots found =
      subst (IsFirst (prefers (end_at tree text)) at (length text)) (sym (unset-first slots found.1)) (none-found slots found)

  -- a match ends where its whole span does
  ends_as : (match : Option (List (Option (ℕ × ℕ)))) → option_and_then whole_end match ≡ option_map (λ s. s.end) (whole_span match)
  ends_as None = refl
  ends_as (Some groups) = cases (ends_of groups 0)
    where
      cases : (ends : Option (ℕ × ℕ)) → option_map (λ e. e.1) ends ≡ option_map (λ s. s.end) (span_of ends)
      cases None = refl
      cases (Some ends) = refl

  -- and begins where that begins
  starts_as : (place : ℕ) (found : Span) (match : Option (List (Option (ℕ × ℕ)))) → IfSome match (IsWhole text place) → whole_span match ≡ Some found
      → found.start ≡ place
  starts_as place found None whole is = absurd (none-some found is)
  starts_as place found (Some groups) whole is =
      let ends = from-start (ends_of groups 0) place whole.0 in
      ap (λ (s : Span). s.start) (sym (same_Some _ found (sym (ap span_of ends.1) ∙ is)))

  -- what `find_at` says of a pattern that is one text: the least whole span is the first match
  pub span-found : (found : Option Span) → IsOfLeast (λ place. whole_span (each place)) at (length text) found
      → IsFirst (prefers (end_at tree text)) at (length text) found
  span-found None least =
      λ place end from before is. none-some end (sym (ends_as (each place) ∙ ap (option_map (λ s. s.end)) (least place from (omega arith))) ∙ is)
  span-found (Some found) (place, low, high, here, before) =
      let starts : found.start ≡ place = starts_as place found (each place) (whole text place high) here in (
        omega (arith, starts),
        omega (arith, starts),
        ap (end_at tree text) starts ∙ ends_as (each place) ∙ ap (option_map (λ s. s.end)) here,
        (λ earlier end from upto is.
            none-some end (sym (ends_as (each earlier) ∙ ap (option_map (λ s. s.end)) (before earlier from (omega (arith, starts)))) ∙ is)),
      )
