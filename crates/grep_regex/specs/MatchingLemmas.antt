-- From what a pattern prefers to what a matcher says of it.
use Rattle.std.proofs.Common.{◌≡◌, ℕ, zero, suc, ◌≤◌, List, [], ◌∷◌, length, map, Option, Some, None, refl, sym, ap, ◌∙◌, subst}
use Rattle.std.specs.Prelude.{option_and_then, option_map, IfSome}
use Rattle.std.proofs.lemmas.Option.{none-some, same_Some}
use Rattle.grep_matcher.specs.Cover.{IsLawful}
use Rattle.grep_matcher.specs.Groups.{AreGroups, group_at}
use Rattle.grep_matcher.specs.Replaced.{LiesWithin}
use Rattle.grep_matcher.specs.Span.{Span}
use Rattle.hir_tree.specs.Groups.{EachLiesWithin, ends_of}
use Rattle.hir_tree.specs.Tree.{Tree}
use Rattle.hir_core.specs.Found.{span_of}
use Rattle.grep_regex.specs.Matching.{IsWhole, MatchesAreWhole, end_at, match_at, spans_of, spans_at}
use Rattle.grep_regex.specs.NonMatching.{whole_end}

-- the span of two ends
abbrev pub span : ℕ × ℕ → Span
span ends = record { start = ends.0; end = ends.1 }

-- each span is that of the group of its number
pub group-span : (groups : List (Option (ℕ × ℕ))) (i : ℕ) → group_at (map span_of groups) i ≡ span_of (ends_of groups i)
group-span [] i = refl
group-span (group ∷ rest) zero = refl
group-span (group ∷ rest) (suc i) = group-span rest i

-- the span of a group that is set lies where the group does
span-lies : (n : ℕ) (ends : Option (ℕ × ℕ)) (s : Span) → ((e : ℕ × ℕ) → ends ≡ Some e → (e.0 ≤ e.1) × (e.1 ≤ n)) → span_of ends ≡ Some s → LiesWithin n s
span-lies n None s lies is = absurd (none-some s is)
span-lies n (Some ends) s lies is = subst (LiesWithin n) (same_Some (span ends) s is) (lies ends refl)

-- two ends that are known apart
both-ends : (ends : Option (ℕ × ℕ)) (start end : ℕ) → option_map (λ e. e.0) ends ≡ Some start → option_map (λ e. e.1) ends ≡ Some end → ends ≡ Some (start, end)
both-ends None start end starts stops = absurd (none-some start starts)
both-ends (Some ends) start end starts stops = ap Some (λ i. (same_Some ends.0 start starts i, same_Some ends.1 end stops i))

-- what is found at a place, where its end is told
record FoundAt (tree : Tree) (text : List ℕ) (place end : ℕ) : Type 0 where
  groups : List (Option (ℕ × ℕ))
  is : match_at tree text place ≡ Some groups
  whole : ends_of groups 0 ≡ Some (place, end)
  lies : EachLiesWithin (length text) groups

found-at : (tree : Tree) → MatchesAreWhole tree → (text : List ℕ) (place end : ℕ) → place ≤ length text → end_at tree text place ≡ Some end → FoundAt tree text place end
found-at tree whole text place end within is = cases (match_at tree text place) refl is (whole text place within)
  where
    cases : (found : Option (List (Option (ℕ × ℕ)))) → match_at tree text place ≡ found
        → option_and_then whole_end found ≡ Some end → IfSome found (IsWhole text place) → FoundAt tree text place end
    cases None same ends whole = absurd (none-some end ends)
    cases (Some groups) same ends whole =
        record { groups = groups; is = same; whole = both-ends (ends_of groups 0) place end whole.0 ends; lies = whole.1 }

-- an end lies from its place to the text's end
pub lawful_ends : (tree : Tree) → MatchesAreWhole tree → (text : List ℕ) → IsLawful (end_at tree text) (length text)
lawful_ends tree whole text place end within is =
    let found = found-at tree whole text place end within is in
    found.lies 0 (place, end) found.whole

-- group 0 of the spans of a match is the match, and each span that is set lies in the text
pub lawful_spans : (tree : Tree) → MatchesAreWhole tree → (text : List ℕ) (place end : ℕ) → place ≤ length text → end_at tree text place ≡ Some end
    → AreGroups place end (length text) (spans_at tree text place)
lawful_spans tree whole text place end within is =
    let found = found-at tree whole text place end within is in
    subst (AreGroups place end (length text)) (sym (ap spans_of found.is)) (
      (span (place, end), group-span found.groups 0 ∙ ap span_of found.whole, refl, refl),
      λ i s set. span-lies (length text) (ends_of found.groups i) s (found.lies i) (sym (group-span found.groups i) ∙ set),
    )
