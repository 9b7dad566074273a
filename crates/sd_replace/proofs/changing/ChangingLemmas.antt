-- How far a change has come: what was found, and what is written.
use Rattle.std.proofs.Common.{◌≡◌, ℕ, ◌+◌, ◌<◌, ◌≤◌, Bool, true, false, cond, List, [], ◌∷◌, ◌++◌, append_assoc, length, drop, slice_range, Option, Some, None, arith, refl, sym, subst, ap, ◌∙◌, ◌↔◌, inl, inr}
use Rattle.std.specs.Prelude.{IsTrue, is_some, Result, Ok, Err, IfOk, IfSome}
use Rattle.std.proofs.lemmas.Bool.{cases_lt}
use Rattle.std.proofs.lemmas.Bool.Decides.{nat_tests}
use Rattle.grep_matcher.specs.Cover.{IsLawful, IsFirst, IsAfter, accepts, prefers}
use Rattle.grep_matcher.specs.Replaced.{replaced_from}
use Rattle.grep_matcher.specs.Span.{Span}
use Rattle.grep_matcher.proofs.CoverLemmas.{Chain, chain_earlier, cover_from_chain}
use Rattle.sd_replace.proofs.changing.SearchLemmas.{IsState, chain_step, rest_exists}
use Rattle.grep_regex.specs.Matching.{end_at}
use Rattle.sd_replace.specs.Replacement.{Replacement, Changes, is_within, within_after, text_at}
use Rattle.sd_change.specs.declared.changed.Changed.{Changed}
use Rattle.grep_regex.specs.Matching.{MatchesAreWhole}
use Rattle.grep_regex.specs.MatchingLemmas.{lawful_ends}
use Rattle.grep_regex.specs.declared.matcher.Pattern.{Pattern}
use Rattle.hir_tree.specs.Tree.{tree_of}
use Rattle.sd_replace.specs.FirstMatch.{IsAtTheStart, StandsAtTheFirst}
use Rattle.sd_replace.specs.OneChange.{one_change}
use Rattle.sd_replace.specs.Quota.{Knows, Limits}
use Rattle.sd_replace.specs.Searching.{AreOfMatch}
use Rattle.sd_replace.specs.declared.replacer.Counted.{Counted}
use Rattle.sd_replace.specs.Writing.{HasWritten}
use Rattle.sd_replace.specs.declared.quota.Quota.{Quota}
use Rattle.sd_replace.specs.declared.replacer.Replacer.{Replacer}
use Rattle.sd_replace.specs.declared.searching.Search.{Search}
use Rattle.sd_replace.specs.declared.changing.Made.{Made}

module _ (preferred : ℕ → Option ℕ) (bytes : List ℕ) (lawful : IsLawful preferred (length bytes)) where
  -- after these spans the search goes on: whatever it finds from here on completes the cover
  pub record HasFound (done : List Span) (from : ℕ) (last : Option ℕ) : Type 0 where
    pub state : IsState (length bytes) from last
    pub leads : (rest : List Span) → Chain (accepts last preferred) (length bytes) from rest → Chain (prefers preferred) (length bytes) 0 (done ++ rest)

  pub found_none : HasFound [] 0 None
  found_none = record {
    state = record { within = omega arith; before = λ last k. absurd (cc) };
    leads = λ rest chain. chain_earlier (accepts None preferred) (prefers preferred) (length bytes) 0 0 rest (omega arith) (λ place end l r p. absurd (omega arith)) (λ place end l p. p.0) (λ place end l p. (p, λ k. absurd (cc)))
        (λ place end l p. (lawful place end l p.0).0) chain;
  }

  pub found_more : (done : List Span) (from next : ℕ) (last : Option ℕ) (x : Span) → HasFound done from last → IsFirst (accepts last preferred) from (length bytes) (Some x) → IsAfter x next
      → HasFound (done ++ x ∷ []) next (Some x.end)
  found_more done from next last x h first after = record {
    state = (let ends = lawful x.start x.end first.1 first.2.0 in record { within = omega arith; before = λ l k. let same : x.end ≡ l = cc in omega arith });
    leads = λ rest chain. subst (λ (spans : List Span). Chain (prefers preferred) (length bytes) 0 spans) (sym (append_assoc done (x ∷ []) rest))
        (h.leads (x ∷ rest) (chain_step preferred (length bytes) lawful last from next x rest h.state first after chain));
  }

module _ (replacement : Replacement) (bytes : List ℕ) where
  abbrev text : Span → List ℕ
  text span = text_at replacement bytes span

  -- the spans within the limit after others
  abbrev after : List Span → List Span → List Span
  after done rest = within_after replacement.counted replacement.limit bytes done rest

  pub written_none : (made : List ℕ) (copied count : ℕ) → made ≡ [] → copied ≡ 0 → count ≡ 0 → HasWritten replacement bytes [] made copied count
  written_none made copied count none start zero = record {
    bytes_are = λ rest. ap (λ (l : List ℕ). l ++ replaced_from text bytes 0 (after [] rest)) (sym none) ∙ ap (λ (k : ℕ). made ++ replaced_from text bytes k (after [] rest)) (sym start);
    count_is = λ rest. omega (arith, zero);
  }

  module _ (done : List Span) (x : Span) (made : List ℕ) (copied count : ℕ) (h : HasWritten replacement bytes done made copied count) where
    -- a span more that is within the limit
    pub written_more : (new : List ℕ) (now counted : ℕ) (added : List ℕ) → true ≡ is_within replacement.counted replacement.limit bytes done x
        → new ≡ (made ++ slice_range bytes copied x.start) ++ added → added ≡ text_at replacement bytes x → now ≡ x.end → counted ≡ count + 1
        → HasWritten replacement bytes (done ++ x ∷ []) new now counted
    written_more new now counted added within put is ends counts = record {
      bytes_are = λ rest.
          ap (λ (spans : List Span). replaced_from text bytes 0 (after [] spans)) (append_assoc done (x ∷ []) rest)
          ∙ (h.bytes_are (x ∷ rest)
          ∙ (ap (λ (b : Bool). made ++ replaced_from text bytes copied (cond b (x ∷ []) [] ++ after (done ++ x ∷ []) rest)) (sym within)
          ∙ (sym (append_assoc made (slice_range bytes copied x.start) (text x ++ later rest x.end))
          ∙ (sym (append_assoc (made ++ slice_range bytes copied x.start) (text x) (later rest x.end))
          ∙ (ap (λ (l : List ℕ). ((made ++ slice_range bytes copied x.start) ++ l) ++ later rest x.end) (sym is)
          ∙ (ap (λ (l : List ℕ). l ++ later rest x.end) (sym put) ∙ ap (λ (k : ℕ). new ++ later rest k) (sym ends)))))));
      count_is = λ rest.
          ap (λ (spans : List Span). length (after [] spans)) (append_assoc done (x ∷ []) rest)
          ∙ (h.count_is (x ∷ rest)
          ∙ (ap (λ (b : Bool). count + length (cond b (x ∷ []) [] ++ after (done ++ x ∷ []) rest)) (sym within)
          ∙ (let e : count + length (x ∷ after (done ++ x ∷ []) rest) ≡ counted + length (after (done ++ x ∷ []) rest) = omega (arith, counts) in e)));
    }
      where
        later : List Span → ℕ → List ℕ
        later rest from = replaced_from text bytes from (after (done ++ x ∷ []) rest)

    -- and one that isn't
    pub written_less : false ≡ is_within replacement.counted replacement.limit bytes done x → HasWritten replacement bytes (done ++ x ∷ []) made copied count
    written_less without = record {
      bytes_are = λ rest.
          ap (λ (spans : List Span). replaced_from text bytes 0 (after [] spans)) (append_assoc done (x ∷ []) rest)
          ∙ (h.bytes_are (x ∷ rest)
          ∙ ap (λ (b : Bool). made ++ replaced_from text bytes copied (cond b (x ∷ []) [] ++ after (done ++ x ∷ []) rest)) (sym without));
      count_is = λ rest.
          ap (λ (spans : List Span). length (after [] spans)) (append_assoc done (x ∷ []) rest)
          ∙ (h.count_is (x ∷ rest)
          ∙ ap (λ (b : Bool). count + length (cond b (x ∷ []) [] ++ after (done ++ x ∷ []) rest)) (sym without));
    }

  module _ (lawful : IsLawful (end_at replacement.pattern bytes) (length bytes)) where
    module _ (done : List Span) (from : ℕ) (last : Option ℕ) (found : HasFound (end_at replacement.pattern bytes) bytes lawful done from last)
        (made : List ℕ) (copied count : ℕ) (h : HasWritten replacement bytes done made copied count) where
      made_with : (rest : List Span) (new_bytes : List ℕ) (counted : ℕ) → Chain (accepts last (end_at replacement.pattern bytes)) (length bytes) from rest → after done rest ≡ []
          → new_bytes ≡ made ++ drop copied bytes → counted ≡ count → Changes replacement bytes new_bytes counted
      made_with rest new_bytes counted chain none new counts = record {
        spans = done ++ rest;
        cover = cover_from_chain (end_at replacement.pattern bytes) 0 (length bytes) (done ++ rest) lawful (found.leads rest chain);
        bytes_are = new ∙ (ap (λ (spans : List Span). made ++ replaced_from text bytes copied spans) (sym none) ∙ sym (h.bytes_are rest));
        count_is = counts ∙ ((let e : count ≡ count + 0 = omega arith in e) ∙ (ap (λ (spans : List Span). count + length spans) (sym none) ∙ sym (h.count_is rest)));
      }

      -- where no span is left
      pub made_at_the_end : (new_bytes : List ℕ) (counted : ℕ) → IsFirst (accepts last (end_at replacement.pattern bytes)) from (length bytes) None
          → new_bytes ≡ made ++ drop copied bytes → counted ≡ count → Changes replacement bytes new_bytes counted
      made_at_the_end new_bytes counted none new counts = made_with [] new_bytes counted none refl new counts

      -- where none that is left is within the limit
      pub made_by_the_limit : (new_bytes : List ℕ) (counted : ℕ) → ((rest : List Span) → after done rest ≡ [])
          → new_bytes ≡ made ++ drop copied bytes → counted ≡ count → Changes replacement bytes new_bytes counted
      made_by_the_limit new_bytes counted none new counts =
          let rest = rest_exists (end_at replacement.pattern bytes) (length bytes) lawful last from in
          made_with rest.0 new_bytes counted rest.1 (none rest.0) new counts

    -- the first span of the cover, if there is one, is within any limit, so that the count tells of it
    pub has_first : (found : Option Span) → IsFirst (prefers (end_at replacement.pattern bytes)) 0 (length bytes) found
        → (new_bytes : List ℕ) × (count : ℕ) × Changes replacement bytes new_bytes count × (IsTrue (is_some found) ↔ (0 < count))
    has_first None none = (
      drop 0 bytes,
      0,
      record { spans = []; cover = cover_from_chain (end_at replacement.pattern bytes) 0 (length bytes) [] lawful none; bytes_are = refl; count_is = refl },
      ((λ e. absurd (cc)), (λ lt. absurd (omega arith))),
    )
    has_first (Some x) first =
        let by = first_after x in
        let done = found_more (end_at replacement.pattern bytes) bytes lawful [] 0 by.0 None x (found_none (end_at replacement.pattern bytes) bytes lawful)
        (first.0, first.1, (first.2, λ k. absurd (cc)), λ place end l r p. first.3 place end l r p.0) by.1 in
        let rest = rest_exists (end_at replacement.pattern bytes) (length bytes) lawful (Some x.end) by.0 in
        let spans : List Span = x ∷ rest.0 in (
          replaced_from text bytes 0 (after [] spans),
          length (after [] spans),
          record { spans = spans; cover = cover_from_chain (end_at replacement.pattern bytes) 0 (length bytes) spans lawful (done.leads rest.0 rest.1); bytes_are = refl; count_is = refl },
          ((λ e. first_counts x rest.0), (λ lt. refl)),
        )
      where
        first_after : (y : Span) → (next : ℕ) × IsAfter y next
        first_after y = elim (cases_lt y.start y.end) [
          | inl lt ↦ (y.end, (omega arith, omega arith, λ _. refl, λ e. absurd (omega arith)))
          | inr ge ↦ (y.end + 1, (omega arith, omega arith, λ lt. absurd (omega arith), λ _. refl))
        ]

        first_counts : (y : Span) (ys : List Span) → 0 < length (after [] (y ∷ ys))
        first_counts y ys =
            let is : is_within replacement.counted replacement.limit bytes [] y ≡ true = grind (arith, nat_tests) in
            subst (λ (b : Bool). 0 < length (cond b (y ∷ []) [] ++ after (y ∷ []) ys)) (sym is) (omega arith)

-- where the loop stands at a span: it was found, those before it are dealt with, and the quota knows of them
pub record Stands (replacement : Replacement) (bytes : List ℕ) (lawful : IsLawful (end_at replacement.pattern bytes) (length bytes)) (from : ℕ) (last : Option ℕ) (quota : Quota) (made : Made) (span : Span) : Type 0 where
  pub done : List Span
  pub found : HasFound (end_at replacement.pattern bytes) bytes lawful (done ++ span ∷ []) from last
  pub written : HasWritten replacement bytes done made.new_bytes.items made.copied made.count
  pub known : Knows quota done

-- what a quota tells is what its replacer tells
pub as_within : (quota : Quota) (replacement : Replacement) (bytes : List ℕ) (done : List Span) (x : Span) (b : Bool) → Limits quota replacement bytes
    → b ≡ is_within quota.counted quota.limit quota.content.now done x → b ≡ is_within replacement.counted replacement.limit bytes done x
as_within quota replacement bytes done x b limits e =
    e
    ∙ (ap (λ (k : Counted). is_within k quota.limit quota.content.now done x) limits.counted
    ∙ (ap (λ (n : ℕ). is_within replacement.counted n quota.content.now done x) limits.limit ∙ ap (λ (s : List ℕ). is_within replacement.counted replacement.limit s done x) limits.content))

pub as_after : (quota : Quota) (replacement : Replacement) (bytes : List ℕ) (done rest : List Span) → Limits quota replacement bytes
    → within_after quota.counted quota.limit quota.content.now done rest ≡ [] → within_after replacement.counted replacement.limit bytes done rest ≡ []
as_after quota replacement bytes done rest limits e =
    subst (λ (k : Counted). within_after k replacement.limit bytes done rest ≡ []) limits.counted
    (subst (λ (n : ℕ). within_after quota.counted n bytes done rest ≡ []) limits.limit
    (subst (λ (s : List ℕ). within_after quota.counted quota.limit s done rest ≡ []) limits.content e))

-- what a search of the same pattern finds
pub as_first : (m p : Pattern) (bytes : List ℕ) (last : Option ℕ) (from : ℕ) (o : Option Span) → m ≡ p
    → IsFirst (accepts last (end_at (tree_of m.searcher) bytes)) from (length bytes) o → IsFirst (accepts last (end_at (tree_of p.searcher) bytes)) from (length bytes) o
as_first m p bytes last from o pattern first =
    subst (λ (q : Pattern). IsFirst (accepts last (end_at (tree_of q.searcher) bytes)) from (length bytes) o) pattern first

pub as_match : (m p : Pattern) (bytes : List ℕ) (place : ℕ) (groups : List (Option Span)) → m ≡ p
    → AreOfMatch (tree_of m.searcher) bytes place groups → AreOfMatch (tree_of p.searcher) bytes place groups
as_match m p bytes place groups pattern of = subst (λ (q : Pattern). AreOfMatch (tree_of q.searcher) bytes place groups) pattern of

-- what is found by a search at its start is the first match, at which the search then stands
module _ (replacer : Replacer) (text : List ℕ) (search later : Search) (start : IsAtTheStart replacer search) where
  abbrev FromStart : Option Span → Type 0
  FromStart = IsFirst (accepts None (end_at (tree_of replacer.matcher.searcher) text)) 0 (length text)

  abbrev FromThere : Option Span → Type 0
  FromThere = IsFirst (accepts search.last (end_at (tree_of search.matcher.now.searcher) text)) search.from (length text)

  as_start : (o : Option Span) → FromThere o → FromStart o
  as_start o first =
      subst (λ (k : ℕ). IsFirst (accepts None (end_at (tree_of replacer.matcher.searcher) text)) k (length text) o) start.from
      (subst (λ (l : Option ℕ). IsFirst (accepts l (end_at (tree_of replacer.matcher.searcher) text)) search.from (length text) o) start.last
      (as_first search.matcher.now replacer.matcher text search.last search.from o start.pattern first))

  pub first_found : {E : Type 0} (found : Result (Option Span) E) → IfOk found FromThere → IfOk found FromStart
  first_found (Ok o) first = as_start o first
  first_found (Err e) first = tt

  pub first_stands : {E : Type 0} (found : Result (Option Span) E) → IfOk found FromThere → IfOk found (λ o. IfSome o (λ span. IsAfter span later.from))
      → IfOk found (λ o. IfSome o (λ span. later.last ≡ Some span.end)) → IfOk found (λ o. IfSome o (λ span. AreOfMatch (tree_of search.matcher.now.searcher) text span.start later.groups))
      → later.matcher.now ≡ search.matcher.now → IfOk found (λ o. IfSome o (StandsAtTheFirst replacer text later))
  first_stands (Ok (Some x)) first after last groups same = record {
    pattern = same ∙ start.pattern;
    first = as_start (Some x) first;
    after = after;
    last = last;
    groups = as_match search.matcher.now replacer.matcher text x.start later.groups start.pattern groups;
  }
  first_stands (Ok None) first after last groups same = tt
  first_stands (Err e) first after last groups same = tt

-- the search goes on behind the start of what it found
pub onward : (span : Span) (next : ℕ) → span.start ≤ span.end → IsAfter span next → span.start < next
onward span next rises after = elim (cases_lt span.start span.end) [
  | inl lt ↦ let ends = after.0 in omega arith
  | inr ge ↦ let past : next ≡ span.end + 1 = after.3 (omega arith) in omega arith
]

-- once the rest is copied
pub finished : {E : Type 0} (replacement : Replacement) (bytes : List ℕ) (made : Made) (result : Result Changed E)
    → IfOk result (λ changed. changed.new_bytes.items ≡ made.new_bytes.items ++ drop made.copied bytes) → IfOk result (λ changed. changed.count ≡ made.count)
    → Changes replacement bytes (made.new_bytes.items ++ drop made.copied bytes) made.count
    → IfOk result (λ changed. Changes replacement bytes changed.new_bytes.items changed.count)
finished replacement bytes made (Ok changed) new counts changes =
    subst (λ (l : List ℕ). Changes replacement bytes l changed.count) (sym new) (subst (λ (n : ℕ). Changes replacement bytes (made.new_bytes.items ++ drop made.copied bytes) n) (sym counts) changes)
finished replacement bytes made (Err error) new counts changes = tt

-- the count is below a bound, and stays so
pub few_of : {E : Type 0} (count most : ℕ) (result : Result Changed E) → IfOk result (λ changed. changed.count ≡ count) → count ≤ most → IfOk result (λ changed. changed.count ≤ most)
few_of count most (Ok changed) same few = omega (arith, same, few)
few_of count most (Err error) same few = tt

-- where nothing is found, nothing changes
pub nothing_changes : (replacement : Replacement) (bytes : List ℕ) (lawful : IsLawful (end_at replacement.pattern bytes) (length bytes)) (found : Option Span) → ((x : Span) → found ≡ Some x → ⊥)
    → IsFirst (accepts None (end_at replacement.pattern bytes)) 0 (length bytes) found → Changes replacement bytes bytes 0
nothing_changes replacement bytes lawful (Some x) nothing first = absurd (nothing x refl)
nothing_changes replacement bytes lawful None nothing first = record {
  spans = [];
  cover = cover_from_chain (end_at replacement.pattern bytes) 0 (length bytes) [] lawful (λ place end l r p. first place end l r (p, λ k. absurd (cc)));
  bytes_are = refl;
  count_is = refl;
}

-- where a match is found, a span is replaced
pub something_changes : (replacement : Replacement) (whole : MatchesAreWhole replacement.pattern) (bytes new_bytes : List ℕ) (count : ℕ) (x : Span)
    → IsFirst (accepts None (end_at replacement.pattern bytes)) 0 (length bytes) (Some x) → Changes replacement bytes new_bytes count → 0 < count
something_changes replacement whole bytes new_bytes count x first changes =
    let there = has_first replacement bytes (lawful_ends replacement.pattern whole bytes) (Some x) (first.0, first.1, first.2.0, λ place end l r p. first.3 place end l r (p, λ k. absurd (cc))) in
    let same = one_change replacement whole bytes new_bytes there.0 count there.1 changes there.2 in
    subst (λ (n : ℕ). 0 < n) (sym same.1) (there.3.0 refl)
