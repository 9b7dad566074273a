-- The outcomes that a table of places tells.
use Rattle.std.proofs.Common.{◌≡◌, ◌<◌, ◌+◌, ℕ, List, [], ◌∷◌, ◌++◌, length, get_or, take, refl, sym, ◌∙◌, ap, subst, Bool, true, false, cond}
use Rattle.std.specs.Prelude.{Option, Some, None}
use Rattle.std.specs.Option.{unwrap_or}
use Rattle.std.specs.declared.cmp.Ordering.{Ordering}
use Rattle.std.specs.declared.cmp.Ordering.TheVariants.{Less, Equal, Greater}
use Rattle.std.specs.Ordering.{is_eq}
use Rattle.std.specs.List.{filter, slice_get, All, AllByRecursion}
use Rattle.std.specs.List.Sorted.{IsStrictlySortedBy}
use Rattle.std.specs.Cmp.Lexicographic.{lists_ties, texts_ties, lists_equiv, nat_list_eq_equiv}
use Rattle.std.specs.Map.{lookup, keys_of}
use Rattle.std.specs.Map.Calls.{RetainsPairs}
use Rattle.std.specs.BTreeMap.{BTreeMap, is_at, IsOrdered}
use Rattle.std.proofs.lemmas.Cmp.{eq_by_cmp_equiv}
use Rattle.std.proofs.lemmas.Map.{lookup-none}
use Rattle.std.proofs.lemmas.Map.Keys.{sorted_tail, IsDistinct-from_sorted}
use Rattle.std.proofs.lemmas.Map.Entries.{none_past_head, place_from_lookup, lookup-filter-values, option_filter}
use Rattle.std.proofs.lemmas.Map.Views.{All-found}
use Rattle.std.proofs.lemmas.Option.{slice_get_within, get_or_from_slice_get}
use Rattle.std.proofs.lemmas.List.Elements.{All-filter, filter_passes}
use Rattle.sd_io.specs.Tree.{NameList, name_cmp, name_list_cmp}
use Rattle.sd_io.specs.Outcomes.{Outcome, never_used, same_place, put}
use Rattle.mem_io.specs.Log.{has_other, after, outcomes_after}
use Rattle.mem_io.specs.declared.log.Change.{Change}
use Rattle.mem_io.proofs.log.ToldLemmas.{after_last}
use Rattle.std.proofs.lemmas.List.{take_more}
use Rattle.mem_io.specs.OutcomeTable.{told_outcomes, Counts}
use Rattle.mem_io.proofs.tree.EntryLemmas.{name_list_total, name_list_exact}

-- ---- the outcomes of one place are put

same_key : (p q : NameList) → is_at (name_list_cmp p) q ≡ same_place q p
same_key p q = sym (lists_ties name_cmp texts_ties p q) ∙ (lists_equiv nat_list_eq_equiv).symm p q

pub put_told : (es fs : List (NameList × List Outcome)) (place : NameList) (list : List Outcome)
    → ((q : NameList) → lookup (is_at (name_list_cmp q)) fs ≡ cond (is_at (name_list_cmp place) q) (Some list) (lookup (is_at (name_list_cmp q)) es)) → told_outcomes fs ≡ put place list (told_outcomes es)
put_told es fs place list u = λ i q. at q i
  where
    by : (b : Bool) (o : Option (List Outcome)) → unwrap_or (cond b (Some list) o) never_used ≡ cond b list (unwrap_or o never_used)
    by true o = refl
    by false o = refl

    at : (q : NameList) → told_outcomes fs q ≡ put place list (told_outcomes es) q
    at q =
        ap (λ (o : Option (List Outcome)). unwrap_or o never_used) (u q) ∙ by (is_at (name_list_cmp place) q) (lookup (is_at (name_list_cmp q)) es)
        ∙ ap (λ b. cond b list (told_outcomes es q)) (same_key place q)

-- ---- the outcomes of each place are changed, or it isn't listed any more

-- a key in order comes once
once : (q : NameList) (e : NameList × List Outcome) (es : List (NameList × List Outcome)) → IsStrictlySortedBy name_list_cmp (keys_of (e ∷ es)) → name_list_cmp q e.0 ≡ Equal
    → lookup (is_at (name_list_cmp q)) es ≡ None
once q e es sorted is =
    lookup-none (is_at (name_list_cmp q)) es
    (none_past_head (eq_by_cmp_equiv name_list_total) q e es (IsDistinct-from_sorted name_list_cmp (keys_of (e ∷ es)) sorted) (ap is_eq is))

pub retained_told : {F : Type 0} (T : F → NameList → List Outcome → Bool → List Outcome → F → Type 0) (f : F) (g : NameList → List Outcome → List Outcome) → ((q : NameList) → g q never_used ≡ never_used)
    → ((k : NameList) (v : List Outcome) (b : Bool) (w : List Outcome) (f' : F) → T f k v b w f' → (cond b w never_used ≡ g k v) × (f' ≡ f))
    → (es left : List (NameList × List Outcome)) → IsStrictlySortedBy name_list_cmp (keys_of es) → RetainsPairs T f es left → (q : NameList) → told_outcomes left q ≡ g q (told_outcomes es q)
retained_told T f g fixed calls [] left sorted none q = ap (λ ls. told_outcomes ls q) none ∙ sym (fixed q)
retained_told T f g fixed calls (e ∷ es) left sorted h q =
    let call = calls e.0 e.1 h.0 h.1 h.2 h.4 in
    let rest = retained_told T f g fixed calls es h.3 (sorted_tail name_list_cmp e.0 (keys_of es) sorted) (subst (λ f'. RetainsPairs T f' es h.3) call.1 h.5) q in
    ap (λ ls. told_outcomes ls q) h.6 ∙ by (name_list_cmp q e.0) refl h.0 call.0 rest
  where
    found : Bool → List Outcome
    found b = told_outcomes (cond b ((e.0, h.1) ∷ h.3) h.3) q

    here : (r : Ordering) → name_list_cmp q e.0 ≡ r → told_outcomes ((e.0, h.1) ∷ h.3) q ≡ unwrap_or (cond (is_eq r) (Some h.1) (lookup (is_at (name_list_cmp q)) h.3)) never_used
    here r is = ap (λ (r : Ordering). unwrap_or (cond (is_eq r) (Some h.1) (lookup (is_at (name_list_cmp q)) h.3)) never_used) is

    by : (r : Ordering) → name_list_cmp q e.0 ≡ r → (b : Bool) → cond b h.1 never_used ≡ g e.0 e.1 → told_outcomes h.3 q ≡ g q (told_outcomes es q)
        → told_outcomes (cond b ((e.0, h.1) ∷ h.3) h.3) q ≡ g q (unwrap_or (cond (is_eq (name_list_cmp q e.0)) (Some e.1) (lookup (is_at (name_list_cmp q)) es)) never_used)
    by Less is true call rest = here Less is ∙ rest ∙ ap (λ (r : Ordering). g q (unwrap_or (cond (is_eq r) (Some e.1) (lookup (is_at (name_list_cmp q)) es)) never_used)) (sym is)
    by Less is false call rest = rest ∙ ap (λ (r : Ordering). g q (unwrap_or (cond (is_eq r) (Some e.1) (lookup (is_at (name_list_cmp q)) es)) never_used)) (sym is)
    by Greater is true call rest = here Greater is ∙ rest ∙ ap (λ (r : Ordering). g q (unwrap_or (cond (is_eq r) (Some e.1) (lookup (is_at (name_list_cmp q)) es)) never_used)) (sym is)
    by Greater is false call rest = rest ∙ ap (λ (r : Ordering). g q (unwrap_or (cond (is_eq r) (Some e.1) (lookup (is_at (name_list_cmp q)) es)) never_used)) (sym is)
    by Equal is true call rest =
        here Equal is ∙ call ∙ ap (λ p. g p e.1) (sym (name_list_exact q e.0 is))
        ∙ ap (λ (r : Ordering). g q (unwrap_or (cond (is_eq r) (Some e.1) (lookup (is_at (name_list_cmp q)) es)) never_used)) (sym is)
    by Equal is false call rest =
        rest ∙ ap (λ (o : Option (List Outcome)). g q (unwrap_or o never_used)) (once q e es sorted is) ∙ fixed q ∙ call ∙ ap (λ p. g p e.1) (sym (name_list_exact q e.0 is))
        ∙ ap (λ (r : Ordering). g q (unwrap_or (cond (is_eq r) (Some e.1) (lookup (is_at (name_list_cmp q)) es)) never_used)) (sym is)

-- ---- one change more

pub noted_more : (first : ℕ) (changes : List Change) (i : ℕ) (change : Change) → i < length changes → change ≡ get_or changes i change
    → outcomes_after first (take (i + 1) changes) ≡ after change (outcomes_after first (take i changes))
noted_more first changes i change within is =
    ap (outcomes_after first) (take_more changes i change within ∙ ap (λ (x : Change). take i changes ++ x ∷ []) (sym is)) ∙ after_last first (take i changes) change

-- ---- the places that count

abbrev pub some_other : NameList × List Outcome → Bool
some_other e = has_other e.1

-- a key before all others is so before some of them
before_some : (k : NameList) (es : List (NameList × List Outcome)) → AllByRecursion (λ y. name_list_cmp k y ≡ Less) (keys_of es) → AllByRecursion (λ y. name_list_cmp k y ≡ Less) (keys_of (filter some_other es))
before_some k [] all = all
before_some k (e ∷ es) all = by (some_other e) (before_some k es all.1)
  where
    by : (b : Bool) → AllByRecursion (λ y. name_list_cmp k y ≡ Less) (keys_of (filter some_other es)) → AllByRecursion (λ y. name_list_cmp k y ≡ Less) (keys_of (cond b (e ∷ filter some_other es) (filter some_other es)))
    by true rest = (all.0, rest)
    by false rest = rest

some_sorted : (es : List (NameList × List Outcome)) → IsStrictlySortedBy name_list_cmp (keys_of es) → IsStrictlySortedBy name_list_cmp (keys_of (filter some_other es))
unfolding IsStrictlySortedBy
some_sorted [] sorted = sorted
some_sorted (e ∷ es) sorted = by (some_other e) (before_some e.0 es sorted.0) (some_sorted es sorted.1)
  where
    by : (b : Bool) → AllByRecursion (λ y. name_list_cmp e.0 y ≡ Less) (keys_of (filter some_other es)) → IsStrictlySortedBy name_list_cmp (keys_of (filter some_other es))
        → IsStrictlySortedBy name_list_cmp (keys_of (cond b (e ∷ filter some_other es) (filter some_other es)))
    by true first rest = (first, rest)
    by false first rest = rest

-- what holds of all holds at each index
at_index : (P : NameList × List Outcome → Type 0) (es : List (NameList × List Outcome)) (i : ℕ) (e : NameList × List Outcome) → All P es → slice_get es i ≡ Some e → P e
at_index P es i e all is = subst P (get_or_from_slice_get es i e e is) (all i e (slice_get_within es i e is))

pub counts : (m : BTreeMap NameList (List Outcome)) → IsOrdered name_list_cmp m → Counts (told_outcomes m.entries) (filter some_other m.entries)
counts m sorted = record {
  in_order = some_sorted m.entries sorted;
  told = λ i q list is.
      let found = at_index (λ e. lookup (is_at (name_list_cmp e.0)) m.entries ≡ Some e.1) (filter some_other m.entries) i (q, list) (All-filter some_other (λ e. lookup (is_at (name_list_cmp e.0)) m.entries ≡ Some e.1) m.entries (All-found name_list_total m sorted)) is in
      (sym (ap (λ (o : Option (List Outcome)). unwrap_or o never_used) found), at_index (λ e. some_other e ≡ true) (filter some_other m.entries) i (q, list) (filter_passes some_other m.entries) is);
  all = λ q e. listed q (lookup (is_at (name_list_cmp q)) m.entries) refl e;
}
  where
    listed : (q : NameList) (o : Option (List Outcome)) → lookup (is_at (name_list_cmp q)) m.entries ≡ o → has_other (unwrap_or o never_used) ≡ true
        → (i : ℕ) × (slice_get (filter some_other m.entries) i ≡ Some (q, told_outcomes m.entries q))
    listed q None is e = cc
    listed q (Some list) is e =
        let kept : lookup (is_at (name_list_cmp q)) (filter some_other m.entries) ≡ Some list =
        lookup-filter-values (eq_by_cmp_equiv name_list_total) has_other q m.entries (IsDistinct-from_sorted name_list_cmp (keys_of m.entries) sorted) ∙ ap (option_filter has_other) is ∙ ap (λ b. cond b (Some list) None) e in
        let at = place_from_lookup (is_at (name_list_cmp q)) (filter some_other m.entries) list kept in
        let key : q ≡ at.1 = exact at.1 (name_list_cmp q at.1) refl at.3 in
        (at.0, at.2 ∙ (λ i. Some (sym key i, sym (ap (λ (o : Option (List Outcome)). unwrap_or o never_used) is) i)))
      where
        exact : (k : NameList) (r : Ordering) → name_list_cmp q k ≡ r → is_eq r ≡ true → q ≡ k
        exact k Less is e = cc
        exact k Equal is e = name_list_exact q k is
        exact k Greater is e = cc
