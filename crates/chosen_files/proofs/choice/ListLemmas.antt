-- Entries at places that are seen, and how many of them lie below the top.
use Rattle.std.proofs.Common.{◌≡◌, ◌+◌, ◌<◌, ◌≤◌, ◌⊎◌, inl, inr, ℕ, Bool, true, false, cond, List, [], ◌∷◌, ◌++◌, map, length, Ok, Err, refl, sym, ◌∙◌, ap, subst, arith, length-append, Less}
use Rattle.std.specs.Prelude.{nat_lt, Some}
use Rattle.std.specs.Cmp.{tied_itself}
use Rattle.std.specs.List.{AllByRecursion}
use Rattle.std.specs.List.Sorted.{IsStrictlySortedBy}
use Rattle.std.proofs.lemmas.Bool.{ltb-true, lt-ltb}
use Rattle.std.proofs.lemmas.List.{length-map}
use Rattle.std.proofs.lemmas.List.Elements.{All-from_recursion}
use Rattle.sd_io.specs.Tree.{NameList, Tree, name_list_cmp}
use Rattle.sd_io.specs.Paths.{reached}
use Rattle.walk_rest.specs.declared.entry.DirEntry.{DirEntry}
use Rattle.walk_rest.specs.Plan.{Item}
use Rattle.walkdir.specs.Collect.{entry_item, below_root}
use Rattle.sd_ignore.specs.declared.rule.Rule.{Rule}
use Rattle.chosen_files.specs.Picks.{IsEntryAt, AreEntriesAt}
use Rattle.chosen_files.proofs.laws.PlaceLemmas.{In, in_from_contains, contains_from_in, all_from_in, in_from_all, place_total}
use Rattle.walkdir.specs.Gather.{IsPart, below_items}
use Rattle.chosen_files.specs.Seen.{IsSeen, ListsSeen, HasFewerSeen, HasManySeen}
use Rattle.chosen_files.specs.Walked.{ListsAllSeen}
use Rattle.chosen_files.proofs.choice.PartLemmas.{part_sorted, in_whole}
use Rattle.walkdir.proofs.GatherLemmas.{below_of}

place_apart : (p q : NameList) → name_list_cmp p q ≡ Less → p ≡ q → ⊥
place_apart p q less same = let tied = tied_itself place_total p in let itself = ap (name_list_cmp p) same ∙ less in absurd (cc (tied, itself))

module _ (tree : Tree) (top : NameList) (rules : List Rule) where
  abbrev pub IsTopOrSeen : NameList → Type 0
  IsTopOrSeen q = (q ≡ top) ⊎ IsSeen tree top rules q

  -- some of the entries, at their places
  pub record PartAt (places : List NameList) (entries : List DirEntry) : Type 0 where
    pub found : List NameList
    pub of : IsPart found places
    pub at : AreEntriesAt tree top found (map entry_item entries)

  pub part_at : (places : List NameList) (items : List Item) (entries : List DirEntry) → AreEntriesAt tree top places items → IsPart (map entry_item entries) items
      → PartAt places entries
  part_at [] [] [] at part = record { found = []; of = refl; at = tt }
  part_at [] [] (entry ∷ entries) at part = absurd (cc part)
  part_at [] (item ∷ items) entries at part = absurd at
  part_at (place ∷ places) [] entries at part = absurd at
  part_at (place ∷ places) (Err error ∷ items) entries at part = absurd at
  part_at (place ∷ places) (Ok entry ∷ items) entries at (inl part) =
      let r = part_at places items entries at.1 part in
      record { found = r.found; of = inl r.of; at = r.at }
  part_at (place ∷ places) (Ok entry ∷ items) [] at (inr (rest, e, part)) = absurd (cc e)
  part_at (place ∷ places) (Ok entry ∷ items) (given ∷ entries) at (inr (rest, e, part)) =
      let first : entry ≡ given = cc e in
      let more : rest ≡ map entry_item entries = cc e in
      let r = part_at places items entries at.1 (subst (λ (xs : List Item). IsPart xs items) more part) in
      record { found = place ∷ r.found; of = inr (r.found, refl, r.of); at = (subst (λ (x : DirEntry). IsEntryAt tree top place x) first at.0, r.at) }

  -- the places of the entries that lie below the top
  record LowerAt (places : List NameList) (entries : List DirEntry) : Type 0 where
    lower : List NameList
    of : IsPart lower places
    each : AllByRecursion (IsSeen tree top rules) lower
    count : length lower ≡ below_root entries
    whole : (q : NameList) → In q places → IsSeen tree top rules q → In q lower

  deeper : (place : NameList) (entry : DirEntry) → IsEntryAt tree top place entry → IsSeen tree top rules place → 0 < entry.depth
  deeper place entry at seen =
      let long = at.depth_is in
      let l = ap length seen.place_is in
      let m = length-append top (seen.folder ++ seen.name ∷ []) in
      let n = length-append seen.folder (seen.name ∷ []) in
      omega (arith, long, l, m, n)

  not_top : (place : NameList) (entry : DirEntry) → IsEntryAt tree top place entry → place ≡ top → entry.depth ≡ 0
  not_top place entry at e = let long = at.depth_is in let l = ap length e in omega (arith, long, l)

  is_below : (place : NameList) (entry : DirEntry) → IsEntryAt tree top place entry → IsTopOrSeen place → 0 < entry.depth → IsSeen tree top rules place
  is_below place entry at (inl e) deep = let none = not_top place entry at e in absurd (omega (arith, none, deep))
  is_below place entry at (inr seen) deep = seen

  lower_more : (place : NameList) (entry : DirEntry) (places : List NameList) (entries : List DirEntry) → IsEntryAt tree top place entry → IsTopOrSeen place
      → LowerAt places entries → (deep : Bool) → nat_lt 0 entry.depth ≡ deep → LowerAt (place ∷ places) (entry ∷ entries)
  lower_more place entry places entries at stand rest true e = record {
    lower = place ∷ rest.lower;
    of = inr (rest.lower, refl, rest.of);
    each = (is_below place entry at stand (ltb-true 0 entry.depth e), rest.each);
    count = (let n = rest.count in let f : Bool → ℕ = λ b. cond b 1 0 in let one = ap f e in omega (arith, n, one));
    whole = λ q i below. elim i [ inl same ↦ inl same | inr j ↦ inr (rest.whole q j below) ];
  }
  lower_more place entry places entries at stand rest false e = record {
    lower = rest.lower;
    of = inl rest.of;
    each = rest.each;
    count = (let n = rest.count in let f : Bool → ℕ = λ b. cond b 1 0 in let none = ap f e in omega (arith, n, none));
    whole = λ q i below. elim i [
      | inl same ↦
          (let deep = deeper place entry at (subst (λ (p : NameList). IsSeen tree top rules p) (sym same) below) in
          let yes = lt-ltb 0 entry.depth deep in absurd (cc (e, yes)))
      | inr j ↦ rest.whole q j below
    ];
  }

  lower_at : (places : List NameList) (entries : List DirEntry) → AreEntriesAt tree top places (map entry_item entries) → AllByRecursion (IsTopOrSeen) places
      → LowerAt places entries
  lower_at [] [] at stand = record { lower = []; of = refl; each = tt; count = refl; whole = λ q i below. i }
  lower_at [] (entry ∷ entries) at stand = absurd at
  lower_at (place ∷ places) [] at stand = absurd at
  lower_at (place ∷ places) (entry ∷ entries) at stand =
      lower_more place entry places entries at.0 stand.0 (lower_at places entries at.1 stand.1) (nat_lt 0 entry.depth) refl

  -- ---- numbers

  entries_of : (places : List NameList) (items : List Item) → AreEntriesAt tree top places items → (entries : List DirEntry) × (items ≡ map entry_item entries)
  entries_of [] [] at = ([], refl)
  entries_of [] (item ∷ items) at = absurd at
  entries_of (place ∷ places) [] at = absurd at
  entries_of (place ∷ places) (Err error ∷ items) at = absurd at
  entries_of (place ∷ places) (Ok entry ∷ items) at = let rest = entries_of places items at.1 in (entry ∷ rest.0, ap (λ (xs : List Item). Ok entry ∷ xs) rest.1)

  -- places after the top's are others
  all_deep : (places : List NameList) (entries : List DirEntry) → AreEntriesAt tree top places (map entry_item entries) → AllByRecursion (λ q. IsSeen tree top rules q) places
      → length entries ≡ below_root entries
  all_deep [] [] at seen = refl
  all_deep [] (entry ∷ entries) at seen = absurd at
  all_deep (place ∷ places) [] at seen = absurd at
  all_deep (place ∷ places) (entry ∷ entries) at seen =
      let rest = all_deep places entries at.1 seen.1 in
      let f : Bool → ℕ = λ b. cond b 1 0 in let one = ap f (lt-ltb 0 entry.depth (deeper place entry at.0 seen.0)) in
      omega (arith, rest, one)

  one_top : (places : List NameList) (entries : List DirEntry) → AreEntriesAt tree top places (map entry_item entries) → AllByRecursion IsTopOrSeen places → IsStrictlySortedBy name_list_cmp places
      → length entries ≤ below_root entries + 1
  unfolding IsStrictlySortedBy
  one_top [] [] at stand up = omega arith
  one_top [] (entry ∷ entries) at stand up = absurd at
  one_top (place ∷ places) [] at stand up = absurd at
  one_top (place ∷ places) (entry ∷ entries) at (inl e, stand) up =
      let rest = all_deep places entries at.1 (all_from_in (λ q. IsSeen tree top rules q) places (λ q i. other q (in_from_all IsTopOrSeen places stand q i) (in_from_all (λ q. name_list_cmp place q ≡ Less) places up.0 q i))) in
      omega (arith, rest)
    where
      other : (q : NameList) → IsTopOrSeen q → name_list_cmp place q ≡ Less → IsSeen tree top rules q
      other q (inl same) less = absurd (place_apart place q less (e ∙ sym same))
      other q (inr seen) less = seen
  one_top (place ∷ places) (entry ∷ entries) at (inr seen, stand) up =
      let rest = one_top places entries at.1 stand up.1 in
      let f : Bool → ℕ = λ b. cond b 1 0 in let one = ap f (lt-ltb 0 entry.depth (deeper place entry at.0 seen)) in
      omega (arith, rest, one)

  -- no more is given than lies below the top, and the top
  pub one_more_given : (places : List NameList) (items : List Item) → AreEntriesAt tree top places items → AllByRecursion IsTopOrSeen places → IsStrictlySortedBy name_list_cmp places
      → length items ≤ below_items items + 1
  one_more_given places items at stand up =
      let e = entries_of places items at in
      let h = one_top places e.0 (subst (AreEntriesAt tree top places) e.1 at) stand up in
      let n = ap length e.1 in
      let m = length_kept e.0 in
      let b = ap below_items e.1 in
      let c = below_of e.0 in
      omega (arith, h, n, m, b, c)
    where
      length_kept : (es : List DirEntry) → length (map entry_item es) ≡ length es
      length_kept [] = refl
      length_kept (e ∷ es) = let r = length_kept es in omega (arith, r)

  -- all that is seen, as many places as items below the top
  pub seen_places : (root : List ℕ) (items : List Item) → reached tree root true ≡ Some top → ListsAllSeen tree top rules items
      → (places : List NameList) × ListsSeen tree root rules places × (length places ≡ below_items items)
  seen_places root items leads lists =
      let stand = all_from_in IsTopOrSeen lists.places (λ q i. (lists.all.these q).0 (contains_from_in lists.places q i)) in
      let e = entries_of lists.places items lists.entries in
      let l = lower_at lists.places e.0 (subst (AreEntriesAt tree top lists.places) e.1 lists.entries) stand in
      let n = l.count in
      let b = ap below_items e.1 in
      let c = below_of e.0 in (
        l.lower,
        record {
          top = top;
          leads = leads;
          are_all = record {
            in_order = part_sorted name_list_cmp l.lower lists.places l.of lists.all.in_order;
            these = λ q. (
              (λ c. in_from_all (IsSeen tree top rules) l.lower l.each q (in_from_contains l.lower q c)),
              (λ seen. contains_from_in l.lower q (l.whole q (in_from_contains lists.places q ((lists.all.these q).1 (inr seen))) seen)),
            );
          };
        },
        omega (arith, n, b, c),
      )

  -- fewer than so many of them below the top
  pub fewer_seen : (cap : ℕ) (root : List ℕ) (items : List Item) → reached tree root true ≡ Some top → ListsAllSeen tree top rules items → below_items items < cap
      → HasFewerSeen cap tree root rules
  fewer_seen cap root items leads lists few = let seen = seen_places root items leads lists in let n = seen.2 in (seen.0, seen.1, omega (arith, n, few))

  -- the top's own entry doesn't lie below it
  top_apart : (places : List NameList) (entries : List DirEntry) → AreEntriesAt tree top places (map entry_item entries) → In top places → below_root entries + 1 ≤ length entries
  top_apart [] entries at i = absurd i
  top_apart (place ∷ places) [] at i = absurd at
  top_apart (place ∷ places) (entry ∷ entries) at (inl same) =
      let none = not_top place entry at.0 same in
      let zero_is : cond (nat_lt 0 entry.depth) 1 0 ≡ 0 = ap {B = ℕ} (λ (depth : ℕ). cond (nat_lt 0 depth) 1 0) none in
      let most = at_most entries in
      omega (arith, zero_is, most)
    where
      at_most : (es : List DirEntry) → below_root es ≤ length es
      at_most [] = omega arith
      at_most (e ∷ es) = let more = at_most es in let one = by (nat_lt 0 e.depth) in omega (arith, more, one)
        where
          by : (b : Bool) → cond b 1 0 ≤ 1
          by true = omega arith
          by false = omega arith
  top_apart (place ∷ places) (entry ∷ entries) at (inr j) =
      let more = top_apart places entries at.1 j in let one = by (nat_lt 0 entry.depth) in omega (arith, more, one)
    where
      by : (b : Bool) → cond b 1 0 ≤ 1
      by true = omega arith
      by false = omega arith

  -- as many items as lie below the top, and the top's
  pub one_more_listed : (items : List Item) → ListsAllSeen tree top rules items → length items ≡ below_items items + 1
  one_more_listed items lists =
      let stand = all_from_in IsTopOrSeen lists.places (λ q i. (lists.all.these q).0 (contains_from_in lists.places q i)) in
      let most = one_more_given lists.places items lists.entries stand lists.all.in_order in
      let e = entries_of lists.places items lists.entries in
      let least = top_apart lists.places e.0 (subst (AreEntriesAt tree top lists.places) e.1 lists.entries) (in_from_contains lists.places top ((lists.all.these top).1 (inl refl))) in
      let n = ap length e.1 ∙ length-map e.0 entry_item in
      let b = ap below_items e.1 in
      let c = below_of e.0 in
      omega (arith, most, least, n, b, c)

  -- some entries, and so many below the top
  pub many_seen : (cap : ℕ) (root : List ℕ) (places : List NameList) (items : List Item) (entries : List DirEntry) → reached tree root true ≡ Some top → AreEntriesAt tree top places items
      → ((q : NameList) → In q places → IsTopOrSeen q) → IsStrictlySortedBy name_list_cmp places → IsPart (map entry_item entries) items → below_root entries ≡ cap → HasManySeen cap tree root rules
  many_seen cap root places items entries leads at sound up part many =
      let p = part_at places items entries at part in
      let stand = all_from_in IsTopOrSeen p.found (λ q i. sound q (in_whole p.found places q p.of i)) in
      let l = lower_at p.found entries p.at stand in
      let n = l.count in (
        l.lower,
        record {
          top = top;
          leads = leads;
          in_order = part_sorted name_list_cmp l.lower p.found l.of (part_sorted name_list_cmp p.found places p.of up);
          each = All-from_recursion (IsSeen tree top rules) l.lower l.each;
        },
        omega (arith, n, many),
      )
