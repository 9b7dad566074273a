-- The order of a folder after a node is added: the new name comes last.
use Rattle.std.proofs.Common.{◌≡◌, ◌≢◌, ◌<◌, ℕ, List, [], ◌∷◌, ◌++◌, refl, sym, ◌∙◌, ap, Bool, true, false, cond, arith}
use Rattle.std.specs.Prelude.{Option, Some, None, map, nat_le, option_map}
use Rattle.std.specs.declared.cmp.Ordering.{Ordering}
use Rattle.std.specs.declared.cmp.Ordering.TheVariants.{Less, Equal, Greater}
use Rattle.std.specs.Ordering.{is_eq, match_ordering}
use Rattle.std.specs.List.{AllByRecursion, cons_option}
use Rattle.std.specs.Map.{lookup}
use Rattle.std.specs.BTreeMap.{insert_entry, is_at}
use Rattle.std.proofs.lemmas.Bool.{leb-true, le-leb, false_from_ne_true}
use Rattle.std.proofs.lemmas.Cmp.{lists_equiv, nat_list_eq_equiv}
use Rattle.std.proofs.lemmas.List.{map-append}
use Rattle.sd_io.specs.declared.meta.RawEntry.{RawEntry}
use Rattle.sd_io.specs.Tree.{Name, NameList, Node, name_list_cmp, node_at}
use Rattle.mem_io.specs.MemTree.{entries_below, insert_by_number, by_number, listing, tree_of, IsPlaceIn, AddsName}
use Rattle.sd_io.specs.Lists.{name_below, raw_entry}
use Rattle.mem_io.specs.MemSound.{IsSound}
use Rattle.mem_io.proofs.tree.EntryLemmas.{find-lookup, node_at_below, node_at_name}
use Rattle.mem_io.proofs.tree.TreeLemmas.{below_top, same_ends}
use Rattle.mem_io.proofs.place.PlaceLemmas.{name_below_last}
use Rattle.mem_io.proofs.tree.ListingLemmas.{name_of, place_below}
use Rattle.mem_io.proofs.tree.ListedLemmas.{IsFound, all_found, all_by_number, order_is}

-- all numbers are below this one
abbrev AllBelow : ℕ → List RawEntry → Type 0
AllBelow number entries = AllByRecursion (λ (e : RawEntry). e.ino < number) entries

-- an entry with the greatest number is put in last
insert_last : (e : RawEntry) (fs : List RawEntry) → AllBelow e.ino fs → insert_by_number e fs ≡ fs ++ e ∷ []
insert_last e [] all = refl
insert_last e (f ∷ fs) all =
    let above : nat_le e.ino f.ino ≡ false = false_from_ne_true _ (λ t. let le = leb-true e.ino f.ino t in omega (arith, all.0)) in
    ap (λ b. cond b (e ∷ f ∷ fs) (f ∷ insert_by_number e fs)) above ∙ ap (λ es. f ∷ es) (insert_last e fs all.1)

-- another is put in before it
insert_before : (e last : RawEntry) (fs : List RawEntry) → e.ino < last.ino → insert_by_number e (fs ++ last ∷ []) ≡ insert_by_number e fs ++ last ∷ []
insert_before e last [] lt = ap (λ b. cond b (e ∷ last ∷ []) (last ∷ e ∷ [])) (le-leb e.ino last.ino (omega arith))
insert_before e last (f ∷ fs) lt = by (nat_le e.ino f.ino) (insert_before e last fs lt)
  where
    by : (b : Bool) → insert_by_number e (fs ++ last ∷ []) ≡ insert_by_number e fs ++ last ∷ []
        → cond b (e ∷ f ∷ fs ++ last ∷ []) (f ∷ insert_by_number e (fs ++ last ∷ [])) ≡ cond b (e ∷ f ∷ fs) (f ∷ insert_by_number e fs) ++ last ∷ []
    by true rest = refl
    by false rest = ap (λ es. f ∷ es) rest

module _ (folder place : NameList) (node : Node) where
  -- the entries of the place's folder, once a node is added with the greatest number
  added_last : (name : Name) (es : List (NameList × Node)) → name_below folder place ≡ Some name → AllBelow node.ino (entries_below folder es) → lookup (is_at (name_list_cmp place)) es ≡ None
      → by_number (entries_below folder (insert_entry name_list_cmp es place node)) ≡ by_number (entries_below folder es) ++ raw_entry node name ∷ []
  added_last name [] is all none = ap (λ o. by_number (cons_option (option_map (raw_entry node) o) [])) is
  added_last name (e ∷ es) is all none = by (name_list_cmp place e.0) none (name_below folder e.0) all (added_last name es is) refl
    where
      entry : RawEntry
      entry = raw_entry node name

      here : (o : Option Name) → AllBelow node.ino (cons_option (option_map (raw_entry e.1) o) (entries_below folder es)) → AllBelow node.ino (entries_below folder es)
      here None all = all
      here (Some n) all = all.1

      more : (o : Option Name) → AllBelow node.ino (cons_option (option_map (raw_entry e.1) o) (entries_below folder es))
          → by_number (entries_below folder (insert_entry name_list_cmp es place node)) ≡ by_number (entries_below folder es) ++ entry ∷ []
          → by_number (cons_option (option_map (raw_entry e.1) o) (entries_below folder (insert_entry name_list_cmp es place node))) ≡ by_number (cons_option (option_map (raw_entry e.1) o) (entries_below folder es)) ++ entry ∷ []
      more None all rest = rest
      more (Some n) all rest = ap (insert_by_number (raw_entry e.1 n)) rest ∙ insert_before (raw_entry e.1 n) entry (by_number (entries_below folder es)) all.0

      by : (r : Ordering) → cond (is_eq r) (Some e.1) (lookup (is_at (name_list_cmp place)) es) ≡ None → (o : Option Name) → AllBelow node.ino (cons_option (option_map (raw_entry e.1) o) (entries_below folder es))
          → (AllBelow node.ino (entries_below folder es) → lookup (is_at (name_list_cmp place)) es ≡ None → by_number (entries_below folder (insert_entry name_list_cmp es place node)) ≡ by_number (entries_below folder es) ++ entry ∷ [])
          → name_below folder e.0 ≡ o
          → by_number (entries_below folder (match_ordering r ((place, node) ∷ e ∷ es) ((e.0, node) ∷ es) (e ∷ insert_entry name_list_cmp es place node))) ≡ by_number (cons_option (option_map (raw_entry e.1) o) (entries_below folder es)) ++ entry ∷ []
      by Less none o all rest same =
          let before = cons_option (option_map (raw_entry e.1) o) (entries_below folder es) in
          ap (λ n. by_number (cons_option (option_map (raw_entry node) n) (cons_option (option_map (raw_entry e.1) (name_below folder e.0)) (entries_below folder es)))) is
          ∙ ap (λ n. insert_by_number entry (by_number (cons_option (option_map (raw_entry e.1) n) (entries_below folder es)))) same
          ∙ insert_last entry (by_number before) (all_by_number (λ (f : RawEntry). f.ino < node.ino) before all)
      by Equal none o all rest same = cc
      by Greater none o all rest same =
          ap (λ n. by_number (cons_option (option_map (raw_entry e.1) n) (entries_below folder (insert_entry name_list_cmp es place node)))) same ∙ more o all (rest (here o all) none)

  -- the entries of another folder
  added_elsewhere : (es : List (NameList × Node)) → name_below folder place ≡ None → lookup (is_at (name_list_cmp place)) es ≡ None → entries_below folder (insert_entry name_list_cmp es place node) ≡ entries_below folder es
  added_elsewhere [] is none = ap (λ o. cons_option (option_map (raw_entry node) o) []) is
  added_elsewhere (e ∷ es) is none = by (name_list_cmp place e.0) none (added_elsewhere es is)
    where
      by : (r : Ordering) → cond (is_eq r) (Some e.1) (lookup (is_at (name_list_cmp place)) es) ≡ None
          → (lookup (is_at (name_list_cmp place)) es ≡ None → entries_below folder (insert_entry name_list_cmp es place node) ≡ entries_below folder es)
          → entries_below folder (match_ordering r ((place, node) ∷ e ∷ es) ((e.0, node) ∷ es) (e ∷ insert_entry name_list_cmp es place node)) ≡ entries_below folder (e ∷ es)
      by Less none rest = ap (λ o. cons_option (option_map (raw_entry node) o) (entries_below folder (e ∷ es))) is
      by Equal none rest = cc
      by Greater none rest = ap (cons_option (option_map (raw_entry e.1) (name_below folder e.0))) (rest none)

-- the numbers of a folder's entries are below the next one
below_next : (top : Node) (nodes : List (NameList × Node)) (next : ℕ) (folder : NameList) → IsSound top nodes next → AllBelow next (entries_below folder nodes)
below_next top nodes next folder sound = each (entries_below folder nodes) (all_found folder nodes sound.ordered)
  where
    one : (entry : RawEntry) → IsFound nodes folder entry → entry.ino < next
    one entry h =
        let place = folder ++ entry.name ∷ [] in
        let below : h.node.ino < next = sound.numbered.below place h.node (node_at_below top nodes place (below_top folder entry.name) ∙ sym (find-lookup place nodes) ∙ h.found) in
        rw (ap (λ (x : RawEntry). x.ino) h.entry_is) below

    each : (entries : List RawEntry) → AllByRecursion (IsFound nodes folder) entries → AllBelow next entries
    each [] all = tt
    each (entry ∷ entries) all = (one entry all.0, each entries all.1)

-- the name of a place in its own folder
own_name : (folder place : NameList) (name : Name) → place ≡ folder ++ name ∷ [] → name_below folder place ≡ Some name
own_name folder place name is = name_below_last folder place folder name true is (sym ((lists_equiv nat_list_eq_equiv).refl folder))

-- it lies in no other folder
no_name : (folder place other : NameList) (name : Name) → place ≡ folder ++ name ∷ [] → other ≢ folder → name_below other place ≡ None
no_name folder place other name is apart = by (name_below other place) refl
  where
    by : (o : Option Name) → name_below other place ≡ o → o ≡ None
    by None e = refl
    by (Some n) e = let ends = same_ends other folder n name (place_below other place n e ∙ is) in absurd (apart ends.0)

-- the new name comes last in its folder's order
pub adds_name : (top : Node) (es fs : List (NameList × Node)) (place : NameList) (next : ℕ) (node : Node) → IsSound top es next → IsPlaceIn (tree_of top es) place → node_at (tree_of top es) place ≡ None → node.ino ≡ next
    → fs ≡ insert_entry name_list_cmp es place node → AddsName (tree_of top es) place (tree_of top fs)
unfolding listing
adds_name top es fs place next node sound p free number put =
    let none : lookup (is_at (name_list_cmp place)) es ≡ None = sym (node_at_name top es p.folder place p.name p.place_is) ∙ free in
    record {
      folder = p.folder;
      name = p.name;
      place_is = p.place_is;
      last =
          let below : AllBelow node.ino (entries_below p.folder es) = rw number (below_next top es next p.folder sound) in
          order_is top fs p.folder ∙ ap (λ nodes. map name_of (by_number (entries_below p.folder nodes))) put
          ∙ ap (map name_of) (added_last p.folder place node p.name es (own_name p.folder place p.name p.place_is) below none)
          ∙ map-append name_of (by_number (entries_below p.folder es)) (raw_entry node p.name ∷ [])
          ∙ ap (λ names. names ++ p.name ∷ []) (sym (order_is top es p.folder));
      others = λ other apart.
          order_is top fs other ∙ ap (λ nodes. map name_of (by_number (entries_below other nodes))) put
          ∙ ap (λ entries. map name_of (by_number entries)) (added_elsewhere other place node es (no_name p.folder place other p.name p.place_is apart.0) none)
          ∙ sym (order_is top es other);
    }
