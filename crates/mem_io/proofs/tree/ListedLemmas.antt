-- A folder's listing tells what stands under each of its names.
use Rattle.std.proofs.Common.{◌≡◌, List, [], ◌∷◌, ◌++◌, refl, sym, ◌∙◌, ap, subst, true, false, cond}
use Rattle.std.specs.Prelude.{Option, Some, None, map, nat_le, is_some, option_map}
use Rattle.std.specs.declared.cmp.Ordering.{Ordering}
use Rattle.std.specs.declared.cmp.Ordering.TheVariants.{Less, Equal, Greater}
use Rattle.std.specs.Ordering.{is_eq}
use Rattle.std.specs.List.{AllByRecursion, cons_option}
use Rattle.std.specs.List.Sorted.{IsStrictlySortedBy}
use Rattle.std.specs.Map.{keys_of}
use Rattle.std.specs.FinMap.{find}
use Rattle.std.proofs.lemmas.Cmp.{tied_itself}
use Rattle.std.proofs.lemmas.Map.Keys.{sorted_head, sorted_tail}
use Rattle.sd_io.specs.declared.meta.RawEntry.{RawEntry}
use Rattle.sd_io.specs.Tree.{Name, NameList, Node, name_list_cmp}
use Rattle.sd_io.specs.Lists.{Tells, TellAll, name_below, raw_entry}
use Rattle.mem_io.specs.MemTree.{entries_below, insert_by_number, by_number, listing, tree_of}
use Rattle.mem_io.proofs.tree.EntryLemmas.{name_list_total, name_list_exact, find-lookup, node_at_below}
use Rattle.mem_io.proofs.tree.TreeLemmas.{below_top}
use Rattle.mem_io.proofs.tree.ListingLemmas.{not_found, place_below, name_of}

-- the entry tells of the node that is found under its name in the folder
pub record IsFound (nodes : List (NameList × Node)) (folder : NameList) (entry : RawEntry) : Type 0 where
  pub node : Node
  pub found : find name_list_cmp (folder ++ entry.name ∷ []) nodes ≡ Some node
  pub entry_is : entry ≡ raw_entry node entry.name

-- what is found isn't at an earlier place
found_later : (p : NameList) (node : Node) (nodes : List (NameList × Node)) (folder : NameList) (entry : RawEntry) → is_some (find name_list_cmp p nodes) ≡ false → IsFound nodes folder entry → IsFound ((p, node) ∷ nodes) folder entry
found_later p node nodes folder entry none h = record { node = h.node; found = by (name_list_cmp place p) refl; entry_is = h.entry_is }
  where
    place : NameList
    place = folder ++ entry.name ∷ []

    by : (r : Ordering) → name_list_cmp (folder ++ entry.name ∷ []) p ≡ r → cond (is_eq r) (Some node) (find name_list_cmp (folder ++ entry.name ∷ []) nodes) ≡ Some h.node
    by Less e = h.found
    by Equal e = let same = name_list_exact (folder ++ entry.name ∷ []) p e in cc (sym none ∙ ap (λ q. is_some (find name_list_cmp q nodes)) (sym same) ∙ ap is_some h.found)
    by Greater e = h.found

-- so are all
all_later : (p : NameList) (node : Node) (nodes : List (NameList × Node)) (folder : NameList) (entries : List RawEntry) → is_some (find name_list_cmp p nodes) ≡ false → AllByRecursion (IsFound nodes folder) entries → AllByRecursion (IsFound ((p, node) ∷ nodes) folder) entries
all_later p node nodes folder [] none all = tt
all_later p node nodes folder (entry ∷ entries) none all = (found_later p node nodes folder entry none all.0, all_later p node nodes folder entries none all.1)

-- each entry below a folder tells of the node under its name
pub all_found : (folder : NameList) (nodes : List (NameList × Node)) → IsStrictlySortedBy name_list_cmp (keys_of nodes) → AllByRecursion (IsFound nodes folder) (entries_below folder nodes)
all_found folder [] sorted = tt
all_found folder (e ∷ es) sorted =
    by (name_below folder e.0) refl (all_later e.0 e.1 es folder (entries_below folder es) (not_found e.0 es (sorted_head name_list_cmp e.0 (keys_of es) sorted)) (all_found folder es (sorted_tail name_list_cmp e.0 (keys_of es) sorted)))
  where
    by : (o : Option Name) → name_below folder e.0 ≡ o → AllByRecursion (IsFound (e ∷ es) folder) (entries_below folder es) → AllByRecursion (IsFound (e ∷ es) folder) (cons_option (option_map (raw_entry e.1) o) (entries_below folder es))
    by None is later = later
    by (Some name) is later = (
      record {
        node = e.1;
        found = ap (λ q. find name_list_cmp q (e ∷ es)) (place_below folder e.0 name is) ∙ ap (λ r. cond (is_eq r) (Some e.1) (find name_list_cmp e.0 es)) (tied_itself name_list_total e.0);
        entry_is = refl;
      },
      later,
    )

-- what holds of all entries holds of all in another order
all_inserted : (P : RawEntry → Type 0) (e : RawEntry) (fs : List RawEntry) → P e → AllByRecursion P fs → AllByRecursion P (insert_by_number e fs)
all_inserted P e [] p all = (p, tt)
all_inserted P e (f ∷ fs) p all = elim (nat_le e.ino f.ino) as (λ b. AllByRecursion P (cond b (e ∷ f ∷ fs) (f ∷ insert_by_number e fs))) [
  | true ↦ (p, all)
  | false ↦ (all.0, all_inserted P e fs p all.1)
]

pub all_by_number : (P : RawEntry → Type 0) (es : List RawEntry) → AllByRecursion P es → AllByRecursion P (by_number es)
all_by_number P [] all = tt
all_by_number P (e ∷ es) all = all_inserted P e (by_number es) all.0 (all_by_number P es all.1)

-- what is found stands in the tree
told_by : (top : Node) (nodes : List (NameList × Node)) (folder : NameList) (entry : RawEntry) → IsFound nodes folder entry → Tells (tree_of top nodes) folder entry.name entry
told_by top nodes folder entry h =
    let place = folder ++ entry.name ∷ [] in
    record {
      node = h.node;
      stands = node_at_below top nodes place (below_top folder entry.name) ∙ sym (find-lookup place nodes) ∙ h.found;
      name_is = refl;
      kind_is = ap (λ (x : RawEntry). x.kind) h.entry_is;
      ino_is = ap (λ (x : RawEntry). x.ino) h.entry_is;
    }

-- entries that tell of what stands tell of their names in turn
tell_names : (top : Node) (nodes : List (NameList × Node)) (folder : NameList) (entries : List RawEntry) → AllByRecursion (IsFound nodes folder) entries → TellAll (tree_of top nodes) folder (map name_of entries) entries
tell_names top nodes folder [] all = tt
tell_names top nodes folder (entry ∷ entries) all = (told_by top nodes folder entry all.0, tell_names top nodes folder entries all.1)

-- a folder's order is that of its listing
pub order_is : (top : Node) (nodes : List (NameList × Node)) (folder : NameList) → (tree_of top nodes).order folder ≡ map name_of (listing folder nodes)
unfolding tree_of
order_is top nodes folder = refl

listing_found : (folder : NameList) (nodes : List (NameList × Node)) → IsStrictlySortedBy name_list_cmp (keys_of nodes) → AllByRecursion (IsFound nodes folder) (listing folder nodes)
unfolding listing
listing_found folder nodes sorted = all_by_number (IsFound nodes folder) (entries_below folder nodes) (all_found folder nodes sorted)

-- the listing tells of the names of the folder in its order
pub listing_tells : (top : Node) (nodes : List (NameList × Node)) (folder : NameList) → IsStrictlySortedBy name_list_cmp (keys_of nodes) → TellAll (tree_of top nodes) folder ((tree_of top nodes).order folder) (listing folder nodes)
listing_tells top nodes folder sorted =
    subst (λ names. TellAll (tree_of top nodes) folder names (listing folder nodes)) (sym (order_is top nodes folder)) (tell_names top nodes folder (listing folder nodes) (listing_found folder nodes sorted))
