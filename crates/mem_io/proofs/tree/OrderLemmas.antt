-- Folders whose entries stay keep their order.
use Rattle.std.proofs.Common.{◌≡◌, ◌≢◌, ℕ, List, [], ◌∷◌, ◌++◌, refl, sym, ◌∙◌, ap, subst, ⊎_elim, true, cond}
use Rattle.std.specs.Prelude.{Option, Some, None, map, ◌&&◌, T, option_map}
use Rattle.std.specs.declared.cmp.Ordering.{Ordering}
use Rattle.std.specs.declared.cmp.Ordering.TheVariants.{Less, Equal, Greater}
use Rattle.std.specs.Ordering.{is_eq, is_lt}
use Rattle.std.specs.Option.{option_and_then}
use Rattle.std.specs.List.{AllByRecursion, cons_option}
use Rattle.std.specs.List.Sorted.{IsStrictlySortedBy}
use Rattle.std.specs.Map.{keys_of}
use Rattle.std.specs.FinMap.{find, is_sorted}
use Rattle.std.specs.FinMap.Entries.{below_all, same_entries}
use Rattle.std.proofs.lemmas.Map.Keys.{sorted_head, sorted_tail}
use Rattle.sd_io.specs.declared.meta.Kind.{Kind}
use Rattle.sd_io.specs.declared.meta.RawEntry.{RawEntry}
use Rattle.sd_io.specs.Tree.{Name, NameList, Content, directory, link, file, other, Node, Tree, SameOrders, SameOrdersBut, name_list_cmp, node_at}
use Rattle.sd_io.specs.Paths.{parent_of}
use Rattle.sd_io.specs.Files.{kind_of}
use Rattle.mem_io.specs.MemNode.{content_with, with_bytes}
use Rattle.mem_io.specs.MemTree.{entries_below, by_number, listing, tree_of, AddsName, PutsBytes, TakesAway, Moves}
use Rattle.sd_io.specs.Lists.{name_below, raw_entry}
use Rattle.mem_io.proofs.tree.EntryLemmas.{name_list_total, name_list_exact, find-lookup, node_at_below}
use Rattle.mem_io.proofs.place.ParentLemmas.{parent_of-last}
use Rattle.mem_io.proofs.tree.TreeLemmas.{below_top, same_or_other}
use Rattle.mem_io.proofs.tree.ListingLemmas.{name_of, place_below}
use Rattle.mem_io.proofs.tree.ListedLemmas.{order_is}

-- ---- the entries of a folder, each with its place

abbrev placed : NameList → List (NameList × Node) → List (NameList × RawEntry)
placed folder [] = []
placed folder (e ∷ es) = cons_option (option_map (λ name. (e.0, raw_entry e.1 name)) (name_below folder e.0)) (placed folder es)

-- they are the folder's entries
placed_entries : (folder : NameList) (es : List (NameList × Node)) → map (λ (p : NameList × RawEntry). p.1) (placed folder es) ≡ entries_below folder es
placed_entries folder [] = refl
placed_entries folder (e ∷ es) = by (name_below folder e.0) (placed_entries folder es)
  where
    by : (o : Option Name) → map (λ (p : NameList × RawEntry). p.1) (placed folder es) ≡ entries_below folder es
        → map (λ (p : NameList × RawEntry). p.1) (cons_option (option_map (λ name. (e.0, raw_entry e.1 name)) o) (placed folder es)) ≡ cons_option (option_map (raw_entry e.1) o) (entries_below folder es)
    by None rest = rest
    by (Some name) rest = ap (λ entries. raw_entry e.1 name ∷ entries) rest

-- they lie behind what all places lie behind
placed_behind : (folder q : NameList) (es : List (NameList × Node)) → AllByRecursion (λ k. name_list_cmp q k ≡ Less) (keys_of es) → below_all name_list_cmp q (placed folder es) ≡ true
placed_behind folder q [] all = refl
placed_behind folder q (e ∷ es) all = by (name_below folder e.0) (placed_behind folder q es all.1)
  where
    by : (o : Option Name) → below_all name_list_cmp q (placed folder es) ≡ true → below_all name_list_cmp q (cons_option (option_map (λ name. (e.0, raw_entry e.1 name)) o) (placed folder es)) ≡ true
    by None rest = rest
    by (Some name) rest = ap (λ r. is_lt r && below_all name_list_cmp q (placed folder es)) all.0 ∙ rest

-- so they are in order
placed_sorted : (folder : NameList) (es : List (NameList × Node)) → IsStrictlySortedBy name_list_cmp (keys_of es) → is_sorted name_list_cmp (placed folder es) ≡ true
placed_sorted folder [] sorted = refl
placed_sorted folder (e ∷ es) sorted =
    by (name_below folder e.0) (placed_behind folder e.0 es (sorted_head name_list_cmp e.0 (keys_of es) sorted)) (placed_sorted folder es (sorted_tail name_list_cmp e.0 (keys_of es) sorted))
  where
    by : (o : Option Name) → below_all name_list_cmp e.0 (placed folder es) ≡ true → is_sorted name_list_cmp (placed folder es) ≡ true → is_sorted name_list_cmp (cons_option (option_map (λ name. (e.0, raw_entry e.1 name)) o) (placed folder es)) ≡ true
    by None behind rest = rest
    by (Some name) behind rest = ap (λ b. b && is_sorted name_list_cmp (placed folder es)) behind ∙ rest

-- the entry of a name and of what stands there
abbrev told : Option Name → Option Node → Option RawEntry
told name node = option_and_then (λ n. option_map (λ x. raw_entry x n) node) name

-- at a place in the folder stands the entry of its node
placed_found : (folder q : NameList) (es : List (NameList × Node)) → find name_list_cmp q (placed folder es) ≡ told (name_below folder q) (find name_list_cmp q es)
placed_found folder q [] = none (name_below folder q)
  where
    none : (o : Option Name) → None ≡ told o None
    none None = refl
    none (Some name) = refl
placed_found folder q (e ∷ es) = by (name_list_cmp q e.0) refl (name_below folder e.0) refl (placed_found folder q es)
  where
    by : (r : Ordering) → name_list_cmp q e.0 ≡ r → (o : Option Name) → name_below folder e.0 ≡ o → find name_list_cmp q (placed folder es) ≡ told (name_below folder q) (find name_list_cmp q es)
        → find name_list_cmp q (cons_option (option_map (λ name. (e.0, raw_entry e.1 name)) o) (placed folder es)) ≡ told (name_below folder q) (cond (is_eq r) (Some e.1) (find name_list_cmp q es))
    by Less is None below rest = rest
    by Less is (Some name) below rest = ap (λ r. cond (is_eq r) (Some (raw_entry e.1 name)) (find name_list_cmp q (placed folder es))) is ∙ rest
    by Equal is None below rest =
        let none : name_below folder q ≡ None = ap (name_below folder) (name_list_exact q e.0 is) ∙ below in
        rest ∙ ap (λ o. told o (find name_list_cmp q es)) none ∙ sym (ap (λ o. told o (Some e.1)) none)
    by Equal is (Some name) below rest =
        let here : name_below folder q ≡ Some name = ap (name_below folder) (name_list_exact q e.0 is) ∙ below in
        ap (λ r. cond (is_eq r) (Some (raw_entry e.1 name)) (find name_list_cmp q (placed folder es))) is ∙ sym (ap (λ o. told o (Some e.1)) here)
    by Greater is None below rest = rest
    by Greater is (Some name) below rest = ap (λ r. cond (is_eq r) (Some (raw_entry e.1 name)) (find name_list_cmp q (placed folder es))) is ∙ rest

-- other bytes leave a node of its kind
same_kind : (content : Content) (bytes : List ℕ) → kind_of (content_with content bytes) ≡ kind_of content
same_kind directory bytes = refl
same_kind (link target) bytes = refl
same_kind (file old mode) bytes = refl
same_kind other bytes = refl

-- so they change nothing that an entry tells
same_entry : (node : Option Node) (bytes : List ℕ) (name : Name) → option_map (λ x. raw_entry x name) (option_map (λ x. with_bytes x bytes) node) ≡ option_map (λ x. raw_entry x name) node
same_entry None bytes name = refl
same_entry (Some node) bytes name = ap with_kind (same_kind node.content bytes)
  where
    with_kind : Kind → Option RawEntry
    with_kind kind = Some (record { name = name; kind = kind; ino = node.ino })

-- ---- a folder with the same entries

-- what an entry tells of the node under a name
abbrev entry_at : Tree → NameList → Name → Option RawEntry
entry_at tree folder name = option_map (λ node. raw_entry node name) (node_at tree (folder ++ name ∷ []))

module _ (top new_top : Node) (es fs : List (NameList × Node)) (sorted : IsStrictlySortedBy name_list_cmp (keys_of es)) (new_sorted : IsStrictlySortedBy name_list_cmp (keys_of fs)) where
  abbrev before : Tree
  before = tree_of top es

  abbrev after : Tree
  after = tree_of new_top fs

  same_placed : (folder : NameList) → ((name : Name) → entry_at after folder name ≡ entry_at before folder name) → placed folder fs ≡ placed folder es
  same_placed folder same =
      same_entries name_list_cmp name_list_total name_list_exact (placed folder fs) (placed folder es) (subst T (sym (placed_sorted folder fs new_sorted)) tt) (subst T (sym (placed_sorted folder es sorted)) tt)
      (λ q. placed_found folder q fs ∙ by q (name_below folder q) refl ∙ sym (placed_found folder q es))
    where
      found : (t : Node) (gs : List (NameList × Node)) (name : Name) → node_at (tree_of t gs) (folder ++ name ∷ []) ≡ find name_list_cmp (folder ++ name ∷ []) gs
      found t gs name = node_at_below t gs (folder ++ name ∷ []) (below_top folder name) ∙ sym (find-lookup (folder ++ name ∷ []) gs)

      by : (q : NameList) (o : Option Name) → name_below folder q ≡ o → told o (find name_list_cmp q fs) ≡ told o (find name_list_cmp q es)
      by q None is = refl
      by q (Some name) is =
          let entry : Option Node → Option RawEntry = λ node. option_map (λ x. raw_entry x name) node in
          let place : folder ++ name ∷ [] ≡ q = place_below folder q name is in
          ap (λ p. entry (find name_list_cmp p fs)) (sym place) ∙ ap entry (sym (found new_top fs name)) ∙ same name ∙ ap entry (found top es name) ∙ ap (λ p. entry (find name_list_cmp p es)) place

  -- so a folder in which entries tell the same has its old order
  pub same_order : (folder : NameList) → ((name : Name) → entry_at after folder name ≡ entry_at before folder name) → after.order folder ≡ before.order folder
  unfolding listing
  same_order folder same =
      order_is new_top fs folder
      ∙ ap (λ entries. map name_of (by_number entries)) (sym (placed_entries folder fs) ∙ ap (map (λ (p : NameList × RawEntry). p.1)) (same_placed folder same) ∙ placed_entries folder es)
      ∙ sym (order_is top es folder)

  -- a place in another folder is another place
  other_place : (folder place : NameList) (name : Name) → folder ≢ parent_of place → folder ++ name ∷ [] ≢ place
  other_place folder place name apart e = apart (sym (parent_of-last folder name) ∙ ap parent_of e)

  -- ---- what the changes of a tree do

  -- a place less
  pub orders_taken : (place : NameList) → TakesAway before place after → SameOrdersBut (parent_of place ∷ []) before after
  orders_taken place t = λ folder apart. same_order folder (λ name. ap (option_map (λ node. raw_entry node name)) (t.others (folder ++ name ∷ []) (other_place folder place name apart.0)))

  -- a node at another place
  pub orders_moved : (from to : NameList) → Moves before from to after → SameOrdersBut (parent_of from ∷ parent_of to ∷ []) before after
  orders_moved from to m = λ folder apart. same_order folder
      (λ name. ap (option_map (λ node. raw_entry node name)) (m.others (folder ++ name ∷ []) (other_place folder from name apart.0) (other_place folder to name apart.1.0)))

  -- other bytes
  pub orders_put : (place : NameList) (bytes : List ℕ) → PutsBytes before place bytes after → SameOrders before after
  orders_put place bytes p = λ folder. same_order folder (λ name. ⊎_elim
      (λ e. rw e (ap (option_map (λ node. raw_entry node name)) p.holds ∙ same_entry (node_at before place) bytes name))
      (λ ne. ap (option_map (λ node. raw_entry node name)) (p.others (folder ++ name ∷ []) ne)) (same_or_other (folder ++ name ∷ []) place))

-- a name more
pub orders_added : (old new : Tree) (place : NameList) → AddsName old place new → SameOrdersBut (parent_of place ∷ []) old new
orders_added old new place a =
    let folder : a.folder ≡ parent_of place = sym (ap parent_of a.place_is ∙ parent_of-last a.folder a.name) in
    λ other apart. a.others other ((λ e. apart.0 (e ∙ folder)), tt)
