-- What a change of the entries of a tree in memory does to the tree that is told.
use Rattle.std.proofs.Common.{◌≡◌, ◌≢◌, ◌⊎◌, ◌<◌, ◌+◌, ℕ, List, [], ◌∷◌, ◌++◌, refl, sym, ◌∙◌, ap, ⊎_elim, Bool, true, false, cond}
use Rattle.std.specs.Prelude.{Option, Some, None, is_some, IsSome, IsTrue, option_map, Result, Ok, Err, OnOk, OnErr}
use Rattle.std.specs.Str.{bytes_eq}
use Rattle.std.specs.Cmp.Lexicographic.{pointwise, lists_ties, texts_ties}
use Rattle.std.specs.Ordering.{is_eq}
use Rattle.std.specs.List.Sorted.{IsStrictlySortedBy}
use Rattle.std.specs.Map.{lookup, keys_of}
use Rattle.std.specs.BTreeMap.{is_at}
use Rattle.std.specs.FinMap.{find}
use Rattle.std.proofs.lemmas.Cmp.{tied_itself}
use Rattle.std.proofs.lemmas.Bool.{false_from_ne_true, false≢true}
use Rattle.std.proofs.lemmas.Map.Views.{tells_apart}
use Rattle.sd_io.specs.Tree.{NameList, Content, directory, link, file, other, Name, is_directory_node, is_directory_content, Node, Tree, SameBut, name_cmp, name_list_cmp, node_at, file_at, file_node, IsTree}
use Rattle.sd_io.specs.Paths.{parent_of}
use Rattle.mem_io.specs.MemTree.{tree_of, dev_at, IsPlaceIn, Adds, PutsBytes, TakesAway, Moves}
use Rattle.mem_io.specs.MemNode.{with_bytes, content_with}
use Rattle.mem_io.specs.MemSound.{IsNumbered, IsSound}
use Rattle.mem_io.proofs.tree.EntryLemmas.{name_list_total, name_list_exact, find-lookup, node_at_top, node_at_below}
use Rattle.mem_io.proofs.tree.TreeLemmas.{IsRooted, below_top, file_or_directory, same_or_other, rooted_added, rooted_put, rooted_taken, rooted_moved, numbered_added, numbered_put, numbered_taken, numbered_moved}
use Rattle.mem_io.proofs.tree.ListingLemmas.{listing_all, listing_once}

-- in a tree parents are directories and names are names
pub rooted_tree : (tree : Tree) → IsTree tree → IsRooted tree
rooted_tree tree t = record { top = t.top; parents = t.parents; names = t.names }

-- parents, names, numbers and the order of the places are all that a tree needs
pub sound_from : (top : Node) (nodes : List (NameList × Node)) (next : ℕ) → IsRooted (tree_of top nodes) → IsNumbered (tree_of top nodes) next → IsStrictlySortedBy name_list_cmp (keys_of nodes)
    → is_some (find name_list_cmp [] nodes) ≡ false → IsSound top nodes next
unfolding tree_of
sound_from top nodes next r i sorted none = record {
  is_tree = record {
    top = r.top;
    parents = r.parents;
    names = r.names;
    identities = λ p q m n s t _ _ _ e. i.apart p q m n s t e;
    order_once = λ folder. listing_once nodes folder sorted;
    order_all = λ folder name. listing_all top nodes folder name;
  };
  numbered = i;
  ordered = sorted;
  no_top = none;
}

-- in a top alone nothing else stands
alone : (top : Node) (q : NameList) (n : Node) → node_at (tree_of top []) q ≡ Some n → (q ≡ []) × (n ≡ top)
alone top q n s = ⊎_elim
    (λ e. let same : Some top ≡ Some n = sym (node_at_top top []) ∙ rw e at s in (e, cc))
    (λ ne. cc (sym (node_at_below top [] q ne) ∙ s)) (same_or_other q [])

-- no places are in order
none_sorted : IsStrictlySortedBy name_list_cmp []
unfolding IsStrictlySortedBy
none_sorted = tt

-- a top directory alone is sound
pub sound_new : (top : Node) → top.content ≡ directory → top.ino < 2 → IsSound top [] 2
sound_new top is lt =
    let nothing : (folder : NameList) (name : Name) → IsSome (node_at (tree_of top []) (folder ++ name ∷ [])) → ⊥
    = λ folder name s. cc (ap is_some (node_at_below top [] (folder ++ name ∷ []) (below_top folder name)), s) in
    let rooted : IsRooted (tree_of top []) = record {
      top = ap is_directory_node (node_at_top top []) ∙ ap is_directory_content is;
      parents = λ folder name s. absurd (nothing folder name s);
      names = λ folder name s. absurd (nothing folder name s);
    } in
    let numbered : IsNumbered (tree_of top []) 2 = record {
      below = λ q n s. rw (alone top q n s).1 lt;
      apart = λ p q m n s t _. (alone top p m s).0 ∙ sym (alone top q n t).0;
    } in
    sound_from top [] 2 rooted numbered none_sorted refl

-- ---- one place of the map is updated

-- a map has w at a place, and at every other what another has
abbrev pub IsMapUpdate : List (NameList × Node) → List (NameList × Node) → NameList → Option Node → Type 0
IsMapUpdate es fs place w = (q : NameList) → lookup (is_at (name_list_cmp q)) fs ≡ cond (is_at (name_list_cmp place) q) w (lookup (is_at (name_list_cmp q)) es)

-- a query for another place doesn't find this one
other_place : (p q : NameList) → q ≢ p → is_at (name_list_cmp p) q ≡ false
other_place p q ne = false_from_ne_true _ (λ e. ne (sym (tells_apart name_list_exact p q e)))

-- at another place the map has what it had
elsewhere : (es fs : List (NameList × Node)) (place : NameList) (w : Option Node) → IsMapUpdate es fs place w → (q : NameList) → q ≢ place → lookup (is_at (name_list_cmp q)) fs ≡ lookup (is_at (name_list_cmp q)) es
elsewhere es fs place w u q ne = u q ∙ ap (λ b. cond b w (lookup (is_at (name_list_cmp q)) es)) (other_place place q ne)

-- at the place itself the map has what was put there
at_place : (es fs : List (NameList × Node)) (place : NameList) (w : Option Node) → IsMapUpdate es fs place w → lookup (is_at (name_list_cmp place)) fs ≡ w
at_place es fs place w u = u place ∙ ap (λ r. cond (is_eq r) w (lookup (is_at (name_list_cmp place)) es)) (tied_itself name_list_total place)

-- a tree has w at a place, and at every other what another has
record IsUpdated (old new : Tree) (place : NameList) (w : Option Node) : Type 0 where
  here : node_at new place ≡ w
  others : SameBut place old new

-- an update of the map updates the tree that is told
updated : (top : Node) (es fs : List (NameList × Node)) (place : NameList) (w : Option Node) → place ≢ [] → IsMapUpdate es fs place w → IsUpdated (tree_of top es) (tree_of top fs) place w
updated top es fs place w below u = record {
  here = node_at_below top fs place below ∙ at_place es fs place w u;
  others = λ q ne. ⊎_elim
      (λ e. rw e (node_at_top top fs ∙ sym (node_at_top top es)))
      (λ low. node_at_below top fs q low ∙ elsewhere es fs place w u q ne ∙ sym (node_at_below top es q low)) (same_or_other q []);
}

-- an update below the top puts nothing in the top's place
no_top_kept : (es fs : List (NameList × Node)) (place : NameList) (w : Option Node) → place ≢ [] → IsMapUpdate es fs place w → is_some (find name_list_cmp [] es) ≡ false → is_some (find name_list_cmp [] fs) ≡ false
no_top_kept es fs place w below u none =
    ap is_some (find-lookup [] fs ∙ elsewhere es fs place w u [] (λ e. below (sym e)) ∙ sym (find-lookup [] es)) ∙ none

-- a place for a node is not the top
place_not_top : (tree : Tree) (place : NameList) → IsPlaceIn tree place → place ≢ []
place_not_top tree place p e = below_top p.folder p.name (sym p.place_is ∙ e)

-- ---- a node is added

-- the node that is added has the device of its place's folder
pub added_node : (tree : Tree) (place folder : NameList) (content : Content) (dev ino : ℕ) (node : Node) → node ≡ record { content = content; dev = dev; ino = ino } → dev ≡ dev_at tree folder → folder ≡ parent_of place
    → node ≡ record { content = content; dev = dev_at tree (parent_of place); ino = ino }
added_node tree place folder content dev ino node is dev_is folder_is = is ∙ ap (λ (d : ℕ). record { content = content; dev = d; ino = ino }) (dev_is ∙ ap (dev_at tree) folder_is)

-- such a node at a place adds it
pub adds : (top : Node) (es fs : List (NameList × Node)) (place : NameList) (content : Content) (ino : ℕ) (node : Node) → IsPlaceIn (tree_of top es) place → IsMapUpdate es fs place (Some node)
    → node ≡ record { content = content; dev = dev_at (tree_of top es) (parent_of place); ino = ino } → Adds (tree_of top es) place content ino (tree_of top fs)
adds top es fs place content ino node p u is =
    let change = updated top es fs place (Some node) (place_not_top (tree_of top es) place p) u in
    record { stands = change.here ∙ ap Some is; others = change.others }

-- a tree with a node more is sound
pub sound_added : (top : Node) (es fs : List (NameList × Node)) (place : NameList) (content : Content) (next : ℕ) (node : Node) → IsPlaceIn (tree_of top es) place → IsMapUpdate es fs place (Some node)
    → node ≡ record { content = content; dev = dev_at (tree_of top es) (parent_of place); ino = next } → IsSound top es next → node_at (tree_of top es) place ≡ None → IsStrictlySortedBy name_list_cmp (keys_of fs)
    → IsSound top fs (next + 1)
sound_added top es fs place content next node p u is s free sorted =
    let a = adds top es fs place content next node p u is in
    sound_from top fs (next + 1)
    (rooted_added (tree_of top es) (tree_of top fs) place content next (rooted_tree (tree_of top es) s.is_tree) p free a)
    (numbered_added (tree_of top es) (tree_of top fs) place content next s.numbered a) sorted
    (no_top_kept es fs place (Some node) (place_not_top (tree_of top es) place p) u s.no_top)

-- ---- a regular file gets other bytes

-- what is found in the map doesn't stand at the top
pub found_not_top : (es : List (NameList × Node)) (place : NameList) (node : Node) → lookup (is_at (name_list_cmp place)) es ≡ Some node → is_some (find name_list_cmp [] es) ≡ false → place ≢ []
found_not_top es place node found none e = false≢true (sym none ∙ ap is_some (find-lookup [] es ∙ rw e at found))

-- the node that is found gets the bytes
pub puts : (top : Node) (es fs : List (NameList × Node)) (place : NameList) (bytes : List ℕ) (node new : Node) → place ≢ [] → lookup (is_at (name_list_cmp place)) es ≡ Some node → new ≡ with_bytes node bytes
    → IsMapUpdate es fs place (Some new) → PutsBytes (tree_of top es) place bytes (tree_of top fs)
puts top es fs place bytes node new below found is u =
    let change = updated top es fs place (Some new) below u in
    record { holds = change.here ∙ ap Some is ∙ ap (option_map (λ n. with_bytes n bytes)) (sym (node_at_below top es place below ∙ found)); others = change.others }

-- other bytes leave a directory as it is
same_directory : (node : Node) (bytes : List ℕ) → IsTrue (is_directory_content node.content) → with_bytes node bytes ≡ node
same_directory node bytes d = ap (λ (content : Content). record node { content = content }) (by node.content d)
  where
    by : (content : Content) → IsTrue (is_directory_content content) → content_with content bytes ≡ content
    by directory d = refl
    by (link target) d = refl
    by (file old mode) d = cc
    by other d = refl

-- where the map has nothing, nothing is changed
pub puts_nowhere : (top : Node) (es fs : List (NameList × Node)) (place : NameList) (bytes : List ℕ) → IsTree (tree_of top es) → lookup (is_at (name_list_cmp place)) es ≡ None → fs ≡ es → PutsBytes (tree_of top es) place bytes (tree_of top fs)
puts_nowhere top es fs place bytes t none same =
    let old = tree_of top es in
    let directory_top : IsTrue (is_directory_content top.content) = ap is_directory_node (sym (node_at_top top es)) ∙ t.top in
    let kept : PutsBytes old place bytes old = record {
      holds = ⊎_elim
          (λ e. rw e (node_at_top top es ∙ ap Some (sym (same_directory top bytes directory_top)) ∙ ap (option_map (λ n. with_bytes n bytes)) (sym (node_at_top top es))))
          (λ below. let gone = node_at_below top es place below ∙ none in gone ∙ ap (option_map (λ n. with_bytes n bytes)) (sym gone)) (same_or_other place []);
      others = λ q _. refl;
    } in
    rw same kept

-- a tree with other bytes is sound
pub sound_put : (top : Node) (es fs : List (NameList × Node)) (place : NameList) (bytes : List ℕ) (next : ℕ) (node new : Node) → IsSound top es next → lookup (is_at (name_list_cmp place)) es ≡ Some node → new ≡ with_bytes node bytes
    → IsMapUpdate es fs place (Some new) → IsStrictlySortedBy name_list_cmp (keys_of fs) → IsSound top fs next
sound_put top es fs place bytes next node new s found is u sorted =
    let below = found_not_top es place node found s.no_top in
    let p = puts top es fs place bytes node new below found is u in
    sound_from top fs next (rooted_put (tree_of top es) (tree_of top fs) place bytes (rooted_tree (tree_of top es) s.is_tree) p)
    (numbered_put (tree_of top es) (tree_of top fs) place bytes next s.numbered p) sorted (no_top_kept es fs place (Some new) below u s.no_top)

-- ---- a regular file is removed

-- no regular file stands at the top
pub file_not_top : (tree : Tree) (place : NameList) → IsTree tree → IsSome (file_at tree place) → place ≢ []
file_not_top tree place t f e = file_or_directory (node_at tree []) (rw e at f) t.top

-- an entry less takes a place away
pub takes : (top : Node) (es fs : List (NameList × Node)) (place : NameList) → place ≢ [] → IsMapUpdate es fs place None → TakesAway (tree_of top es) place (tree_of top fs)
takes top es fs place below u = let change = updated top es fs place None below u in record { gone = change.here; others = change.others }

-- a tree without a regular file is sound
pub sound_taken : (top : Node) (es fs : List (NameList × Node)) (place : NameList) (next : ℕ) → IsSound top es next → IsSome (file_at (tree_of top es) place) → IsMapUpdate es fs place None → IsStrictlySortedBy name_list_cmp (keys_of fs)
    → IsSound top fs next
sound_taken top es fs place next s f u sorted =
    let below = file_not_top (tree_of top es) place s.is_tree f in
    let t = takes top es fs place below u in
    sound_from top fs next (rooted_taken (tree_of top es) (tree_of top fs) place (rooted_tree (tree_of top es) s.is_tree) f t)
    (numbered_taken (tree_of top es) (tree_of top fs) place next s.numbered t) sorted (no_top_kept es fs place None below u s.no_top)

-- ---- a regular file is moved

-- places that compare as equal are one
pub same_places : (p q : NameList) → pointwise bytes_eq p q ≡ true → p ≡ q
same_places p q e = tells_apart name_list_exact p q (sym (lists_ties name_cmp texts_ties p q) ∙ e)

-- and others are two
other_places : (p q : NameList) → pointwise bytes_eq p q ≡ false → p ≢ q
other_places p q e same = false≢true (sym e ∙ (lists_ties name_cmp texts_ties p q ∙ ap (λ r. is_eq (name_list_cmp p r)) (sym same) ∙ ap is_eq (tied_itself name_list_total p)))

-- a file that is moved to its own place stays
pub moves_nowhere : (tree : Tree) (from to : NameList) → from ≡ to → Moves tree from to tree
moves_nowhere tree from to same = record { moved = ap (node_at tree) (sym same); gone = λ differ. absurd (differ same); others = λ q _ _. refl }

-- a place is made in a map, and another place is emptied
pub record IsMapReady (es fs gs : List (NameList × Node)) (from to : NameList) : Type 0 where
  pub differ : from ≢ to
  pub placeholder : Node
  pub made : IsMapUpdate es fs to (Some placeholder)
  pub taken : IsMapUpdate fs gs from None

-- the place is made under a copy of it
pub ready : (es fs gs : List (NameList × Node)) (from to copy : NameList) (placeholder : Node) (same : Bool) → same ≡ pointwise bytes_eq from to → same ≡ false → copy ≡ to → IsMapUpdate es fs copy (Some placeholder)
    → IsMapUpdate fs gs from None → IsMapReady es fs gs from to
ready es fs gs from to copy placeholder same is differs copied made taken = record {
  differ = other_places from to (sym is ∙ differs);
  placeholder = placeholder;
  made = λ q. made q ∙ ap (λ p. cond (is_at (name_list_cmp p) q) (Some placeholder) (lookup (is_at (name_list_cmp q)) es)) copied;
  taken = taken;
}

-- the place that was made is still there
pub place_kept : (es fs gs : List (NameList × Node)) (from to : NameList) → IsMapReady es fs gs from to → lookup (is_at (name_list_cmp to)) gs ≢ None
place_kept es fs gs from to r none =
    let kept = elsewhere fs gs from None r.taken to (λ e. r.differ (sym e)) ∙ at_place es fs to (Some r.placeholder) r.made in
    cc (sym kept ∙ none)

-- the file is still found once the place is made
pub file_found : (top : Node) (es fs gs : List (NameList × Node)) (from to : NameList) → IsTree (tree_of top es) → IsSome (file_at (tree_of top es) from) → IsMapReady es fs gs from to → lookup (is_at (name_list_cmp from)) fs ≢ None
file_found top es fs gs from to t f r none =
    let gone = node_at_below top es from (file_not_top (tree_of top es) from t f) ∙ sym (elsewhere es fs to (Some r.placeholder) r.made from r.differ) ∙ none in
    false≢true (ap (λ o. is_some (file_node o)) (sym gone) ∙ f)

-- the node that was found is put in the place that was made
pub moves : (top : Node) (es fs gs hs : List (NameList × Node)) (from to : NameList) (node : Node) → IsTree (tree_of top es) → IsSome (file_at (tree_of top es) from) → IsPlaceIn (tree_of top es) to
    → IsMapReady es fs gs from to → lookup (is_at (name_list_cmp from)) fs ≡ Some node → IsMapUpdate gs hs to (Some node) → Moves (tree_of top es) from to (tree_of top hs)
moves top es fs gs hs from to node t f p r found put =
    let low = file_not_top (tree_of top es) from t f in
    let high = place_not_top (tree_of top es) to p in
    let made = updated top es fs to (Some r.placeholder) high r.made in
    let taken = updated top fs gs from None low r.taken in
    let done = updated top gs hs to (Some node) high put in
    record {
      moved = done.here ∙ sym found ∙ sym (node_at_below top fs from low) ∙ made.others from r.differ;
      gone = λ _. done.others from r.differ ∙ taken.here;
      others = λ q nf nt. done.others q nt ∙ taken.others q nf ∙ made.others q nt;
    }

-- a tree in which a regular file was moved is sound
pub sound_moved : (top : Node) (es fs gs hs : List (NameList × Node)) (from to : NameList) (next : ℕ) (node : Node) → IsSound top es next → IsSome (file_at (tree_of top es) from) → IsPlaceIn (tree_of top es) to
    → (node_at (tree_of top es) to ≡ None) ⊎ IsSome (file_at (tree_of top es) to) → IsMapReady es fs gs from to → lookup (is_at (name_list_cmp from)) fs ≡ Some node → IsMapUpdate gs hs to (Some node)
    → IsStrictlySortedBy name_list_cmp (keys_of hs) → IsSound top hs next
sound_moved top es fs gs hs from to next node s f p may_come r found put sorted =
    let m = moves top es fs gs hs from to node s.is_tree f p r found put in
    let high = place_not_top (tree_of top es) to p in
    sound_from top hs next (rooted_moved (tree_of top es) (tree_of top hs) from to (rooted_tree (tree_of top es) s.is_tree) r.differ f p may_come m)
    (numbered_moved (tree_of top es) (tree_of top hs) from to next s.numbered r.differ m) sorted
    (no_top_kept gs hs to (Some node) high put (no_top_kept fs gs from None (file_not_top (tree_of top es) from s.is_tree f) r.taken (no_top_kept es fs to (Some r.placeholder) high r.made s.no_top)))

-- what can't fail goes well
pub certain : {T E : Type 0} (r : Result T E) (P Q : Type 0) → OnOk r P → OnErr r Q → ¬ Q → P
certain (Ok x) P Q ok err never = ok
certain (Err e) P Q ok err never = absurd (never err)
