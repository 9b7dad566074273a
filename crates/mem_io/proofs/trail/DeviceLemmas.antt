-- A node and all nodes below it get another device.
use Rattle.std.proofs.Common.{◌≡◌, ◌≢◌, ℕ, List, [], ◌∷◌, ◌++◌, refl, sym, ◌∙◌, ap, subst, ⊎_elim, Bool, true, false, cond}
use Rattle.std.specs.Prelude.{Option, Some, None, map, is_some, IsSome, option_map}
use Rattle.std.specs.declared.cmp.Ordering.{Ordering}
use Rattle.std.specs.declared.cmp.Ordering.TheVariants.{Less, Equal, Greater}
use Rattle.std.specs.Ordering.{is_eq}
use Rattle.std.specs.Str.{bytes_eq}
use Rattle.std.specs.List.{cons_option}
use Rattle.std.specs.List.Sorted.{IsStrictlySortedBy}
use Rattle.std.specs.Map.{lookup, keys_of}
use Rattle.std.specs.Map.Calls.{RetainsPairs}
use Rattle.std.specs.BTreeMap.{is_at}
use Rattle.std.specs.FinMap.{find}
use Rattle.std.specs.Option.{option_and_then}
use Rattle.std.specs.Cmp.Lexicographic.{bytes_decides}
use Rattle.std.proofs.lemmas.Bool.{false_from_ne_true, false≢true}
use Rattle.std.proofs.lemmas.Option.{same_Some}
use Rattle.sd_io.specs.Tree.{Name, NameList, Content, directory, link, file, other, Node, Tree, IsTree, name_list_cmp, node_at, is_directory_at, is_directory_node, is_directory_content}
use Rattle.sd_io.specs.Paths.{Linking, through_node, steps, is_up, kept, pieces_of, parts_of, reached_plain}
use Rattle.mem_io.specs.MemTree.{entries_below, by_number, listing, tree_of, PutsDevice}
use Rattle.sd_io.specs.Lists.{name_below, raw_entry}
use Rattle.mem_io.specs.MemSound.{IsNumbered, IsSound}
use Rattle.mem_io.specs.MemTrail.{begins_with, dev_within, plain_node}
use Rattle.mem_io.specs.MemDevices.{PutsDeviceFrom, PutsDeviceBy}
use Rattle.mem_io.specs.declared.log.ChangeLog.{ChangeLog}
use Rattle.mem_io.proofs.tree.EntryLemmas.{name_list_exact, find-lookup, node_at_top, node_at_below}
use Rattle.mem_io.proofs.tree.TreeLemmas.{IsRooted, same_or_other}
use Rattle.mem_io.proofs.tree.ListingLemmas.{name_of}
use Rattle.mem_io.proofs.tree.ListedLemmas.{order_is}
use Rattle.mem_io.proofs.walk.StandLemmas.{plain_stands}
use Rattle.mem_io.proofs.tree.SoundLemmas.{rooted_tree, sound_from}

-- ---- places that begin with the names of another

-- a place begins with its own names
begins_itself : (place : NameList) → begins_with place place ≡ true
begins_itself [] = refl
begins_itself (name ∷ place) = ap (λ b. cond b (begins_with place place) false) ((bytes_decides name name).1 refl) ∙ begins_itself place

pub begins_same : (place q : NameList) → q ≡ place → begins_with place q ≡ true
begins_same place q e = ap (begins_with place) e ∙ begins_itself place

-- the top begins with no other
pub begins_top : (place : NameList) → place ≢ [] → begins_with place [] ≡ false
begins_top [] apart = absurd (apart refl)
begins_top (name ∷ place) apart = refl

-- nothing is shorter than one name
one_name : (b : Bool) (name last : Name) (place : NameList) → (b ≡ true → name ≡ last) → name ∷ place ≢ last ∷ [] → cond b (begins_with place []) false ≡ false
one_name false name last place same apart = refl
one_name true name last [] same apart = absurd (apart (ap (λ n. n ∷ []) (same refl)))
one_name true name last (next ∷ place) same apart = refl

-- a place that isn't another begins with it where the place without its last name does
pub begins_front : (place front : NameList) (last : Name) → front ++ last ∷ [] ≢ place → begins_with place (front ++ last ∷ []) ≡ begins_with place front
begins_front [] front last apart = refl
begins_front (name ∷ place) [] last apart = one_name (bytes_eq name last) name last place (bytes_decides name last).0 (λ e. apart (sym e))
begins_front (name ∷ place) (first ∷ front) last apart = by (bytes_eq name first) (bytes_decides name first).0 (begins_front place front last)
  where
    by : (b : Bool) → (b ≡ true → name ≡ first) → (front ++ last ∷ [] ≢ place → begins_with place (front ++ last ∷ []) ≡ begins_with place front)
        → cond b (begins_with place (front ++ last ∷ [])) false ≡ cond b (begins_with place front) false
    by false same rest = refl
    by true same rest = rest (λ e. apart (λ i. sym (same refl) i ∷ e i))

-- what comes after the names
pub begins_more : (place rest : NameList) → begins_with place (place ++ rest) ≡ true
begins_more [] rest = refl
begins_more (name ∷ place) rest = ap (λ b. cond b (begins_with place (place ++ rest)) false) ((bytes_decides name name).1 refl) ∙ begins_more place rest

-- a place that begins with the names is they and a rest
pub rest_of : (place q : NameList) → begins_with place q ≡ true → (rest : NameList) × (q ≡ place ++ rest)
rest_of [] q e = (q, refl)
rest_of (name ∷ place) [] e = absurd (false≢true e)
rest_of (name ∷ place) (next ∷ q) e = by (bytes_eq name next) (bytes_decides name next).0 (rest_of place q) e
  where
    by : (b : Bool) → (b ≡ true → name ≡ next) → (begins_with place q ≡ true → (rest : NameList) × (q ≡ place ++ rest)) → cond b (begins_with place q) false ≡ true → (rest : NameList) × (next ∷ q ≡ name ∷ place ++ rest)
    by false same more e = absurd (false≢true e)
    by true same more e = let r = more e in (r.0, λ i. sym (same refl) i ∷ r.1 i)

-- ---- a node with another device

pub same_content : (place : NameList) (dev : ℕ) (q : NameList) (node : Node) → (dev_within place dev q node).content ≡ node.content
same_content place dev q node = elim (begins_with place q) as (λ b. (cond b (record node { dev = dev }) node).content ≡ node.content) [ true ↦ refl | false ↦ refl ]

same_ino : (place : NameList) (dev : ℕ) (q : NameList) (node : Node) → (dev_within place dev q node).ino ≡ node.ino
same_ino place dev q node = elim (begins_with place q) as (λ b. (cond b (record node { dev = dev }) node).ino ≡ node.ino) [ true ↦ refl | false ↦ refl ]

-- an entry doesn't tell the device
same_entry : (place : NameList) (dev : ℕ) (q : NameList) (node : Node) (name : Name) → raw_entry (dev_within place dev q node) name ≡ raw_entry node name
same_entry place dev q node name = elim (begins_with place q) as (λ b. raw_entry (cond b (record node { dev = dev }) node) name ≡ raw_entry node name) [ true ↦ refl | false ↦ refl ]

-- ---- all entries, once each node within has another device

abbrev put_in : NameList → ℕ → List (NameList × Node) → List (NameList × Node)
put_in place dev es = map (λ (e : NameList × Node). (e.0, dev_within place dev e.0 e.1)) es

-- a closure that writes to each value by its key, and stays as it was, leaves a map of the entries
pub written_pairs : {F K X : Type 0} (T : F → K → X → Bool → X → F → Type 0) (g : K → X → X) (f : F) → ((k : K) (v : X) (b : Bool) (w : X) (f' : F) → T f k v b w f' → (b ≡ true) × (w ≡ g k v) × (f' ≡ f)) → (es left : List (K × X))
    → RetainsPairs T f es left → left ≡ map (λ (e : K × X). (e.0, g e.0 e.1)) es
written_pairs T g f calls [] left none = none
written_pairs T g f calls (e ∷ es) left h =
    let call = calls e.0 e.1 h.0 h.1 h.2 h.4 in
    let more = written_pairs T g f calls es h.3 (subst (λ f'. RetainsPairs T f' es h.3) call.2 h.5) in
    h.6 ∙ ap (λ b. cond b ((e.0, h.1) ∷ h.3) h.3) call.0 ∙ (λ i. (e.0, call.1 i) ∷ more i)

module _ (place : NameList) (dev : ℕ) where
  keys_stay : (es : List (NameList × Node)) → keys_of (put_in place dev es) ≡ keys_of es
  keys_stay [] = refl
  keys_stay (e ∷ es) = ap (λ ks. e.0 ∷ ks) (keys_stay es)

  put_found : (q : NameList) (es : List (NameList × Node)) → lookup (is_at (name_list_cmp q)) (put_in place dev es) ≡ option_map (dev_within place dev q) (lookup (is_at (name_list_cmp q)) es)
  put_found q [] = refl
  put_found q (e ∷ es) = by (name_list_cmp q e.0) refl (put_found q es)
    where
      by : (r : Ordering) → name_list_cmp q e.0 ≡ r → lookup (is_at (name_list_cmp q)) (put_in place dev es) ≡ option_map (dev_within place dev q) (lookup (is_at (name_list_cmp q)) es)
          → cond (is_eq r) (Some (dev_within place dev e.0 e.1)) (lookup (is_at (name_list_cmp q)) (put_in place dev es)) ≡ option_map (dev_within place dev q) (cond (is_eq r) (Some e.1) (lookup (is_at (name_list_cmp q)) es))
      by Less is rest = rest
      by Equal is rest = ap (λ p. Some (dev_within place dev p e.1)) (sym (name_list_exact q e.0 is))
      by Greater is rest = rest

  same_entries : (folder : NameList) (es : List (NameList × Node)) → entries_below folder (put_in place dev es) ≡ entries_below folder es
  same_entries folder [] = refl
  same_entries folder (e ∷ es) = by (name_below folder e.0) (same_entries folder es)
    where
      by : (o : Option Name) → entries_below folder (put_in place dev es) ≡ entries_below folder es
          → cons_option (option_map (raw_entry (dev_within place dev e.0 e.1)) o) (entries_below folder (put_in place dev es)) ≡ cons_option (option_map (raw_entry e.1) o) (entries_below folder es)
      by None rest = rest
      by (Some name) rest = λ i. same_entry place dev e.0 e.1 name i ∷ rest i

-- ---- the tree

-- a node that was there
was_some : (g : Node → Node) (o : Option Node) (n : Node) → option_map g o ≡ Some n → (m : Node) × (o ≡ Some m) × (n ≡ g m)
was_some g None n e = cc
was_some g (Some m) n e = (m, refl, sym (same_Some _ _ e))

same_directory : (place : NameList) (dev : ℕ) (q : NameList) (o : Option Node) → is_directory_node (option_map (dev_within place dev q) o) ≡ is_directory_node o
same_directory place dev q None = refl
same_directory place dev q (Some node) = ap is_directory_content (same_content place dev q node)

same_presence : (g : Node → Node) (o : Option Node) → is_some (option_map g o) ≡ is_some o
same_presence g None = refl
same_presence g (Some node) = refl

module _ (top new_top : Node) (es fs : List (NameList × Node)) (place : NameList) (dev : ℕ) (put_top : new_top ≡ dev_within place dev [] top) (put : fs ≡ put_in place dev es) where
  abbrev before : Tree
  before = tree_of top es

  abbrev after : Tree
  after = tree_of new_top fs

  put_at : (q : NameList) → node_at after q ≡ option_map (dev_within place dev q) (node_at before q)
  put_at q = ⊎_elim
      (λ e. rw e (node_at_top new_top fs ∙ ap Some put_top ∙ ap (option_map (dev_within place dev [])) (sym (node_at_top top es))))
      (λ below. node_at_below new_top fs q below ∙ ap (lookup (is_at (name_list_cmp q))) put ∙ put_found place dev q es ∙ ap (option_map (dev_within place dev q)) (sym (node_at_below top es q below)))
      (same_or_other q [])

  put_order : (folder : NameList) → after.order folder ≡ before.order folder
  unfolding listing
  put_order folder =
      order_is new_top fs folder ∙ ap (λ nodes. map name_of (by_number (entries_below folder nodes))) put
      ∙ ap (λ entries. map name_of (by_number entries)) (same_entries place dev folder es) ∙ sym (order_is top es folder)

  -- the device of all nodes within is put
  pub puts_device : PutsDevice before place dev after
  puts_device = record {
    within = λ rest. put_at (place ++ rest) ∙ ap (λ b. option_map (λ (node : Node). cond b (record node { dev = dev }) node) (node_at before (place ++ rest))) (begins_more place rest);
    others = λ q apart.
        let outside : begins_with place q ≡ false = false_from_ne_true _ (λ e. let r = rest_of place q e in apart r.0 r.1) in
        put_at q ∙ ap (λ b. option_map (λ (node : Node). cond b (record node { dev = dev }) node) (node_at before q)) outside ∙ unchanged (node_at before q);
    orders = put_order;
  }
    where
      unchanged : (o : Option Node) → option_map (λ (node : Node). node) o ≡ o
      unchanged None = refl
      unchanged (Some node) = refl

  put_rooted : IsRooted before → IsRooted after
  put_rooted r =
      let directories : (q : NameList) → is_directory_at after q ≡ is_directory_at before q = λ q. ap is_directory_node (put_at q) ∙ same_directory place dev q (node_at before q) in
      let stood : (q : NameList) → IsSome (node_at after q) → IsSome (node_at before q) = λ q s. sym (same_presence (dev_within place dev q) (node_at before q)) ∙ sym (ap is_some (put_at q)) ∙ s in
      record {
        top = directories [] ∙ r.top;
        parents = λ folder name s. directories folder ∙ r.parents folder name (stood (folder ++ name ∷ []) s);
        names = λ folder name s. r.names folder name (stood (folder ++ name ∷ []) s);
      }

  put_numbered : (next : ℕ) → IsNumbered before next → IsNumbered after next
  put_numbered next i =
      let was : (q : NameList) (n : Node) → node_at after q ≡ Some n → (m : Node) × (node_at before q ≡ Some m) × (n ≡ dev_within place dev q m) = λ q n s. was_some (dev_within place dev q) (node_at before q) n (sym (put_at q) ∙ s) in
      let number : (q : NameList) (n m : Node) → n ≡ dev_within place dev q m → n.ino ≡ m.ino = λ q n m e. ap (λ (x : Node). x.ino) e ∙ same_ino place dev q m in
      record {
        below = λ q n s. let w = was q n s in let lt = i.below q w.0 w.1 in rw (number q n w.0 w.2) lt;
        apart = λ p q m n s t e.
            let v = was p m s in
            let w = was q n t in
            i.apart p q v.0 w.0 v.1 w.1 (sym (number p m v.0 v.2) ∙ e ∙ number q n w.0 w.2);
      }

  -- the tree stays sound
  pub sound_device : (next : ℕ) → IsSound top es next → IsSound new_top fs next
  sound_device next s =
      let keys : keys_of fs ≡ keys_of es = ap keys_of put ∙ keys_stay place dev es in
      let none : is_some (find name_list_cmp [] fs) ≡ false = ap is_some (find-lookup [] fs ∙ ap (lookup (is_at (name_list_cmp []))) put ∙ put_found place dev [] es) ∙ same_presence (dev_within place dev []) (lookup (is_at (name_list_cmp [])) es)
      ∙ ap is_some (sym (find-lookup [] es)) ∙ s.no_top in
      sound_from new_top fs next (put_rooted (rooted_tree before s.is_tree)) (put_numbered next s.numbered) (subst (IsStrictlySortedBy name_list_cmp) (sym keys) s.ordered) none

-- ---- where a path leads, no link followed

module _ (tree : Tree) where
  plain : Linking
  plain folder target rest = None

  -- nothing follows on from what is no directory
  stuck : (place : NameList) (parts : List Name) (q : NameList) → is_directory_at tree place ≡ false → steps tree plain false place parts ≡ Some q → (parts ≡ []) × (q ≡ place)
  stuck place [] q none e = (refl, sym (same_Some _ _ e))
  stuck place (next ∷ parts) q none e = cc (rw none at e)

  through : (at : NameList) (part : Name) (parts : List Name) (q : NameList) (o : Option Node) → node_at tree (at ++ part ∷ []) ≡ o → IsSome (node_at tree q) → steps tree plain false (at ++ part ∷ []) parts ≡ Some q
      → through_node plain (λ next. steps tree plain false next parts) false at part parts o ≡ Some q
  through at part parts q None is stands e =
      let end = stuck (at ++ part ∷ []) parts q (ap is_directory_node is) e in
      cc (sym (ap is_some (ap (node_at tree) end.1 ∙ is)) ∙ stands)
  through at part parts q (Some node) is stands e = by node.content (ap is_directory_node is) parts e
    where
      by : (c : Content) → is_directory_at tree (at ++ part ∷ []) ≡ is_directory_content c → (parts : List Name) → steps tree plain false (at ++ part ∷ []) parts ≡ Some q
          → through_node plain (λ next. steps tree plain false next parts) false at part parts (Some (record { content = c; dev = node.dev; ino = node.ino })) ≡ Some q
      by directory is parts e = e
      by (link target) is [] e = e
      by (link target) is (next ∷ parts) e = let end = stuck (at ++ part ∷ []) (next ∷ parts) q is e in cc end.0
      by (file bytes mode) is parts e = e
      by other is parts e = e

  -- a name leads on from a directory to where something stands
  pub steps_down : (at : NameList) (part : Name) (parts : List Name) (q : NameList) → is_directory_at tree at ≡ true → is_up part ≡ false → IsSome (node_at tree q) → steps tree (λ folder target rest. None) false (at ++ part ∷ []) parts ≡ Some q
      → steps tree (λ folder target rest. None) false at (part ∷ parts) ≡ Some q
  unfolding plain
  steps_down at part parts q folder down stands e = rw (folder, down) (through at part parts q (node_at tree (at ++ part ∷ [])) refl stands e)

-- a name leads on from a directory to the node that gets the device
pub device_down : (old new : Tree) (log told : ChangeLog) (at : NameList) (all parts : List Name) (part : Name) (dev : ℕ) → is_directory_at old at ≡ true → is_up part ≡ false → all ≡ part ∷ parts
    → PutsDeviceFrom old (at ++ part ∷ []) parts dev new log told → PutsDeviceFrom old at all dev new log told
device_down old new log told at all parts part dev folder down is h = record {
  place = h.place;
  leads = ap (steps old (λ folder target rest. None) false at) is ∙ steps_down old at part parts h.place folder down h.stands h.leads;
  stands = h.stands;
  puts = h.puts;
  tells = h.tells;
}

-- a path that isn't empty leads where its parts do
reached_by_parts : (tree : Tree) (path : List ℕ) → bytes_eq path [] ≡ false → reached_plain tree path ≡ steps tree (λ folder target rest. None) false [] (kept (pieces_of path))
unfolding reached_plain parts_of
reached_by_parts tree path some = ap (λ b. cond b None (steps tree (λ folder target rest. None) false [] (kept (pieces_of path)))) some

-- the empty path leads nowhere
pub empty_nowhere : (tree : Tree) (path : List ℕ) → bytes_eq path [] ≡ true → reached_plain tree path ≡ None
unfolding reached_plain
empty_nowhere tree path none = ap (λ b. cond b None (steps tree (λ folder target rest. None) false [] (parts_of path))) none

-- the parts of a path lead to the node that gets the device
pub device_at : (old new : Tree) (log told : ChangeLog) (path : List ℕ) (dev : ℕ) → bytes_eq path [] ≡ false → PutsDeviceFrom old [] (kept (pieces_of path)) dev new log told → PutsDeviceBy old path dev new log told
device_at old new log told path dev some h = record { place = h.place; leads = reached_by_parts old path some ∙ h.leads; stands = h.stands; puts = h.puts; tells = h.tells }

-- where nothing stands the path leads nowhere
pub leads_nowhere : (tree : Tree) → IsTree tree → (path : List ℕ) → bytes_eq path [] ≡ false → plain_node tree [] (kept (pieces_of path)) ≡ None → reached_plain tree path ≡ None
leads_nowhere tree whole path some none = reached_by_parts tree path some ∙ by (steps tree (λ folder target rest. None) false [] (kept (pieces_of path))) (plain_stands tree whole (kept (pieces_of path))) none
  where
    by : (o : Option NameList) → ((q : NameList) → o ≡ Some q → IsSome (node_at tree q)) → option_and_then (node_at tree) o ≡ None → o ≡ None
    by None stands none = refl
    by (Some q) stands none = cc (sym (ap is_some none) ∙ stands q refl)
