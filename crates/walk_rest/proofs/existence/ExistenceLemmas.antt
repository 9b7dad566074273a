-- Each root has a plan.
use Rattle.std.proofs.Common.{rules, ◌≡◌, ℕ, ◌+◌, ◌-◌, ◌*◌, ◌<◌, ◌≤◌, ◌⊎◌, zero, suc, Bool, true, false, cond, List, [], ◌∷◌, ◌++◌, length, get_or, map, Option, Some, None, Err, refl, sym, ◌∙◌, ap, subst, inl, inr, arith, Ordering, Less, Equal, Greater, is_lt, All, length-append}
use Rattle.std.specs.Prelude.{IsSome, is_some, nat_eq}
use Rattle.std.specs.List.{AllByRecursion}
use Rattle.std.specs.Str.{bytes_eq}
use Rattle.std.specs.Ordering.{is_eq}
use Rattle.std.specs.Option.{option_map_or}
use Rattle.std.specs.FinMap.{FinMap, get, len, remove, get-remove, len-remove, get-empty, empty_of_len, nat_cmp-IsAntisymmetric, slice_cmp-IsAntisymmetric}
use Rattle.std.specs.Cmp.{IsTotalOrder, nat_cmp_total}
use Rattle.std.specs.Cmp.Lexicographic.{bytes_decides, lists_total}
use Rattle.std.proofs.Math.Nat.{suc-mul}
use Rattle.std.proofs.lemmas.Bool.{cases_lt, false≢true, true≢false}
use Rattle.std.proofs.lemmas.Option.{same_Some}
use Rattle.std.proofs.lemmas.List.Folds.{list_any_at}
use Rattle.sd_io.specs.Tree.{NameList, Name, Content, directory, link, file, other, Node, Tree, IsTree, name_list_cmp, node_at, is_directory_content}
use Rattle.sd_io.specs.Files.{kind_of}
use Rattle.sd_io.specs.Lists.{Tells, TellAll, directory_of}
use Rattle.sd_io.specs.declared.meta.Ident.{Ident}
use Rattle.sd_io.specs.declared.meta.RawEntry.{RawEntry}
use Rattle.walk_rest.specs.declared.entry.DirEntry.{DirEntry}
use Rattle.walk_rest.specs.declared.error.Error.{Error}
use Rattle.walk_rest.specs.declared.level.Folder.{Folder}
use Rattle.walk_rest.specs.Plan.{Item, Plan, done, past, into, Manner, Seen, fails, stays, enters, seen, same_ident, ident_of, ancestor_with, is_directory, entry_below, path_below, node_to, item_where, item_before, item_after, is_shown, insert, sorted, in_order, ListsNames, IsPlan, IsPast, IsInto, IsContents}
use Rattle.walk_rest.specs.Listing.{Beginning, ends, begins, begins_with, beginning_by, beginning, root_entry, IsBegun, IsRootPlan}
use Rattle.walk_rest.specs.Existence.{longest_chain}
use Rattle.walk_rest.proofs.existence.ReachLemmas.{DirectoryTo, node_into, leads_below}
use Rattle.walk_rest.proofs.laws.PlanLemmas.{plan_same}
use Rattle.walk_rest.proofs.existence.EnteredLemmas.{Entered, itself, by_root, by_link, entered_by}

-- ---- places taken out of a map

abbrev Places : Type 0
Places = FinMap name_list_cmp Node

place_total : IsTotalOrder name_list_cmp
place_total = lists_total (lists_total nat_cmp_total)

-- two places are one, or taking out the one leaves the other
apart : (p q : NameList) → (q ≡ p) ⊎ ((places : Places) → get (remove places p) q ≡ get places q)
apart p q = by (name_list_cmp q p) refl
  where
    by : (o : Ordering) → name_list_cmp q p ≡ o → (q ≡ p) ⊎ ((places : Places) → get (remove places p) q ≡ get places q)
    by Less e = inr (λ places. get-remove place_total places p q ∙ ap (λ (o : Ordering). cond (is_eq o) None (get places q)) e)
    by Equal e = inl (slice_cmp-IsAntisymmetric (slice_cmp-IsAntisymmetric nat_cmp-IsAntisymmetric) q p e)
    by Greater e = inr (λ places. get-remove place_total places p q ∙ ap (λ (o : Ordering). cond (is_eq o) None (get places q)) e)

-- a place that was there is one less
one_less : (places : Places) (p : NameList) → IsSome (get places p) → len (remove places p) + 1 ≡ len places
one_less places p there = by (len places) refl
  where
    fewer : len (remove places p) ≡ len places - 1
    fewer = len-remove place_total places p ∙ ap (λ b. cond b (len places - 1) (len places)) there

    by : (n : ℕ) → len places ≡ n → len (remove places p) + 1 ≡ len places
    by zero e =
        let none : is_some (get places p) ≡ false = ap (λ (m : Places). is_some (get m p)) (empty_of_len places e) ∙ ap is_some (get-empty name_list_cmp p) in
        cc
    by (suc n) e = omega (arith, fewer, e)

-- ---- the entries of a directory

-- the entries that tell of names that stand in a folder
record Told (tree : Tree) (place : NameList) (names : List Name) : Type 0 where
  raws : List RawEntry
  told : TellAll tree place names raws
  each : AllByRecursion (λ raw. Tells tree place raw.name raw) raws

told_exists : (tree : Tree) (place : NameList) (names : List Name) → All (λ name. IsSome (node_at tree (place ++ name ∷ []))) names
    → Told tree place names
told_exists tree place [] h = record { raws = []; told = tt; each = tt }
told_exists tree place (name ∷ names) h =
    by (node_at tree (place ++ name ∷ [])) refl (h 0 name (omega arith)) (told_exists tree place names (λ k d lt. h (suc k) d (omega arith)))
  where
    by : (o : Option Node) → node_at tree (place ++ name ∷ []) ≡ o → IsSome o → Told tree place names → Told tree place (name ∷ names)
    by None e there rest = cc
    by (Some node) e there rest =
        let raw : RawEntry = record { name = name; kind = kind_of node.content; ino = node.ino } in
        let tells : Tells tree place name raw = record { node = node; stands = e; name_is = refl; kind_is = refl; ino_is = refl } in
        record { raws = raw ∷ rest.raws; told = (tells, rest.told); each = (tells, rest.each) }

folder_told : (tree : Tree) → IsTree tree → (place : NameList) → Told tree place (tree.order place)
folder_told tree is place = told_exists tree place (tree.order place) (λ k d lt.
    let name = get_or (tree.order place) k d in
    sym (is.order_all place name) ∙ list_any_at (bytes_eq name) (tree.order place) k d lt ((bytes_decides name name).1 refl))

-- ---- what holds of each entry holds of them in order

all_map : {X Y : Type 0} (P : Y → Type 0) (f : X → Y) (xs : List X) → AllByRecursion (λ x. P (f x)) xs → AllByRecursion P (map f xs)
all_map P f [] h = tt
all_map P f (x ∷ xs) h = (h.0, all_map P f xs h.1)

all_weaker : {X : Type 0} (P Q : X → Type 0) (xs : List X) → ((x : X) → P x → Q x) → AllByRecursion P xs → AllByRecursion Q xs
all_weaker P Q [] f h = tt
all_weaker P Q (x ∷ xs) f h = (f x h.0, all_weaker P Q xs f h.1)

all_insert : {X : Type 0} (P : X → Type 0) (compare : X → X → Ordering) (x : X) (ys : List X) → P x → AllByRecursion P ys
    → AllByRecursion P (insert compare x ys)
all_insert P compare x [] p h = (p, tt)
all_insert P compare x (y ∷ ys) p h = by (is_lt (compare y x)) (all_insert P compare x ys p h.1)
  where
    by : (b : Bool) → AllByRecursion P (insert compare x ys) → AllByRecursion P (cond b (y ∷ insert compare x ys) (x ∷ y ∷ ys))
    by true rest = (h.0, rest)
    by false rest = (p, (h.0, h.1))

all_sorted : {X : Type 0} (P : X → Type 0) (compare : X → X → Ordering) (xs : List X) → AllByRecursion P xs
    → AllByRecursion P (sorted compare xs)
all_sorted P compare [] h = tt
all_sorted P compare (x ∷ xs) h = all_insert P compare x (sorted compare xs) h.0 (all_sorted P compare xs h.1)

all_ordered : (P : DirEntry → Type 0) (manner : Manner) (entries : List DirEntry) → AllByRecursion P entries
    → AllByRecursion P (in_order manner entries)
all_ordered P manner entries h = by manner.sorts
  where
    by : (b : Bool) → AllByRecursion P (cond b (sorted manner.compare entries) entries)
    by true = all_sorted P manner.compare entries h
    by false = h

kind_there : (c : Content) → is_directory (kind_of c) ≡ true → is_directory_content c ≡ true
kind_there directory e = refl
kind_there (link target) e = cc
kind_there (file bytes mode) e = cc
kind_there other e = cc

below_top : (depth : ℕ) → nat_eq (depth + 1) 0 ≡ false
below_top depth = search rules

same_itself : (ident : Ident) → same_ident ident ident ≡ true
same_itself ident = search rules

module _ (tree : Tree) (is : IsTree tree) (manner : Manner) where
  -- a plan whose longest chain is below a bound
  abbrev Planned : ℕ → List Folder → List DirEntry → Type 0
  Planned bound chain entries = (plan : Plan) × IsPlan tree manner chain entries plan × (longest_chain plan < bound)

  abbrev HasContents : ℕ → List Folder → Folder → Type 0
  HasContents bound chain folder = (inner : List DirEntry) × IsContents tree manner folder inner × Planned bound (folder ∷ chain) inner

  -- where an entry is entered, its directory has a plan
  abbrev CanEnter : ℕ → List Folder → DirEntry → Type 0
  CanEnter bound chain entry = (s : DirEntry) (folder : Folder) → seen tree manner chain entry ≡ enters s folder → HasContents bound chain folder

  plan_of : (bound : ℕ) (chain : List Folder) (entries : List DirEntry) → AllByRecursion (CanEnter bound chain) entries
      → Planned (suc bound) chain entries
  plan_of bound chain [] h = (done, tt, omega arith)
  plan_of bound chain (entry ∷ entries) h = by (seen tree manner chain entry) refl (plan_of bound chain entries h.1)
    where
      by : (s : Seen) → seen tree manner chain entry ≡ s → Planned (suc bound) chain entries → Planned (suc bound) chain (entry ∷ entries)
      by (fails error) e rest =
          let item : Option Item = Some (Err error) in
          (past entry.path item rest.0, (refl, subst (λ (s : Seen). IsPast manner s item) (sym e) refl, rest.1), rest.2)
      by (stays t) e rest =
          let item = item_where (is_shown manner.options t.depth) t in
          (past entry.path item rest.0, (refl, subst (λ (s : Seen). IsPast manner s item) (sym e) refl, rest.1), rest.2)
      by (enters t folder) e rest =
          let inside = h.0 t folder e in
          let before = item_before manner.options t in
          let after = item_after manner.options t in
          let low : longest_chain inside.2.0 < bound = inside.2.2 in
          let beside : longest_chain rest.0 < suc bound = rest.2 in (
            into folder before inside.2.0 after rest.0,
            (subst (λ (s : Seen). IsInto manner s folder before after) (sym e) (refl, refl, refl), (inside.0, inside.1, inside.2.1), rest.1),
            omega (arith, low, beside),
          )

  -- a directory whose entries can be entered
  contents_of : (bound : ℕ) (chain : List Folder) (folder : Folder) (place : NameList) → directory_of tree folder.path ≡ Some place
      → ((raw : RawEntry) → Tells tree place raw.name raw → CanEnter bound (folder ∷ chain) (entry_below folder raw))
      → HasContents (suc bound) chain folder
  contents_of bound chain folder place leads below = by (cases_lt folder.depth manner.options.max_depth)
    where
      by : (folder.depth < manner.options.max_depth) ⊎ (manner.options.max_depth ≤ folder.depth) → HasContents (suc bound) chain folder
      by (inr deep) = ([], inl (deep, refl), (done, tt, omega arith))
      by (inl shallow) =
          let told = folder_told tree is place in
          let entries = map (entry_below folder) told.raws in
          let enter = CanEnter bound (folder ∷ chain) in
          let names : ListsNames tree folder.path told.raws = record { folder = place; leads = leads; told = told.told } in (
            in_order manner entries,
            inr (record { shallow = shallow; listed = told.raws; names = names; ordered = refl }),
            plan_of bound (folder ∷ chain) (in_order manner entries)
                (all_ordered enter manner entries (all_map enter (entry_below folder) told.raws (all_weaker _ _ told.raws below told.each))),
          )

  -- ---- how far down a walk can still go

  -- each directory is among these, or was entered with its identity
  abbrev HasFresh : Places → List Folder → Type 0
  HasFresh fresh chain = (place : NameList) (node : Node) → node_at tree place ≡ Some node → is_directory_content node.content ≡ true
      → IsSome (get fresh place) ⊎ IsSome (ancestor_with (ident_of node) chain)

  -- what lies farther down is among these
  abbrev HasDeeper : Places → NameList → Type 0
  HasDeeper deeper top = (place : NameList) → IsSome (node_at tree place) → length top < length place → IsSome (get deeper place)

  -- A directory that is entered. A directory in it is one fewer that is deeper, a link from it one fewer that is fresh.
  record Reaches (bound : ℕ) (chain : List Folder) (folder : Folder) : Type 0 where
    place : NameList
    leads : directory_of tree folder.path ≡ Some place
    fresh : Places
    has_fresh : HasFresh fresh (folder ∷ chain)
    deeper : Places
    has_deeper : HasDeeper deeper place
    small : len fresh * (len tree.nodes + 1) + len deeper < bound

  still_entered : (ident : Ident) (folder : Folder) (chain : List Folder) → IsSome (ancestor_with ident chain)
      → IsSome (ancestor_with ident (folder ∷ chain))
  still_entered ident folder chain h = by (option_map_or (same_ident ident) folder.ident false)
    where
      by : (b : Bool) → IsSome (cond b (Some folder) (ancestor_with ident chain))
      by true = refl
      by false = h

  now_entered : (ident : Ident) (folder : Folder) (chain : List Folder) → folder.ident ≡ Some ident
      → IsSome (ancestor_with ident (folder ∷ chain))
  now_entered ident folder chain e =
      ap (λ (o : Option Ident). is_some (cond (option_map_or (same_ident ident) o false) (Some folder) (ancestor_with ident chain))) e
      ∙ ap (λ b. is_some (cond b (Some folder) (ancestor_with ident chain))) (same_itself ident)

  -- a directory that stands in one that is entered
  child_reaches : (bound : ℕ) (chain : List Folder) (folder inside : Folder) (raw : RawEntry) (r : Reaches (suc bound) chain folder)
      → Tells tree r.place raw.name raw → inside.path ≡ path_below folder.path raw.name
      → is_directory raw.kind ≡ true → Reaches bound (folder ∷ chain) inside
  child_reaches bound chain folder inside raw r told path is_folder =
      let below = r.place ++ raw.name ∷ [] in
      let stands : IsSome (node_at tree below) = ap is_some told.stands in
      let long = length-append r.place (raw.name ∷ []) in
      let fewer = one_less r.deeper below (r.has_deeper below stands (omega (arith, long))) in
      let there = kind_there told.node.content (ap is_directory (sym told.kind_is) ∙ is_folder) in
      record {
        place = below;
        leads = ap (directory_of tree) path ∙ leads_below tree folder.path r.place raw.name told.node is r.leads told.stands there;
        fresh = r.fresh;
        has_fresh = λ q node stands d. elim (r.has_fresh q node stands d) [
          | inl f ↦ inl f
          | inr a ↦ inr (still_entered (ident_of node) inside (folder ∷ chain) a)
        ];
        deeper = remove r.deeper below;
        has_deeper = λ q there longer. elim (apart below q) [
          | inl e ↦ let same = ap length e in absurd (omega (arith, same, longer))
          | inr kept ↦ ap is_some (kept r.deeper) ∙ r.has_deeper q there (omega (arith, long, longer))
        ];
        small = let s = r.small in omega (arith, s, fewer);
      }

  link_small : (a b n d bound : ℕ) → a + 1 ≡ b → b * (n + 1) + d < suc bound → a * (n + 1) + n < bound
  link_small a b n d bound e small =
      let more : b ≡ suc a = omega arith in
      let h = subst (λ (x : ℕ). x * (n + 1) + d < suc bound) more small in
      omega (arith, suc-mul a (n + 1), h)

  -- a directory that a link from one that is entered leads to
  link_reaches : (bound : ℕ) (chain : List Folder) (folder inside : Folder) (node : Node) (r : Reaches (suc bound) chain folder)
      → DirectoryTo tree inside.path node → is_directory_content node.content ≡ true
      → inside.ident ≡ Some (ident_of node) → ancestor_with (ident_of node) (folder ∷ chain) ≡ None → Reaches bound (folder ∷ chain) inside
  link_reaches bound chain folder inside node r to there ident first =
      let inner = inside ∷ folder ∷ chain in
      let none : is_some (ancestor_with (ident_of node) (folder ∷ chain)) ≡ false = ap is_some first in
      let was_fresh : IsSome (get r.fresh to.place) = elim (r.has_fresh to.place node to.stands there) [ inl f ↦ f | inr a ↦ absurd (true≢false (sym a ∙ none)) ] in
      let same : (q : NameList) (n : Node) → node_at tree q ≡ Some n → q ≡ to.place → n ≡ node = λ q n stands e. same_Some _ _ (sym stands ∙ (ap (node_at tree) e ∙ to.stands)) in
      record {
        place = to.place;
        leads = to.leads;
        fresh = remove r.fresh to.place;
        has_fresh = λ q n stands d. elim (apart to.place q) [
          | inl e ↦ inr (ap (λ (m : Node). is_some (ancestor_with (ident_of m) inner)) (same q n stands e) ∙ now_entered (ident_of node) inside (folder ∷ chain) ident)
          | inr kept ↦ elim (r.has_fresh q n stands d) [
            | inl f ↦ inl (ap is_some (kept r.fresh) ∙ f)
            | inr a ↦ inr (still_entered (ident_of n) inside (folder ∷ chain) a)
          ]
        ];
        deeper = tree.nodes;
        has_deeper = λ q stands longer. stands;
        small = link_small _ (len r.fresh) (len tree.nodes) (len r.deeper) bound (one_less r.fresh to.place was_fresh) r.small;
      }

  -- what is entered from a directory
  onward : (bound : ℕ) (chain : List Folder) (folder : Folder) (r : Reaches (suc bound) chain folder) (raw : RawEntry) (s : DirEntry) (inside : Folder)
      → Tells tree r.place raw.name raw
      → seen tree manner (folder ∷ chain) (entry_below folder raw) ≡ enters s inside → Reaches bound (folder ∷ chain) inside
  onward bound chain folder r raw s inside told e =
      let at = entered_by manner (folder ∷ chain) (entry_below folder raw) s inside (node_to tree (path_below folder.path raw.name) true) e in
      by at.path (node_to tree (path_below folder.path raw.name) true) refl at.entered
    where
      by : inside.path ≡ path_below folder.path raw.name → (found : Option Node)
          → node_to tree (path_below folder.path raw.name) true ≡ found
          → Entered manner (folder ∷ chain) (entry_below folder raw) inside found → Reaches bound (folder ∷ chain) inside
      by path found leads (itself is_folder) = child_reaches bound chain folder inside raw r told path is_folder
      by path found leads (by_root n there top) = absurd (false≢true (sym (below_top folder.depth) ∙ top))
      by path found leads (by_link n there ident first) =
          let to = node_into tree inside.path true n (ap (λ (q : List ℕ). node_to tree q true) path ∙ leads) there in
          link_reaches bound chain folder inside n r to there ident first

  has_contents : (bound : ℕ) (chain : List Folder) (folder : Folder) → Reaches bound chain folder → HasContents bound chain folder
  has_contents zero chain folder r = let s = r.small in absurd (omega (arith, s))
  has_contents (suc bound) chain folder r =
      contents_of bound chain folder r.place r.leads
      (λ raw told s inside e. has_contents bound (folder ∷ chain) inside (onward bound chain folder r raw s inside told e))

  -- ---- the root

  -- the most directories that are entered at one time
  most : ℕ
  most = (len tree.nodes + 1) * (len tree.nodes + 1)

  root_reaches : (folder : Folder) (node : Node) → DirectoryTo tree folder.path node → Reaches most [] folder
  unfolding most
  root_reaches folder node to = record {
    place = to.place;
    leads = to.leads;
    fresh = tree.nodes;
    has_fresh = λ q n stands d. inl (ap is_some stands);
    deeper = tree.nodes;
    has_deeper = λ q stands longer. stands;
    small = let n = len tree.nodes in omega (arith, suc-mul n (n + 1));
  }

  -- the root where it is entered
  root_entered : (root : List ℕ) (node : Node) → node_to tree root false ≡ Some node → CanEnter most [] (root_entry root node)
  root_entered root node leads s folder e =
      let at = entered_by manner [] (root_entry root node) s folder (node_to tree root true) e in
      by at.path (node_to tree root true) refl at.entered
    where
      to : folder.path ≡ root → (n : Node) (follow : Bool) → node_to tree root follow ≡ Some n → is_directory_content n.content ≡ true
          → HasContents most [] folder
      to path n follow found there =
          let into = node_into tree folder.path follow n (ap (λ (q : List ℕ). node_to tree q follow) path ∙ found) there in
          has_contents most [] folder (root_reaches folder n into)

      by : folder.path ≡ root → (found : Option Node) → node_to tree root true ≡ found
          → Entered manner [] (root_entry root node) folder found → HasContents most [] folder
      by path found is_found (itself is_folder) = to path node false leads (kind_there node.content is_folder)
      by path found is_found (by_root n there top) = to path n true is_found there
      by path found is_found (by_link n there ident first) = to path n true is_found there

  -- a plan of the root, with the bound
  abbrev RootPlanned : List ℕ → Beginning → Type 0
  RootPlanned root b = (plan : Plan) × IsBegun tree manner root b plan × (longest_chain plan ≤ most)

  failed : (root : List ℕ) (error : Error) → RootPlanned root (ends error)
  failed root error = (past root (Some (Err error)) done, refl, omega arith)

  begun : (root : List ℕ) (unfollowed : Option Node) → node_to tree root false ≡ unfollowed → RootPlanned root (begins_with root unfollowed)
  begun root None e = failed root _
  begun root (Some node) e =
      let p = plan_of most [] (root_entry root node ∷ []) (root_entered root node e, tt) in
      let low : longest_chain p.0 < suc most = p.2 in
      (p.0, p.1, omega (arith, low))

  root_planned : (root : List ℕ) → RootPlanned root (beginning tree manner.options root)
  root_planned root = by manner.options.same_file_system (node_to tree root true)
    where
      unfollowed : RootPlanned root (begins_with root (node_to tree root false))
      unfollowed = begun root (node_to tree root false) refl

      by : (one : Bool) (found : Option Node) → RootPlanned root (beginning_by (record manner.options { same_file_system = one }) root found (node_to tree root false))
      by true None = failed root _
      by true (Some node) = unfollowed
      by false found = unfollowed

pub root_has_plan : (tree : Tree) (manner : Manner) (root : List ℕ) → IsTree tree → (plan : Plan) × IsRootPlan tree manner root plan
root_has_plan tree manner root is = let p = root_planned tree is manner root in (p.0, p.1)

-- two plans of a root are one
begun_same : (tree : Tree) (manner : Manner) (root : List ℕ) (b : Beginning) (p q : Plan) → IsBegun tree manner root b p
    → IsBegun tree manner root b q → p ≡ q
begun_same tree manner root (ends error) p q f g = f ∙ sym g
begun_same tree manner root (begins entry) p q f g = plan_same tree manner [] (entry ∷ []) p q f g

pub chain_bound : (tree : Tree) (manner : Manner) (root : List ℕ) (plan : Plan) → IsTree tree → IsRootPlan tree manner root plan
    → longest_chain plan ≤ (len tree.nodes + 1) * (len tree.nodes + 1)
unfolding most
chain_bound tree manner root plan is planned =
    let p = root_planned tree is manner root in
    let same = ap longest_chain (begun_same tree manner root (beginning tree manner.options root) p.0 plan p.1 planned) in
    subst (λ (n : ℕ). n ≤ (len tree.nodes + 1) * (len tree.nodes + 1)) same p.2
