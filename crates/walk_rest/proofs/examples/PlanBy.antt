-- A listing is computed, by looking nodes up.
use Rattle.std.proofs.Common.{rules, ◌≡◌, ◌≤◌, ◌<◌, ℕ, zero, suc, Bool, true, false, cond, List, [], ◌∷◌, ◌++◌, map, Option, Some, None, refl, sym, ◌∙◌, ap, subst, inl, inr}
use Rattle.std.specs.Prelude.{Err, option_map, nat_lt}
use Rattle.std.specs.Option.{option_and_then, option_map_or}
use Rattle.std.specs.Str.{bytes_eq}
use Rattle.std.specs.declared.cmp.Ordering.{Ordering}
use Rattle.std.specs.Cmp.Lexicographic.{lists_total, nat_list_cmp_total}
use Rattle.std.specs.FinMap.{find, get-from_entries}
use Rattle.sd_io.specs.Tree.{Name, NameList, Node, Tree, name_list_cmp, node_at, is_directory_node}
use Rattle.sd_io.specs.Paths.{Linking, through_node, steps, followed, links_most, start_of, parts_of, pieces_of, kept, is_up, parent_of, reached}
use Rattle.sd_io.specs.Lists.{TellAll, raw_entry}
use Rattle.sd_io.specs.declared.meta.RawEntry.{RawEntry}
use Rattle.walk_rest.specs.declared.entry.DirEntry.{DirEntry}
use Rattle.walk_rest.specs.declared.level.Folder.{Folder}
use Rattle.walk_rest.specs.declared.options.Options.{Options}
use Rattle.walk_rest.specs.Plan.{Item, Plan, done, past, into, items_in, Manner, Seen, fails, stays, enters, seen, seen_by, node_to, entry_below, item_where, is_shown, item_before, item_after, in_order, Lists, IsContents, IsPast, IsInto, IsPlan}
use Rattle.walk_rest.specs.Listing.{Beginning, ends, begins, beginning_by, beginning, manner_of, IsBegun, IsRootPlan, IsListing}
use Rattle.walk_rest.specs.Examples.{tree_with, order_in}

-- ---- paths by looking up

-- `steps`, over what stands at each name list
abbrev pub steps_by : (NameList → Option Node) → Linking → Bool → NameList → List Name → Option NameList
steps_by look linking follow at [] = Some at
steps_by look linking follow at (part ∷ parts) =
    cond (is_directory_node (look at))
    (cond (is_up part) (steps_by look linking follow (parent_of at) parts)
    (through_node linking (λ next. steps_by look linking follow next parts) follow at part parts (look (at ++ part ∷ []))))
    None

-- `followed`, likewise
abbrev pub followed_by : (NameList → Option Node) → ℕ → Bool → NameList → List Name → Option NameList
followed_by look zero follow at parts = steps_by look (λ folder target rest. None) follow at parts
followed_by look (suc links) follow at parts =
    steps_by look (λ folder target rest. cond (bytes_eq target []) None (followed_by look links follow (start_of folder target) (kept (pieces_of target) ++ rest))) follow at parts

-- where a path leads
abbrev pub reached_by : (NameList → Option Node) → List ℕ → Bool → Option NameList
reached_by look path follow = cond (bytes_eq path []) None (followed_by look links_most follow [] (kept (pieces_of path)))

-- steps look at nothing but what stands at each name list
steps_alike : (tree : Tree) (linking : Linking) (follow : Bool) (at : NameList) (parts : List Name)
    → steps tree linking follow at parts ≡ steps_by (node_at tree) linking follow at parts
steps_alike tree linking follow at [] = refl
steps_alike tree linking follow at (part ∷ parts) = λ i.
    cond (is_directory_node (node_at tree at))
    (cond (is_up part) (steps_alike tree linking follow (parent_of at) parts i)
    (through_node linking (λ next. steps_alike tree linking follow next parts i) follow at part parts (node_at tree (at ++ part ∷ []))))
    None

followed_alike : (tree : Tree) (links : ℕ) (follow : Bool) (at : NameList) (parts : List Name)
    → followed tree links follow at parts ≡ followed_by (node_at tree) links follow at parts
unfolding parts_of
followed_alike tree zero follow at parts = steps_alike tree (λ folder target rest. None) follow at parts
followed_alike tree (suc links) follow at parts =
    (λ i. steps tree (λ folder target rest. cond (bytes_eq target []) None (followed_alike tree links follow (start_of folder target) (parts_of target ++ rest) i)) follow at parts)
    ∙ steps_alike tree _ follow at parts

pub reached_alike : (tree : Tree) (path : List ℕ) (follow : Bool) → reached tree path follow ≡ reached_by (node_at tree) path follow
unfolding reached parts_of
reached_alike tree path follow = ap (cond (bytes_eq path []) None) (followed_alike tree links_most follow [] (parts_of path))

-- ---- by looking up

-- what stands at a name list
abbrev pub Look : Type 0
Look = NameList → Option Node

abbrev pub Order : Type 0
Order = NameList → List Name

abbrev pub to_by : Look → List ℕ → Bool → Option Node
to_by at path follow = option_and_then at (reached_by at path follow)

abbrev pub dir_by : Look → List ℕ → Option NameList
dir_by at path = option_and_then (λ place. cond (is_directory_node (at place)) (Some place) None) (reached_by at path true)

abbrev pub raws_by : Look → NameList → List Name → Option (List RawEntry)
raws_by at folder [] = Some []
raws_by at folder (name ∷ names) =
    option_and_then (λ node. option_map (λ raws. raw_entry node name ∷ raws) (raws_by at folder names)) (at (folder ++ name ∷ []))

abbrev pub read_by : Look → Order → Manner → Folder → Option (List DirEntry)
read_by at order manner folder =
    option_and_then (λ place. option_map (λ raws. in_order manner (map (entry_below folder) raws)) (raws_by at place (order place))) (dir_by at folder.path)

abbrev pub contents_by : Look → Order → Manner → Folder → Option (List DirEntry)
contents_by at order manner folder = cond (nat_lt folder.depth manner.options.max_depth) (read_by at order manner folder) (Some [])

abbrev pub one_by : (List Folder → List DirEntry → Option Plan) → Look → Order → Manner → List Folder → DirEntry → Option Plan → Seen → Option Plan
one_by inner at order manner chain e rest (fails error) = option_map (past e.path (Some (Err error))) rest
one_by inner at order manner chain e rest (stays s) = option_map (past e.path (item_where (is_shown manner.options s.depth) s)) rest
one_by inner at order manner chain e rest (enters s folder) =
    option_and_then (λ entries. option_and_then (λ contents. option_map (into folder (item_before manner.options s) contents (item_after manner.options s)) rest) (inner (folder ∷ chain) entries)) (contents_by at order manner folder)

abbrev pub all_by : (List Folder → List DirEntry → Option Plan) → Look → Order → Manner → List Folder → List DirEntry → Option Plan
all_by inner at order manner chain [] = Some done
all_by inner at order manner chain (e ∷ es) = one_by inner at order manner chain e (all_by inner at order manner chain es) (seen_by manner chain e (to_by at e.path true))

-- so many levels deep
abbrev pub plan_by : ℕ → Look → Order → Manner → List Folder → List DirEntry → Option Plan
plan_by zero at order manner chain entries = None
plan_by (suc n) at order manner chain entries = all_by (plan_by n at order manner) at order manner chain entries

abbrev pub begun_by : ℕ → Look → Order → Manner → List ℕ → Beginning → Option Plan
begun_by n at order manner root (ends error) = Some (past root (Some (Err error)) done)
begun_by n at order manner root (begins entry) = plan_by n at order manner [] (entry ∷ [])

abbrev pub manner_by : Look → Options → Bool → (DirEntry → DirEntry → Ordering) → List ℕ → Manner
manner_by at options sorts compare root =
    record { options = options; sorts = sorts; compare = compare; device = option_map_or (λ (node : Node). node.dev) (to_by at root true) 0 }

abbrev pub root_plan_by : ℕ → Look → Order → Manner → List ℕ → Option Plan
root_plan_by n at order manner root = begun_by n at order manner root (beginning_by manner.options root (to_by at root true) (to_by at root false))

abbrev pub items_by : ℕ → Look → Order → Options → Bool → (DirEntry → DirEntry → Ordering) → List ℕ → Option (List Item)
items_by n at order options sorts compare root = option_map items_in (root_plan_by n at order (manner_by at options sorts compare root) root)

-- ---- what is computed is a plan

map_some : {A B : Type 0} (f : A → B) (x : Option A) (z : B) → option_map f x ≡ Some z → (y : A) × (x ≡ Some y) × (f y ≡ z)
map_some f None z e = absurd (cc e)
map_some f (Some y) z e = (y, refl, cc)

then_some : {A B : Type 0} (f : A → Option B) (x : Option A) (z : B) → option_and_then f x ≡ Some z → (y : A) × (x ≡ Some y) × (f y ≡ Some z)
then_some f None z e = absurd (cc e)
then_some f (Some y) z e = (y, refl, e)

to_alike : (tree : Tree) (path : List ℕ) (follow : Bool) → node_to tree path follow ≡ to_by (node_at tree) path follow
to_alike tree path follow = ap (option_and_then (node_at tree)) (reached_alike tree path follow)

raws_told : (tree : Tree) (folder : NameList) (names : List Name) (raws : List RawEntry) → raws_by (node_at tree) folder names ≡ Some raws → TellAll tree folder names raws
raws_told tree folder [] raws e = let f : [] ≡ raws = cc in subst (TellAll tree folder []) f tt
raws_told tree folder (name ∷ names) raws e =
    let a = then_some (λ node. option_map (λ rest. raw_entry node name ∷ rest) (raws_by (node_at tree) folder names)) (node_at tree (folder ++ name ∷ [])) raws e in
    let b = map_some (λ rest. raw_entry a.0 name ∷ rest) (raws_by (node_at tree) folder names) raws a.2 in
    subst (TellAll tree folder (name ∷ names)) b.2
    (record { node = a.0; stands = a.1; name_is = refl; kind_is = refl; ino_is = refl }, raws_told tree folder names b.0 b.1)

read_told : (tree : Tree) (manner : Manner) (folder : Folder) (entries : List DirEntry) → folder.depth < manner.options.max_depth
    → read_by (node_at tree) tree.order manner folder ≡ Some entries → Lists tree manner folder entries
read_told tree manner folder entries lt e =
    let at = node_at tree in
    let a = then_some (λ place. option_map (λ raws. in_order manner (map (entry_below folder) raws)) (raws_by at place (tree.order place))) (dir_by at folder.path) entries e in
    let b = map_some (λ raws. in_order manner (map (entry_below folder) raws)) (raws_by at a.0 (tree.order a.0)) entries a.2 in
    record {
      shallow = lt;
      listed = b.0;
      names = record {
        folder = a.0;
        leads = ap (option_and_then (λ place. cond (is_directory_node (at place)) (Some place) None)) (reached_alike tree folder.path true) ∙ a.1;
        told = raws_told tree a.0 (tree.order a.0) b.0 b.1;
      };
      ordered = sym b.2;
    }

lt_of : (a b : ℕ) → nat_lt a b ≡ true → a < b
lt_of a b e = search rules

ge_of : (a b : ℕ) → nat_lt a b ≡ false → b ≤ a
ge_of a b e = search rules

contents_told : (tree : Tree) (manner : Manner) (folder : Folder) (entries : List DirEntry)
    → contents_by (node_at tree) tree.order manner folder ≡ Some entries → IsContents tree manner folder entries
contents_told tree manner folder entries e = by (nat_lt folder.depth manner.options.max_depth) refl e
  where
    by : (b : Bool) → nat_lt folder.depth manner.options.max_depth ≡ b → cond b (read_by (node_at tree) tree.order manner folder) (Some []) ≡ Some entries → IsContents tree manner folder entries
    by true is f = inr (read_told tree manner folder entries (lt_of _ _ is) f)
    by false is f = inl (ge_of _ _ is, cc)

one_told : (inner : List Folder → List DirEntry → Option Plan) (tree : Tree) (manner : Manner)
    → ((chain : List Folder) (entries : List DirEntry) (plan : Plan) → inner chain entries ≡ Some plan → IsPlan tree manner chain entries plan)
    → (chain : List Folder) (e : DirEntry) (es : List DirEntry) (rest : Option Plan) → ((p : Plan) → rest ≡ Some p → IsPlan tree manner chain es p)
    → (s : Seen) → seen tree manner chain e ≡ s → (plan : Plan) → one_by inner (node_at tree) tree.order manner chain e rest s ≡ Some plan → IsPlan tree manner chain (e ∷ es) plan
one_told inner tree manner h chain e es rest k (fails error) is plan f =
    let a = map_some (past e.path (Some (Err error))) rest plan f in
    subst (IsPlan tree manner chain (e ∷ es)) a.2 (refl, subst (λ (s : Seen). IsPast manner s (Some (Err error))) (sym is) refl, k a.0 a.1)
one_told inner tree manner h chain e es rest k (stays t) is plan f =
    let item = item_where (is_shown manner.options t.depth) t in
    let a = map_some (past e.path item) rest plan f in
    subst (IsPlan tree manner chain (e ∷ es)) a.2 (refl, subst (λ (s : Seen). IsPast manner s item) (sym is) refl, k a.0 a.1)
one_told inner tree manner h chain e es rest k (enters t folder) is plan f =
    let before = item_before manner.options t in
    let after = item_after manner.options t in
    let a = then_some (λ entries. option_and_then (λ contents. option_map (into folder before contents after) rest) (inner (folder ∷ chain) entries)) (contents_by (node_at tree) tree.order manner folder) plan f in
    let b = then_some (λ contents. option_map (into folder before contents after) rest) (inner (folder ∷ chain) a.0) plan a.2 in
    let c = map_some (into folder before b.0 after) rest plan b.2 in
    subst (IsPlan tree manner chain (e ∷ es)) c.2 (
      subst (λ (s : Seen). IsInto manner s folder before after) (sym is) (refl, refl, refl),
      (a.0, contents_told tree manner folder a.0 a.1, h (folder ∷ chain) a.0 b.0 b.1),
      k c.0 c.1,
    )

seen_alike : (tree : Tree) (manner : Manner) (chain : List Folder) (e : DirEntry) → seen tree manner chain e ≡ seen_by manner chain e (to_by (node_at tree) e.path true)
seen_alike tree manner chain e = ap (seen_by manner chain e) (to_alike tree e.path true)

all_told : (inner : List Folder → List DirEntry → Option Plan) (tree : Tree) (manner : Manner)
    → ((chain : List Folder) (entries : List DirEntry) (plan : Plan) → inner chain entries ≡ Some plan → IsPlan tree manner chain entries plan)
    → (chain : List Folder) (entries : List DirEntry) (plan : Plan) → all_by inner (node_at tree) tree.order manner chain entries ≡ Some plan → IsPlan tree manner chain entries plan
all_told inner tree manner h chain [] plan f = let g : done ≡ plan = cc in subst (IsPlan tree manner chain []) g tt
all_told inner tree manner h chain (e ∷ es) plan f =
    one_told inner tree manner h chain e es (all_by inner (node_at tree) tree.order manner chain es) (λ p g. all_told inner tree manner h chain es p g) (seen_by manner chain e (to_by (node_at tree) e.path true)) (seen_alike tree manner chain e) plan f

pub plan_told : (n : ℕ) (tree : Tree) (manner : Manner) (chain : List Folder) (entries : List DirEntry) (plan : Plan)
    → plan_by n (node_at tree) tree.order manner chain entries ≡ Some plan → IsPlan tree manner chain entries plan
plan_told zero tree manner chain entries plan f = absurd (cc f)
plan_told (suc n) tree manner chain entries plan f = all_told (plan_by n (node_at tree) tree.order manner) tree manner (λ c es p g. plan_told n tree manner c es p g) chain entries plan f

begun_told : (n : ℕ) (tree : Tree) (manner : Manner) (root : List ℕ) (b : Beginning) (plan : Plan)
    → begun_by n (node_at tree) tree.order manner root b ≡ Some plan → IsBegun tree manner root b plan
begun_told n tree manner root (ends error) plan f = cc
begun_told n tree manner root (begins entry) plan f = plan_told n tree manner [] (entry ∷ []) plan f

beginning_alike : (tree : Tree) (options : Options) (root : List ℕ) → beginning tree options root ≡ beginning_by options root (to_by (node_at tree) root true) (to_by (node_at tree) root false)
beginning_alike tree options root = λ i. beginning_by options root (to_alike tree root true i) (to_alike tree root false i)

manner_alike : (tree : Tree) (options : Options) (sorts : Bool) (compare : DirEntry → DirEntry → Ordering) (root : List ℕ)
    → manner_of tree options sorts compare root ≡ manner_by (node_at tree) options sorts compare root
manner_alike tree options sorts compare root = λ i.
    record { options = options; sorts = sorts; compare = compare; device = option_map_or (λ (node : Node). node.dev) (to_alike tree root true i) 0 }

pub items_told : (n : ℕ) (tree : Tree) (options : Options) (sorts : Bool) (compare : DirEntry → DirEntry → Ordering) (root : List ℕ) (items : List Item)
    → items_by n (node_at tree) tree.order options sorts compare root ≡ Some items → IsListing tree options sorts compare root items
items_told n tree options sorts compare root items f =
    let at = node_at tree in
    let manner = manner_by at options sorts compare root in
    let a = map_some items_in (root_plan_by n at tree.order manner root) items f in
    let begun = begun_told n tree manner root _ a.0 a.1 in
    let here : IsRootPlan tree manner root a.0 = subst (λ b. IsBegun tree manner root b a.0) (sym (beginning_alike tree options root)) begun in
    record {
      plan = a.0;
      planned = subst (λ m. IsRootPlan tree m root a.0) (sym (manner_alike tree options sorts compare root)) here;
      same = sym a.2;
    }

-- what stands in a tree of these nodes
stands : (nodes : List (NameList × Node)) → node_at (tree_with nodes) ≡ (λ place. find name_list_cmp place nodes)
unfolding tree_with
stands nodes = λ i place. get-from_entries (lists_total nat_list_cmp_total) nodes place i

order_is : (nodes : List (NameList × Node)) → (tree_with nodes).order ≡ order_in nodes
unfolding tree_with
order_is nodes = refl

-- the listing in such a tree is computed by looking the nodes up in the list
pub listing_in : (nodes : List (NameList × Node)) (n : ℕ) (options : Options) (sorts : Bool) (compare : DirEntry → DirEntry → Ordering) (root : List ℕ) (items : List Item)
    → items_by n (λ place. find name_list_cmp place nodes) (order_in nodes) options sorts compare root ≡ Some items → IsListing (tree_with nodes) options sorts compare root items
listing_in nodes n options sorts compare root items e =
    items_told n (tree_with nodes) options sorts compare root items
    ((λ i. items_by n (stands nodes i) (order_is nodes i) options sorts compare root) ∙ e)
