-- A plain walk that leaves what rules ignore gives all that is seen, in the order of name lists.
use Rattle.std.proofs.Common.{rules, ◌≡◌, ◌≢◌, ◌+◌, ◌<◌, ◌≤◌, ◌⊎◌, ℕ, Bool, true, false, cond, List, [], ◌∷◌, ◌++◌, length, map, Option, Some, None, Ok, Err, refl, sym, ◌∙◌, ap, subst, inl, inr, arith, append_assoc, append-nil, length-append, Less}
use Rattle.std.specs.Prelude.{IsSome, is_some, nat_le, nat_eq, ◌&&◌}
use Rattle.std.specs.List.{AllByRecursion}
use Rattle.std.specs.List.Sorted.{IsStrictlySortedBy}
use Rattle.std.specs.Option.{option_and_then}
use Rattle.std.proofs.lemmas.Bool.{false≢true}
use Rattle.sd_io.specs.Tree.{NameList, Name, Content, directory, link, file, other, Node, Tree, IsTree, name_cmp, name_list_cmp, node_at, is_directory_at, is_directory_node, is_directory_content}
use Rattle.sd_io.specs.Files.{kind_of, path_text}
use Rattle.sd_io.specs.Lists.{Tells}
use Rattle.sd_io.specs.declared.meta.Kind.{Kind}
use Rattle.sd_io.specs.declared.meta.Kind.TheVariants as kind
use Rattle.sd_io.specs.declared.meta.Kind.TheVariants.{Directory, Link, File, Other}
use Rattle.sd_io.specs.declared.meta.RawEntry.{RawEntry}
use Rattle.sd_io.proofs.PathTextLemmas.{above, directory_stands, text_not_followed}
use Rattle.walk_rest.specs.declared.entry.DirEntry.{DirEntry}
use Rattle.walk_rest.specs.declared.level.Folder.{Folder}
use Rattle.walk_rest.specs.declared.options.Options.{Options}
use Rattle.walk_rest.specs.Names.{by_file_name}
use Rattle.walk_rest.specs.Plan.{Item, path_below, Plan, done, past, into, items_of, Manner, Seen, stays, enters, seen_by, node_to, folder_of, is_directory, is_link, entry_below, item_where, is_shown, IsPlan, IsPast, IsInto, IsContents}
use Rattle.walk_rest.specs.Listing.{Beginning, begins, begins_with, beginning, root_entry, manner_of, device_to, IsBegun, IsRootPlan}
use Rattle.chosen_files.specs.Picks.{IsPlainWalk, IsEntryAt, AreEntriesAt}
use Rattle.sd_ignore.specs.declared.rule.Rule.{Rule}
use Rattle.sd_ignore.specs.Ignored.{Ignores}
use Rattle.sd_ignore.proofs.SayLemmas.{none_ignored}
use Rattle.walkdir.specs.Gather.{IsPlain, given_in, unless_out}
use Rattle.chosen_files.proofs.laws.EntryLemmas.{names_of}
use Rattle.chosen_files.proofs.laws.PlaceLemmas.{In, in_left, in_right, in_append, all_from_in, in_from_all, sorted_append, child_less, below_later}
use Rattle.chosen_files.proofs.laws.BelowLemmas.{below_place}
use Rattle.chosen_files.proofs.laws.InOrderLemmas.{in_order_by_name}

-- ---- lists of entries

-- the items are the entries at places of which a fact holds, in order; at all these, where the walk is whole
pub record ListsOf (tree : Tree) (top : NameList) (Whole : Type 0) (P : NameList → Type 0) (items : List Item) : Type 0 where
  pub places : List NameList
  pub in_order : IsStrictlySortedBy name_list_cmp places
  pub sound : (q : NameList) → In q places → P q
  pub whole : Whole → (q : NameList) → P q → In q places
  pub entries : AreEntriesAt tree top places items

-- something stands properly below a place
abbrev StandsBelow : Tree → NameList → NameList → Type 0
StandsBelow tree place q = (name : Name) × (rest : NameList) × (q ≡ place ++ name ∷ rest) × IsSome (node_at tree q)

entries_append : (tree : Tree) (top : NameList) (ps qs : List NameList) (xs ys : List Item) → AreEntriesAt tree top ps xs → AreEntriesAt tree top qs ys
    → AreEntriesAt tree top (ps ++ qs) (xs ++ ys)
entries_append tree top [] qs [] ys h k = k
entries_append tree top [] qs (x ∷ xs) ys h k = absurd h
entries_append tree top (p ∷ ps) qs [] ys h k = absurd h
entries_append tree top (p ∷ ps) qs (Ok entry ∷ xs) ys h k = (h.0, entries_append tree top ps qs xs ys h.1 k)
entries_append tree top (p ∷ ps) qs (Err error ∷ xs) ys h k = absurd h

-- ---- what rules leave

module _ (tree : Tree) (top : NameList) (Whole : Type 0) (rules : List Rule) where
  -- no directory on the way to these names below a place is ignored; the place has these names itself
  abbrev pub IsClear : NameList → NameList → Type 0
  IsClear names tail = (front more : NameList) → tail ≡ front ++ more → front ≢ [] → more ≢ [] → Ignores rules (names ++ front) true → ⊥

  abbrev pub SeenBelow : NameList → NameList → NameList → Type 0
  SeenBelow place names q = (name : Name) × (rest : NameList) × (q ≡ place ++ name ∷ rest) × IsSome (node_at tree q) × IsClear names (name ∷ rest)

  abbrev SeenUnder : NameList → NameList → List Name → NameList → Type 0
  SeenUnder place names under q = (name : Name) × (rest : NameList) × In name under × (q ≡ place ++ name ∷ rest) × IsSome (node_at tree q) × IsClear names (name ∷ rest)

  abbrev pub SeenIn : NameList → NameList → Type 0 → NameList → Type 0
  SeenIn place names Open q = (rest : NameList) × (q ≡ place ++ rest) × IsSome (node_at tree q) × (rest ≢ [] → Open) × IsClear names rest

  abbrev IsKeptOpen : NameList → Type 0
  IsKeptOpen names = Ignores rules names true → ⊥

  none_listed : (P : NameList → Type 0) → (Whole → (q : NameList) → P q → ⊥) → ListsOf tree top Whole P []
  unfolding IsStrictlySortedBy
  none_listed P none = record { places = []; in_order = tt; sound = λ q i. absurd i; whole = λ w q p. absurd (none w q p); entries = tt }

  listed_as : {P Q : NameList → Type 0} {items : List Item} → ((q : NameList) → P q → Q q) → ((q : NameList) → Q q → P q) → ListsOf tree top Whole P items
      → ListsOf tree top Whole Q items
  listed_as onward back l = record {
    places = l.places;
    in_order = l.in_order;
    sound = λ q i. onward q (l.sound q i);
    whole = λ w q holds. l.whole w q (back q holds);
    entries = l.entries;
  }

  -- one list after another
  both_listed : {P Q : NameList → Type 0} {xs ys : List Item} → ((q r : NameList) → P q → Q r → name_list_cmp q r ≡ Less)
      → ListsOf tree top Whole P xs → ListsOf tree top Whole Q ys
      → ListsOf tree top Whole (λ q. P q ⊎ Q q) (xs ++ ys)
  both_listed {P} {Q} {xs} {ys} before l m = record {
    places = l.places ++ m.places;
    in_order = sorted_append name_list_cmp l.places m.places l.in_order m.in_order (λ q r i j. before q r (l.sound q i) (m.sound r j));
    sound = λ q i. elim (in_append l.places m.places q i) [ inl j ↦ inl (l.sound q j) | inr j ↦ inr (m.sound q j) ];
    whole = λ w q holds. elim holds [ inl p ↦ in_left l.places m.places q (l.whole w q p) | inr p ↦ in_right l.places m.places q (m.whole w q p) ];
    entries = entries_append tree top l.places m.places xs ys l.entries m.entries;
  }

  front_none : (front more : NameList) → [] ≡ front ++ more → front ≢ [] → ⊥
  front_none [] more e some = some refl
  front_none (first ∷ front) more e some = cc

  -- a place, and what is seen below it
  listed_within : (place names : NameList) (Open : Type 0) (entry : DirEntry) (items : List Item) → IsEntryAt tree top place entry
      → ListsOf tree top Whole (λ q. SeenBelow place names q × Open) items → ListsOf tree top Whole (SeenIn place names Open) (Ok entry ∷ items)
  unfolding IsStrictlySortedBy
  listed_within place names Open entry items at l = record {
    places = place ∷ l.places;
    in_order = (all_from_in (λ q. name_list_cmp place q ≡ Less) l.places (λ q i. later q (l.sound q i).0), l.in_order);
    sound = from_in;
    whole = to_in;
    entries = (at, l.entries);
  }
    where
      later : (q : NameList) → SeenBelow place names q → name_list_cmp place q ≡ Less
      later q (name, rest, e, stands, clear) = subst (λ (q : NameList). name_list_cmp place q ≡ Less) (sym e) (below_later place name rest)

      from_in : (q : NameList) → In q (place ∷ l.places) → SeenIn place names Open q
      from_in q (inl e) = ([], sym e ∙ sym (append-nil place), ap is_some (ap (node_at tree) (sym e) ∙ at.stands), (λ some. absurd (some refl)), λ front more none some. absurd (front_none front more none some))
      from_in q (inr i) = let s = l.sound q i in (s.0.0 ∷ s.0.1, s.0.2, s.0.3, (λ some. s.1), s.0.4)

      to_in : Whole → (q : NameList) → SeenIn place names Open q → In q (place ∷ l.places)
      to_in w q ([], e, stands, way, clear) = inl (sym (e ∙ append-nil place))
      to_in w q (name ∷ rest, e, stands, way, clear) = inr (l.whole w q ((name, rest, e, stands, clear), way (λ none. cc)))

  -- what is seen under one more name, before all the others
  listed_under : (place names : NameList) (name : Name) (others : List Name) (xs ys : List Item) → AllByRecursion (λ next. name_cmp name next ≡ Less) others
      → ListsOf tree top Whole (SeenIn (place ++ name ∷ []) (names ++ name ∷ []) (IsKeptOpen (names ++ name ∷ []))) xs → ListsOf tree top Whole (SeenUnder place names others) ys
      → ListsOf tree top Whole (SeenUnder place names (name ∷ others)) (xs ++ ys)
  listed_under place names name others xs ys first l m = listed_as onward back (both_listed before l m)
    where
      shown : (q rest : NameList) → q ≡ (place ++ name ∷ []) ++ rest → q ≡ place ++ name ∷ rest
      shown q rest e = e ∙ append_assoc place (name ∷ []) rest

      before : (q r : NameList) → SeenIn (place ++ name ∷ []) (names ++ name ∷ []) (IsKeptOpen (names ++ name ∷ [])) q → SeenUnder place names others r → name_list_cmp q r ≡ Less
      before q r (s, e, _, _, _) (next, t, i, f, _, _) =
          let less = child_less place name next s t (in_from_all (λ next. name_cmp name next ≡ Less) others first next i) in
          (λ k. name_list_cmp (shown q s e k) (f k)) ∙ less

      -- the same fronts below both
      deeper : (rest : NameList) → (rest ≢ [] → IsKeptOpen (names ++ name ∷ [])) → IsClear (names ++ name ∷ []) rest → IsClear names (name ∷ rest)
      deeper rest way clear [] more e some left ignores = some refl
      deeper rest way clear (one ∷ []) more e some left ignores =
          let same : name ≡ one = cc e in
          let rest_is : rest ≡ more = cc e in
          way (λ none. left (sym rest_is ∙ none)) (subst (λ (n : Name). Ignores rules (names ++ n ∷ []) true) (sym same) ignores)
      deeper rest way clear (one ∷ two ∷ front) more e some left ignores =
          let same : name ≡ one = cc e in
          let rest_is : rest ≡ (two ∷ front) ++ more = cc e in
          clear (two ∷ front) more rest_is (λ none. cc) left
          (subst (λ (ns : NameList). Ignores rules ns true) (sym (append_assoc names (name ∷ []) (two ∷ front))) (subst (λ (n : Name). Ignores rules (names ++ n ∷ two ∷ front) true) (sym same) ignores))

      onward : (q : NameList) → SeenIn (place ++ name ∷ []) (names ++ name ∷ []) (IsKeptOpen (names ++ name ∷ [])) q ⊎ SeenUnder place names others q → SeenUnder place names (name ∷ others) q
      onward q (inl (s, e, stands, way, clear)) = (name, s, inl refl, shown q s e, stands, deeper s way clear)
      onward q (inr (next, t, i, f, stands, clear)) = (next, t, inr i, f, stands, clear)

      back : (q : NameList) → SeenUnder place names (name ∷ others) q → SeenIn (place ++ name ∷ []) (names ++ name ∷ []) (IsKeptOpen (names ++ name ∷ [])) q ⊎ SeenUnder place names others q
      back q (next, t, inl same, f, stands, clear) = inl (
        t,
        f ∙ (λ k. place ++ sym same k ∷ t) ∙ sym (append_assoc place (name ∷ []) t),
        stands,
        (λ some ignores. clear (next ∷ []) t refl (λ none. cc) some (subst (λ (n : Name). Ignores rules (names ++ n ∷ []) true) same ignores)),
        λ front more e some left ignores. clear (next ∷ front) more (ap (λ (r : NameList). next ∷ r) e) (λ none. cc) left
            (subst (λ (n : Name). Ignores rules (names ++ n ∷ front) true) same (subst (λ (ns : NameList). Ignores rules ns true) (append_assoc names (name ∷ []) front) ignores)),
      )
      back q (next, t, inr i, f, stands, clear) = inr (next, t, i, f, stands, clear)

-- ---- what a plain walk makes of an entry

kinds : (k : Kind) → ((k ≡ kind.Directory) × (is_directory k ≡ true)) ⊎ ((k ≢ kind.Directory) × (is_directory k ≡ false))
kinds Directory = inl (refl, refl)
kinds Link = inr ((λ e. cc), refl)
kinds File = inr ((λ e. cc), refl)
kinds Other = inr ((λ e. cc), refl)

directory_kind : (c : Content) → kind_of c ≡ kind.Directory → is_directory_content c ≡ true
directory_kind directory e = refl
directory_kind (link target) e = cc
directory_kind (file bytes mode) e = cc
directory_kind other e = cc

kind_directory : (c : Content) → is_directory_content c ≡ true → kind_of c ≡ kind.Directory
kind_directory directory e = refl
kind_directory (link target) e = cc
kind_directory (file bytes mode) e = cc
kind_directory other e = cc

no_link_kind : (c : Content) → ((target : List ℕ) → c ≢ link target) → is_link (kind_of c) ≡ false
no_link_kind directory none = refl
no_link_kind (link target) none = absurd (none target refl)
no_link_kind (file bytes mode) none = refl
no_link_kind other none = refl

not_zero : (n : ℕ) → nat_eq (n + 1) 0 ≡ false
not_zero n = search rules

not_root : (is_link follows : Bool) (n : ℕ) → (is_link && nat_eq (n + 1) 0 && follows) ≡ false
not_root true follows n = ap (λ b. b && follows) (not_zero n)
not_root false follows n = refl

le_of : (a b : ℕ) → a ≤ b → nat_le a b ≡ true
le_of a b e = search rules

-- nothing stands below what is no directory
pub nothing_below : (tree : Tree) → IsTree tree → (place : NameList) (node : Node) → node_at tree place ≡ Some node
    → kind_of node.content ≢ kind.Directory → (q : NameList) → StandsBelow tree place q → ⊥
nothing_below tree is place node stands no_folder q (name, rest, e, some) =
    let under = above tree is place name rest (subst (λ (q : NameList). IsSome (node_at tree q)) e some) in
    no_folder (kind_directory node.content (ap is_directory_node (sym stands) ∙ is.parents place name under))

module _ (tree : Tree) (is : IsTree tree) (top : NameList) (options : Options) (device : ℕ) (how : IsPlainWalk options) (Whole : Type 0) (rules : List Rule) (out : DirEntry → Bool)
    (outs : (names : NameList) (entry : DirEntry) → IsEntryAt tree top (top ++ names) entry → names ≢ [] → is_directory entry.kind ≡ true
    → (out entry ≡ true → Ignores rules names true) × (out entry ≡ false → Ignores rules names true → ⊥)) where
  abbrev manner : Manner
  manner = record { options = options; sorts = true; compare = by_file_name; device = device }

  shown_at : (depth : ℕ) → depth ≤ options.max_depth → is_shown options depth ≡ true
  shown_at depth shallow =
      let min : nat_le options.min_depth depth ≡ true = le_of options.min_depth depth (let e = how.from_root in omega (arith, e)) in
      let max : nat_le depth options.max_depth ≡ true = le_of depth options.max_depth shallow in
      rw (min, max) refl

  seen_in : (chain : List Folder) (entry : DirEntry) (to : Option Node) → is_directory entry.kind ≡ true
      → seen_by manner chain entry to ≡ enters entry (folder_of options entry to)
  seen_in chain entry to there = rw (how.no_links, there, how.all_devices) refl

  -- an entry that is no directory, and isn't the root's or no link
  seen_past : (chain : List Folder) (entry : DirEntry) (to : Option Node)
      → (is_link entry.kind && nat_eq entry.depth 0 && options.follow_root_links) ≡ false → is_directory entry.kind ≡ false
      → seen_by manner chain entry to ≡ stays entry
  seen_past chain entry to no_root_link no_folder = rw (how.no_links, no_folder, no_root_link) refl

  -- the folder of a place with these names below the top, that lies as deep
  record IsFolder (place names : NameList) (folder : Folder) : Type 0 where
    path_is : folder.path ≡ path_text place
    there : is_directory_at tree place ≡ true
    depth_is : length place ≡ length top + folder.depth
    below : place ≡ top ++ names

  -- the entry of what a directory's list tells of
  entry_at : (place names : NameList) (folder : Folder) (raw : RawEntry) → IsFolder place names folder → Tells tree place raw.name raw
      → IsEntryAt tree top (place ++ raw.name ∷ []) (entry_below folder raw)
  entry_at place names folder raw at told = record {
    node = told.node;
    stands = told.stands;
    kind_is = told.kind_is;
    path_is = ap (λ (text : List ℕ). path_below text raw.name) at.path_is
        ∙ below_place tree place (raw.name ∷ []) is (directory_stands (node_at tree place) at.there) (λ e. cc);
    depth_is = (let e = at.depth_is in let l = length-append place (raw.name ∷ []) in omega (arith, e, l));
    not_followed = refl;
  }

  one_below : (place names : NameList) (name : Name) → place ≡ top ++ names → place ++ name ∷ [] ≡ top ++ (names ++ name ∷ [])
  one_below place names name below = ap (λ (q : NameList). q ++ name ∷ []) below ∙ append_assoc top names (name ∷ [])

  one_more : (names : NameList) (name : Name) → names ++ name ∷ [] ≢ []
  one_more [] name e = cc
  one_more (first ∷ names) name e = cc

  abbrev Walked : NameList → NameList → List RawEntry → List Item → Type 0
  Walked place names raws items = ListsOf tree top Whole (SeenUnder tree top Whole rules place names (names_of raws)) items

  abbrev Open : NameList → Type 0
  Open names = Ignores rules names true → ⊥

  -- an entry, what is seen below it, and the entries after it
  walked_on : (place names : NameList) (folder : Folder) (raw : RawEntry) (raws : List RawEntry) (inner items : List Item)
      → IsFolder place names folder → Tells tree place raw.name raw → AllByRecursion (λ next. name_cmp raw.name next ≡ Less) (names_of raws)
      → ListsOf tree top Whole (λ q. SeenBelow tree top Whole rules (place ++ raw.name ∷ []) (names ++ raw.name ∷ []) q × Open (names ++ raw.name ∷ [])) inner → Walked place names raws items
      → Walked place names (raw ∷ raws) (Ok (entry_below folder raw) ∷ (inner ++ items))
  walked_on place names folder raw raws inner items at told first below rest =
      listed_under tree top Whole rules place names raw.name (names_of raws) (Ok (entry_below folder raw) ∷ inner) items first
      (listed_within tree top Whole rules (place ++ raw.name ∷ []) (names ++ raw.name ∷ []) (Open (names ++ raw.name ∷ [])) (entry_below folder raw) inner (entry_at place names folder raw at told) below) rest

  nothing_left : (plan : Plan) (chain : List Folder) → IsPlan tree manner chain [] plan → given_in out plan ≡ []
  nothing_left done chain planned = refl
  nothing_left (past path item plan) chain planned = absurd planned
  nothing_left (into folder before contents after plan) chain planned = absurd planned

  abbrev Below : NameList → NameList → NameList → Type 0
  Below = SeenBelow tree top Whole rules

  -- the contents of a directory, by what comes of its entries in order
  contents_walked : (place names : NameList) (folder : Folder) (chain : List Folder) (inner : List DirEntry) (contents : Plan) → IsFolder place names folder
      → (Whole → folder.depth + length (given_in out contents) < options.max_depth) → IsContents tree manner folder inner → IsPlan tree manner chain inner contents
      → (folder.depth < options.max_depth → (raws : List RawEntry) → AllByRecursion (λ raw. Tells tree place raw.name raw) raws → IsStrictlySortedBy name_cmp (names_of raws)
      → IsPlan tree manner chain (map (entry_below folder) raws) contents → Walked place names raws (given_in out contents))
      → ListsOf tree top Whole (Below place names) (given_in out contents)
  contents_walked place names folder chain inner contents at few (inl deep) planned onward =
      let empty = nothing_left contents chain (subst (λ (entries : List DirEntry). IsPlan tree manner chain entries contents) deep.1 planned) in
      subst (λ (items : List Item). ListsOf tree top Whole (Below place names) items) (sym empty)
      (none_listed tree top Whole rules (Below place names) (λ w q s. let d = deep.0 in let f = few w in absurd (omega (arith, d, f))))
  contents_walked place names folder chain inner contents at few (inr l) planned onward =
      let o = in_order_by_name tree place folder inner l.listed is at.there at.path_is l.names l.ordered in
      listed_as tree top Whole rules (λ q (name, rest, i, e, stands, clear). (name, rest, e, stands, clear))
      (λ q (name, rest, e, stands, clear).
      (name, rest, o.all name (above tree is place name rest (subst (λ (q : NameList). IsSome (node_at tree q)) e stands)), e, stands, clear))
      (onward l.shallow o.raws o.each o.up (subst (λ (entries : List DirEntry). IsPlan tree manner chain entries contents) o.entries_are planned))

  -- what is given behind a directory: nothing where it is left, and else its contents
  behind : (place names : NameList) (entry : DirEntry) (inside : List Item) → IsEntryAt tree top (top ++ names) entry → names ≢ [] → is_directory entry.kind ≡ true
      → ((out entry ≡ false) → ListsOf tree top Whole (Below place names) inside)
      → ListsOf tree top Whole (λ q. Below place names q × Open names) (unless_out out [] (Some (Ok entry)) inside)
  behind place names entry inside at some there inner = by (out entry) refl
    where
      by : (b : Bool) → out entry ≡ b → ListsOf tree top Whole (λ q. Below place names q × Open names) (cond b [] inside)
      by true e = none_listed tree top Whole rules (λ q. Below place names q × Open names) (λ w q s. s.1 ((outs names entry at some there).0 e))
      by false e = listed_as tree top Whole rules (λ q s. (s, (outs names entry at some there).1 e)) (λ q s. s.0) (inner e)

  -- at most as much is given behind a directory
  behind_false : (entry : DirEntry) (inside : List Item) → out entry ≡ false → unless_out out [] (Some (Ok entry)) inside ≡ inside
  behind_false entry inside e = ap (λ b. cond b [] inside) e

  walked : (plan : Plan) (chain : List Folder) (folder : Folder) (place names : NameList) (raws : List RawEntry) → IsFolder place names folder
      → folder.depth < options.max_depth → (Whole → folder.depth + length (given_in out plan) < options.max_depth) → AllByRecursion (λ raw. Tells tree place raw.name raw) raws
      → IsStrictlySortedBy name_cmp (names_of raws) → IsPlan tree manner chain (map (entry_below folder) raws) plan → Walked place names raws (given_in out plan)
  unfolding IsStrictlySortedBy
  walked done chain folder place names [] at shallow few told up planned = none_listed tree top Whole rules (SeenUnder tree top Whole rules place names []) (λ w q s. s.2)
  walked done chain folder place names (raw ∷ raws) at shallow few told up planned = absurd planned
  walked (past path item plan) chain folder place names [] at shallow few told up planned = absurd planned
  walked (past path item plan) chain folder place names (raw ∷ raws) at shallow few told up planned =
      let entry = entry_below folder raw in
      let node = node_to tree entry.path true in
      let l = length-append (items_of item) (given_in out plan) in
      let here = place ++ raw.name ∷ [] in
      elim (kinds raw.kind) [
        | inl d ↦ absurd (subst (λ (s : Seen). IsPast manner s item) (seen_in chain entry node d.1) planned.1)
        | inr d ↦
            (let given : item ≡ Some (Ok entry) =
            subst (λ (s : Seen). IsPast manner s item)
            (seen_past chain entry node (not_root (is_link raw.kind) options.follow_root_links folder.depth) d.1) planned.1
            ∙ ap (λ b. item_where b entry) (shown_at (folder.depth + 1) (omega (arith, shallow))) in
            let nothing = none_listed tree top Whole rules (λ q. Below here (names ++ raw.name ∷ []) q × Open (names ++ raw.name ∷ []))
            (λ w q s. nothing_below tree is here told.0.node told.0.stands (λ e. d.0 (told.0.kind_is ∙ e)) q (s.0.0, s.0.1, s.0.2, s.0.3)) in
            let rest = walked plan chain folder place names raws at shallow (λ w. let f = few w in omega (arith, f, l)) told.1 up.1 planned.2 in
            subst (λ (i : Option Item). Walked place names (raw ∷ raws) (items_of i ++ given_in out plan)) (sym given)
            (walked_on place names folder raw raws [] (given_in out plan) at told.0 up.0 nothing rest))
      ]
  walked (into f before contents after plan) chain folder place names [] at shallow few told up planned = absurd planned
  walked (into f before contents after plan) chain folder place names (raw ∷ raws) at shallow few told up planned =
      let entry = entry_below folder raw in
      let here = place ++ raw.name ∷ [] in
      let own = names ++ raw.name ∷ [] in
      let node = node_to tree entry.path true in
      elim (kinds raw.kind) [
        | inr d ↦ absurd (subst (λ (s : Seen). IsInto manner s f before after)
            (seen_past chain entry node (not_root (is_link raw.kind) options.follow_root_links folder.depth) d.1) planned.0)
        | inl d ↦
            (let entered = subst (λ (s : Seen). IsInto manner s f before after) (seen_in chain entry node d.1) planned.0 in
            let shown = shown_at (folder.depth + 1) (omega (arith, shallow)) in
            let given : before ≡ Some (Ok entry) = entered.1 ∙ rw (how.contents_last, shown) refl in
            let not_after : after ≡ None = entered.2 ∙ rw how.contents_last refl in
            let inside = unless_out out [] (Some (Ok entry)) (given_in out contents) in
            let same : given_in out (into f before contents after plan) ≡ Ok entry ∷ (inside ++ given_in out plan) =
            λ i. items_of (given i) ++ (unless_out out [] (given i) (given_in out contents) ++ (items_of (not_after i) ++ given_in out plan)) in
            let many = ap length same in
            let l = length-append inside (given_in out plan) in
            let depth : f.depth ≡ folder.depth + 1 = ap (λ (g : Folder). g.depth) entered.0 in
            let mine = entry_at place names folder raw at told.0 in
            let named = one_below place names raw.name at.below in
            let below : IsFolder here own f = record {
              path_is = ap (λ (g : Folder). g.path) entered.0 ∙ mine.path_is;
              there = ap is_directory_node told.0.stands ∙ directory_kind told.0.node.content (sym told.0.kind_is ∙ d.0);
              depth_is = mine.depth_is ∙ ap (λ n. length top + n) (sym depth);
              below = named;
            } in
            let deep : out entry ≡ false → Whole → f.depth + length (given_in out contents) < options.max_depth = λ e w.
            (let g = few w in let same_length = ap length (behind_false entry (given_in out contents) e) in omega (arith, g, many, l, depth, same_length)) in
            let inner = behind here own entry (given_in out contents) (subst (λ (q : NameList). IsEntryAt tree top q entry) named mine) (one_more names raw.name) d.1
            (λ e. contents_walked here own f (f ∷ chain) planned.1.0 contents below (deep e) planned.1.1 planned.1.2
            (λ shallow' raws' told' up' planned'. walked contents (f ∷ chain) f here own raws' below shallow' (deep e) told' up' planned')) in
            let rest = walked plan chain folder place names raws at shallow (λ w. let g = few w in omega (arith, g, many, l)) told.1 up.1 planned.2 in
            subst (λ (items : List Item). Walked place names (raw ∷ raws) items) (sym same)
            (walked_on place names folder raw raws inside (given_in out plan) at told.0 up.0 inner rest))
      ]

  -- ---- plans are plain

  plain_end : (plan : Plan) (chain : List Folder) → IsPlan tree manner chain [] plan → IsPlain plan
  plain_end done chain planned = tt
  plain_end (past path item plan) chain planned = absurd planned
  plain_end (into folder before contents after plan) chain planned = absurd planned

  plain_contents : (place names : NameList) (folder : Folder) (chain : List Folder) (inner : List DirEntry) (contents : Plan) → IsFolder place names folder
      → IsContents tree manner folder inner → IsPlan tree manner chain inner contents
      → (folder.depth < options.max_depth → (raws : List RawEntry) → AllByRecursion (λ raw. Tells tree place raw.name raw) raws
      → IsPlan tree manner chain (map (entry_below folder) raws) contents → IsPlain contents)
      → IsPlain contents
  plain_contents place names folder chain inner contents at (inl deep) planned onward =
      plain_end contents chain (subst (λ (entries : List DirEntry). IsPlan tree manner chain entries contents) deep.1 planned)
  plain_contents place names folder chain inner contents at (inr l) planned onward =
      let o = in_order_by_name tree place folder inner l.listed is at.there at.path_is l.names l.ordered in
      onward l.shallow o.raws o.each (subst (λ (entries : List DirEntry). IsPlan tree manner chain entries contents) o.entries_are planned)

  plain_walked : (plan : Plan) (chain : List Folder) (folder : Folder) (place names : NameList) (raws : List RawEntry) → IsFolder place names folder
      → folder.depth < options.max_depth → AllByRecursion (λ raw. Tells tree place raw.name raw) raws → IsPlan tree manner chain (map (entry_below folder) raws) plan → IsPlain plan
  plain_walked done chain folder place names raws at shallow told planned = tt
  plain_walked (past path item plan) chain folder place names [] at shallow told planned = absurd planned
  plain_walked (past path item plan) chain folder place names (raw ∷ raws) at shallow told planned =
      let entry = entry_below folder raw in
      let node = node_to tree entry.path true in
      elim (kinds raw.kind) [
        | inl d ↦ absurd (subst (λ (s : Seen). IsPast manner s item) (seen_in chain entry node d.1) planned.1)
        | inr d ↦
            (let given : item ≡ Some (Ok entry) =
            subst (λ (s : Seen). IsPast manner s item)
            (seen_past chain entry node (not_root (is_link raw.kind) options.follow_root_links folder.depth) d.1) planned.1
            ∙ ap (λ b. item_where b entry) (shown_at (folder.depth + 1) (omega (arith, shallow))) in
            ((entry, given, d.1), plain_walked plan chain folder place names raws at shallow told.1 planned.2))
      ]
  plain_walked (into f before contents after plan) chain folder place names [] at shallow told planned = absurd planned
  plain_walked (into f before contents after plan) chain folder place names (raw ∷ raws) at shallow told planned =
      let entry = entry_below folder raw in
      let here = place ++ raw.name ∷ [] in
      let own = names ++ raw.name ∷ [] in
      let node = node_to tree entry.path true in
      elim (kinds raw.kind) [
        | inr d ↦ absurd (subst (λ (s : Seen). IsInto manner s f before after)
            (seen_past chain entry node (not_root (is_link raw.kind) options.follow_root_links folder.depth) d.1) planned.0)
        | inl d ↦
            (let entered = subst (λ (s : Seen). IsInto manner s f before after) (seen_in chain entry node d.1) planned.0 in
            let shown = shown_at (folder.depth + 1) (omega (arith, shallow)) in
            let given : before ≡ Some (Ok entry) = entered.1 ∙ rw (how.contents_last, shown) refl in
            let not_after : after ≡ None = entered.2 ∙ rw how.contents_last refl in
            let depth : f.depth ≡ folder.depth + 1 = ap (λ (g : Folder). g.depth) entered.0 in
            let mine = entry_at place names folder raw at told.0 in
            let below : IsFolder here own f = record {
              path_is = ap (λ (g : Folder). g.path) entered.0 ∙ mine.path_is;
              there = ap is_directory_node told.0.stands ∙ directory_kind told.0.node.content (sym told.0.kind_is ∙ d.0);
              depth_is = mine.depth_is ∙ ap (λ n. length top + n) (sym depth);
              below = one_below place names raw.name at.below;
            } in
            let inside = plain_contents here own f (f ∷ chain) planned.1.0 contents below planned.1.1 planned.1.2
            (λ shallow' raws' told' planned'. plain_walked contents (f ∷ chain) f here own raws' below shallow' told' planned') in
            ((entry, given, d.1), not_after, inside, plain_walked plan chain folder place names raws at shallow told.1 planned.2))
      ]

  -- ---- the root

  module _ (node : Node) (stands : node_at tree top ≡ Some node) (no_link : (target : List ℕ) → node.content ≢ link target) (never_out : out (root_entry (path_text top) node) ≡ false) where
    abbrev root : DirEntry
    root = root_entry (path_text top) node

    root_at : IsEntryAt tree top top root
    root_at = record { node = node; stands = stands; kind_is = refl; path_is = refl; depth_is = omega arith; not_followed = refl }

    root_walked : (plan : Plan) → (Whole → length (given_in out plan) ≤ options.max_depth) → IsPlan tree manner [] (root ∷ []) plan
        → ListsOf tree top Whole (SeenIn tree top Whole rules top [] (Unit {0})) (given_in out plan)
    root_walked done few planned = absurd planned
    root_walked (past path item plan) few planned =
        let to = node_to tree root.path true in
        elim (kinds root.kind) [
          | inl d ↦ absurd (subst (λ (s : Seen). IsPast manner s item) (seen_in [] root to d.1) planned.1)
          | inr d ↦
              (let given : item ≡ Some (Ok root) =
              subst (λ (s : Seen). IsPast manner s item)
              (seen_past [] root to (ap (λ b. b && nat_eq 0 0 && options.follow_root_links) (no_link_kind node.content no_link)) d.1) planned.1
              ∙ ap (λ b. item_where b root) (shown_at 0 (omega arith)) in
              let same : items_of item ++ given_in out plan ≡ Ok root ∷ [] = λ i. items_of (given i) ++ nothing_left plan [] planned.2 i in
              let nothing = none_listed tree top Whole rules (λ q. Below top [] q × Unit {0}) (λ w q s. nothing_below tree is top node stands d.0 q (s.0.0, s.0.1, s.0.2, s.0.3)) in
              subst (λ (items : List Item). ListsOf tree top Whole (SeenIn tree top Whole rules top [] (Unit {0})) items) (sym same)
              (listed_within tree top Whole rules top [] (Unit {0}) root [] root_at nothing))
        ]
    root_walked (into f before contents after plan) few planned =
        let to = node_to tree root.path true in
        elim (kinds root.kind) [
          | inr d ↦ absurd (subst (λ (s : Seen). IsInto manner s f before after)
              (seen_past [] root to (ap (λ b. b && nat_eq 0 0 && options.follow_root_links) (no_link_kind node.content no_link)) d.1) planned.0)
          | inl d ↦
              (let entered = subst (λ (s : Seen). IsInto manner s f before after) (seen_in [] root to d.1) planned.0 in
              let given : before ≡ Some (Ok root) = entered.1 ∙ rw (how.contents_last, shown_at 0 (omega arith)) refl in
              let not_after : after ≡ None = entered.2 ∙ rw how.contents_last refl in
              let same : given_in out (into f before contents after plan) ≡ Ok root ∷ given_in out contents =
              (λ i. items_of (given i) ++ (unless_out out [] (given i) (given_in out contents) ++ (items_of (not_after i) ++ nothing_left plan [] planned.2 i)))
              ∙ ap (λ (items : List Item). Ok root ∷ items) (append-nil (unless_out out [] (Some (Ok root)) (given_in out contents)) ∙ behind_false root (given_in out contents) never_out) in
              let many = ap length same in
              let depth : f.depth ≡ 0 = ap (λ (g : Folder). g.depth) entered.0 in
              let below : IsFolder top [] f = record {
                path_is = ap (λ (g : Folder). g.path) entered.0;
                there = ap is_directory_node stands ∙ directory_kind node.content d.0;
                depth_is = omega (arith, depth);
                below = sym (append-nil top);
              } in
              let inside = contents_walked top [] f (f ∷ []) planned.1.0 contents below (λ w. let g = few w in omega (arith, g, many, depth)) planned.1.1 planned.1.2
              (λ shallow raws told up planned'. walked contents (f ∷ []) f top [] raws below shallow (λ w. let g = few w in omega (arith, g, many, depth)) told up planned') in
              subst (λ (items : List Item). ListsOf tree top Whole (SeenIn tree top Whole rules top [] (Unit {0})) items) (sym same)
              (listed_within tree top Whole rules top [] (Unit {0}) root (given_in out contents) root_at
              (listed_as tree top Whole rules (λ q s. (s, tt)) (λ q s. s.0) inside)))
        ]

    plain_root : (plan : Plan) → IsPlan tree manner [] (root ∷ []) plan → IsPlain plan
    plain_root done planned = absurd planned
    plain_root (past path item plan) planned =
        let to = node_to tree root.path true in
        elim (kinds root.kind) [
          | inl d ↦ absurd (subst (λ (s : Seen). IsPast manner s item) (seen_in [] root to d.1) planned.1)
          | inr d ↦
              (let given : item ≡ Some (Ok root) =
              subst (λ (s : Seen). IsPast manner s item)
              (seen_past [] root to (ap (λ b. b && nat_eq 0 0 && options.follow_root_links) (no_link_kind node.content no_link)) d.1) planned.1
              ∙ ap (λ b. item_where b root) (shown_at 0 (omega arith)) in
              ((root, given, d.1), plain_end plan [] planned.2))
        ]
    plain_root (into f before contents after plan) planned =
        let to = node_to tree root.path true in
        elim (kinds root.kind) [
          | inr d ↦ absurd (subst (λ (s : Seen). IsInto manner s f before after)
              (seen_past [] root to (ap (λ b. b && nat_eq 0 0 && options.follow_root_links) (no_link_kind node.content no_link)) d.1) planned.0)
          | inl d ↦
              (let entered = subst (λ (s : Seen). IsInto manner s f before after) (seen_in [] root to d.1) planned.0 in
              let given : before ≡ Some (Ok root) = entered.1 ∙ rw (how.contents_last, shown_at 0 (omega arith)) refl in
              let not_after : after ≡ None = entered.2 ∙ rw how.contents_last refl in
              let depth : f.depth ≡ 0 = ap (λ (g : Folder). g.depth) entered.0 in
              let below : IsFolder top [] f = record {
                path_is = ap (λ (g : Folder). g.path) entered.0;
                there = ap is_directory_node stands ∙ directory_kind node.content d.0;
                depth_is = omega (arith, depth);
                below = sym (append-nil top);
              } in
              let inside = plain_contents top [] f (f ∷ []) planned.1.0 contents below planned.1.1 planned.1.2
              (λ shallow raws told planned'. plain_walked contents (f ∷ []) f top [] raws below shallow told planned') in
              ((root, given, d.1), not_after, inside, plain_end plan [] planned.2))
        ]

-- a walk of the text of a place begins with its node
begins_there : (tree : Tree) (top : NameList) (options : Options) (node : Node) → IsTree tree → IsPlainWalk options → node_at tree top ≡ Some node
    → beginning tree options (path_text top) ≡ begins (root_entry (path_text top) node)
begins_there tree top options node is how stands =
    let text = path_text top in
    let leads : node_to tree text false ≡ Some node = ap (option_and_then (node_at tree)) (text_not_followed tree top node is stands) ∙ stands in
    rw how.all_devices (ap (begins_with text) leads)

-- what a plain walk of a place gives that leaves what rules ignore: all that is seen, where the walk is whole
pub given_listed : (tree : Tree) (top : NameList) (options : Options) (rules : List Rule) (out : DirEntry → Bool) (node : Node) (plan : Plan) → IsTree tree → IsPlainWalk options
    → node_at tree top ≡ Some node → ((target : List ℕ) → node.content ≢ link target)
    → ((names : NameList) (entry : DirEntry) → IsEntryAt tree top (top ++ names) entry → names ≢ [] → is_directory entry.kind ≡ true
    → (out entry ≡ true → Ignores rules names true) × (out entry ≡ false → Ignores rules names true → ⊥))
    → out (root_entry (path_text top) node) ≡ false
    → IsRootPlan tree (manner_of tree options true by_file_name (path_text top)) (path_text top) plan
    → ListsOf tree top (length (given_in out plan) ≤ options.max_depth) (SeenIn tree top (length (given_in out plan) ≤ options.max_depth) rules top [] (Unit {0})) (given_in out plan)
given_listed tree top options rules out node plan is how stands no_link outs never_out planned =
    let root = path_text top in
    let manner = manner_of tree options true by_file_name root in
    let begun = subst (λ (b : Beginning). IsBegun tree manner root b plan) (begins_there tree top options node is how stands) planned in
    let Whole : Type 0 = length (given_in out plan) ≤ options.max_depth in
    root_walked tree is top options (device_to tree root) how Whole rules out outs node stands no_link never_out plan (λ few. few) begun

-- the plan of a plain walk of a place is plain
pub root_plain : (tree : Tree) (top : NameList) (options : Options) (node : Node) (plan : Plan) → IsTree tree → IsPlainWalk options
    → node_at tree top ≡ Some node → ((target : List ℕ) → node.content ≢ link target)
    → IsRootPlan tree (manner_of tree options true by_file_name (path_text top)) (path_text top) plan → IsPlain plan
root_plain tree top options node plan is how stands no_link planned =
    let root = path_text top in
    let manner = manner_of tree options true by_file_name root in
    let begun = subst (λ (b : Beginning). IsBegun tree manner root b plan) (begins_there tree top options node is how stands) planned in
    plain_root tree is top options (device_to tree root) how Unit [] (λ entry. false)
    (λ names entry at some there. ((λ e. absurd (false≢true e)), λ e ignores. none_ignored names true (inl ignores))) node stands no_link refl plan begun
