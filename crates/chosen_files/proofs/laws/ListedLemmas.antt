-- A walk of a place, sorted by file name, gives all that stands at or below it, in the order of name lists.
use Rattle.std.proofs.Common.{rules, ◌≡◌, ◌≢◌, ◌+◌, ◌<◌, ◌≤◌, ◌⊎◌, ℕ, Bool, true, false, cond, List, [], ◌∷◌, ◌++◌, length, map, Option, Some, None, Ok, Err, refl, sym, ◌∙◌, ap, subst, inl, inr, arith, append_assoc, append-nil, length-append, Less}
use Rattle.std.specs.Prelude.{IsSome, is_some, nat_le, nat_eq, ◌&&◌}
use Rattle.std.specs.List.{AllByRecursion}
use Rattle.std.specs.List.Sorted.{IsStrictlySortedBy}
use Rattle.std.specs.Option.{option_and_then, option_map_or}
use Rattle.sd_io.specs.Tree.{NameList, Name, Content, directory, link, file, other, Node, Tree, IsTree, name_cmp, name_list_cmp, node_at, is_directory_at, is_directory_node, is_directory_content}
use Rattle.sd_io.specs.Paths.{reached}
use Rattle.sd_io.specs.Files.{kind_of, path_text}
use Rattle.sd_io.specs.Lists.{Tells}
use Rattle.sd_io.specs.declared.meta.Kind.{Kind}
use Rattle.sd_io.specs.declared.meta.Kind.TheVariants as kind
use Rattle.sd_io.specs.declared.meta.Kind.TheVariants.{Directory, Link, File, Other}
use Rattle.sd_io.specs.declared.meta.RawEntry.{RawEntry}
use Rattle.sd_io.proofs.PathTextLemmas.{above, directory_stands, text_not_followed}
use Rattle.walk_rest.specs.declared.entry.DirEntry.{DirEntry}
use Rattle.walk_rest.specs.declared.error.Error.TheVariants as error
use Rattle.walk_rest.specs.declared.level.Folder.{Folder}
use Rattle.walk_rest.specs.declared.options.Options.{Options}
use Rattle.walk_rest.specs.Names.{by_file_name}
use Rattle.walk_rest.specs.Plan.{Comparison, Item, path_below, Plan, done, past, into, items_of, items_in, Manner, Seen, stays, enters, seen_by, node_to, folder_of, is_directory, is_link, entry_below, item_where, is_shown, IsPlan, IsPast, IsInto, IsContents}
use Rattle.walk_rest.specs.Listing.{Beginning, ends, begins, begins_with, beginning_by, beginning, root_entry, manner_of, device_to, IsBegun, IsListing}
use Rattle.chosen_files.specs.Picks.{IsPlainWalk, WalksWhole, StandsIn, IsEntryAt, AreEntriesAt, ListsAllIn}
use Rattle.chosen_files.proofs.laws.EntryLemmas.{names_of}
use Rattle.chosen_files.proofs.laws.PlaceLemmas.{In, in_from_contains, contains_from_in, in_left, in_right, in_append, all_from_in, in_from_all, sorted_append, child_less, below_later}
use Rattle.chosen_files.proofs.laws.BelowLemmas.{below_place}
use Rattle.chosen_files.proofs.laws.InOrderLemmas.{in_order_by_name}
use Rattle.chosen_files.proofs.laws.ReachedLemmas.{reached_no_link}

-- ---- lists of entries

-- the items are the entries at places of which a fact holds, in order; at all these, where the walk is whole
record ListsOf (tree : Tree) (top : NameList) (Whole : Type 0) (P : NameList → Type 0) (items : List Item) : Type 0 where
  places : List NameList
  in_order : IsStrictlySortedBy name_list_cmp places
  sound : (q : NameList) → In q places → P q
  whole : Whole → (q : NameList) → P q → In q places
  entries : AreEntriesAt tree top places items

-- something stands properly below a place
abbrev pub StandsBelow : Tree → NameList → NameList → Type 0
StandsBelow tree place q = (name : Name) × (rest : NameList) × (q ≡ place ++ name ∷ rest) × IsSome (node_at tree q)

-- it stands at or below one of these names in a place
abbrev StandsUnder : Tree → NameList → List Name → NameList → Type 0
StandsUnder tree place names q = (name : Name) × (rest : NameList) × In name names × (q ≡ place ++ name ∷ rest) × IsSome (node_at tree q)

entries_append : (tree : Tree) (top : NameList) (ps qs : List NameList) (xs ys : List Item) → AreEntriesAt tree top ps xs → AreEntriesAt tree top qs ys
    → AreEntriesAt tree top (ps ++ qs) (xs ++ ys)
entries_append tree top [] qs [] ys h k = k
entries_append tree top [] qs (x ∷ xs) ys h k = absurd h
entries_append tree top (p ∷ ps) qs [] ys h k = absurd h
entries_append tree top (p ∷ ps) qs (Ok entry ∷ xs) ys h k = (h.0, entries_append tree top ps qs xs ys h.1 k)
entries_append tree top (p ∷ ps) qs (Err error ∷ xs) ys h k = absurd h

module _ (tree : Tree) (top : NameList) (Whole : Type 0) where
  none_listed : (P : NameList → Type 0) → (Whole → (q : NameList) → P q → ⊥) → ListsOf tree top Whole P []
  unfolding IsStrictlySortedBy
  none_listed P none = record { places = []; in_order = tt; sound = λ q i. absurd i; whole = λ w q p. absurd (none w q p); entries = tt }

  listed_as : {P Q : NameList → Type 0} {items : List Item} → ((q : NameList) → P q → Q q) → ((q : NameList) → Q q → P q) → ListsOf tree top Whole P items
      → ListsOf tree top Whole Q items
  listed_as onward back l = record {
    places = l.places;
    in_order = l.in_order;
    sound = λ q i. onward q (l.sound q i);
    whole = λ w q holds. l.whole w q (back q holds);
    entries = l.entries;
  }

  -- one list after another
  both_listed : {P Q : NameList → Type 0} {xs ys : List Item} → ((q r : NameList) → P q → Q r → name_list_cmp q r ≡ Less)
      → ListsOf tree top Whole P xs → ListsOf tree top Whole Q ys
      → ListsOf tree top Whole (λ q. P q ⊎ Q q) (xs ++ ys)
  both_listed {P} {Q} {xs} {ys} before l m = record {
    places = l.places ++ m.places;
    in_order = sorted_append name_list_cmp l.places m.places l.in_order m.in_order (λ q r i j. before q r (l.sound q i) (m.sound r j));
    sound = λ q i. elim (in_append l.places m.places q i) [ inl j ↦ inl (l.sound q j) | inr j ↦ inr (m.sound q j) ];
    whole = λ w q holds. elim holds [ inl p ↦ in_left l.places m.places q (l.whole w q p) | inr p ↦ in_right l.places m.places q (m.whole w q p) ];
    entries = entries_append tree top l.places m.places xs ys l.entries m.entries;
  }

  -- a place and what stands below it
  listed_within : (place : NameList) (entry : DirEntry) (items : List Item) → IsEntryAt tree top place entry → ListsOf tree top Whole (StandsBelow tree place) items
      → ListsOf tree top Whole (StandsIn tree place) (Ok entry ∷ items)
  unfolding IsStrictlySortedBy
  listed_within place entry items at l = record {
    places = place ∷ l.places;
    in_order = (all_from_in (λ q. name_list_cmp place q ≡ Less) l.places (λ q i. later q (l.sound q i)), l.in_order);
    sound = from_in;
    whole = to_in;
    entries = (at, l.entries);
  }
    where
      later : (q : NameList) → StandsBelow tree place q → name_list_cmp place q ≡ Less
      later q (name, rest, e, stands) = subst (λ (q : NameList). name_list_cmp place q ≡ Less) (sym e) (below_later place name rest)

      from_in : (q : NameList) → In q (place ∷ l.places) → StandsIn tree place q
      from_in q (inl e) = (([], sym e ∙ sym (append-nil place)), ap is_some (ap (node_at tree) (sym e) ∙ at.stands))
      from_in q (inr i) = let below = l.sound q i in ((below.0 ∷ below.1, below.2), below.3)

      to_in : Whole → (q : NameList) → StandsIn tree place q → In q (place ∷ l.places)
      to_in w q (([], e), stands) = inl (sym (e ∙ append-nil place))
      to_in w q ((name ∷ rest, e), stands) = inr (l.whole w q (name, rest, e, stands))

  -- what stands under one more name, before all the others
  listed_under : (place : NameList) (name : Name) (names : List Name) (xs ys : List Item) → AllByRecursion (λ next. name_cmp name next ≡ Less) names
      → ListsOf tree top Whole (StandsIn tree (place ++ name ∷ [])) xs → ListsOf tree top Whole (StandsUnder tree place names) ys
      → ListsOf tree top Whole (StandsUnder tree place (name ∷ names)) (xs ++ ys)
  listed_under place name names xs ys first l m = listed_as onward back (both_listed before l m)
    where
      shown : (q rest : NameList) → q ≡ (place ++ name ∷ []) ++ rest → q ≡ place ++ name ∷ rest
      shown q rest e = e ∙ append_assoc place (name ∷ []) rest

      before : (q r : NameList) → StandsIn tree (place ++ name ∷ []) q → StandsUnder tree place names r → name_list_cmp q r ≡ Less
      before q r ((s, e), _) (next, t, i, f, _) =
          let less = child_less place name next s t (in_from_all (λ next. name_cmp name next ≡ Less) names first next i) in
          (λ k. name_list_cmp (shown q s e k) (f k)) ∙ less

      onward : (q : NameList) → StandsIn tree (place ++ name ∷ []) q ⊎ StandsUnder tree place names q → StandsUnder tree place (name ∷ names) q
      onward q (inl ((s, e), stands)) = (name, s, inl refl, shown q s e, stands)
      onward q (inr (next, t, i, f, stands)) = (next, t, inr i, f, stands)

      back : (q : NameList) → StandsUnder tree place (name ∷ names) q → StandsIn tree (place ++ name ∷ []) q ⊎ StandsUnder tree place names q
      back q (next, t, inl same, f, stands) = inl ((t, f ∙ (λ k. place ++ sym same k ∷ t) ∙ sym (append_assoc place (name ∷ []) t)), stands)
      back q (next, t, inr i, f, stands) = inr (next, t, i, f, stands)

-- ---- what a plain walk makes of an entry

kinds : (k : Kind) → ((k ≡ kind.Directory) × (is_directory k ≡ true)) ⊎ ((k ≢ kind.Directory) × (is_directory k ≡ false))
kinds Directory = inl (refl, refl)
kinds Link = inr ((λ e. cc), refl)
kinds File = inr ((λ e. cc), refl)
kinds Other = inr ((λ e. cc), refl)

pub directory_kind : (c : Content) → kind_of c ≡ kind.Directory → is_directory_content c ≡ true
directory_kind directory e = refl
directory_kind (link target) e = cc
directory_kind (file bytes mode) e = cc
directory_kind other e = cc

kind_directory : (c : Content) → is_directory_content c ≡ true → kind_of c ≡ kind.Directory
kind_directory directory e = refl
kind_directory (link target) e = cc
kind_directory (file bytes mode) e = cc
kind_directory other e = cc

no_link_kind : (c : Content) → ((target : List ℕ) → c ≢ link target) → is_link (kind_of c) ≡ false
no_link_kind directory none = refl
no_link_kind (link target) none = absurd (none target refl)
no_link_kind (file bytes mode) none = refl
no_link_kind other none = refl

not_zero : (n : ℕ) → nat_eq (n + 1) 0 ≡ false
not_zero n = search rules

not_root : (is_link follows : Bool) (n : ℕ) → (is_link && nat_eq (n + 1) 0 && follows) ≡ false
not_root true follows n = ap (λ b. b && follows) (not_zero n)
not_root false follows n = refl

le_of : (a b : ℕ) → a ≤ b → nat_le a b ≡ true
le_of a b e = search rules

-- nothing stands below what is no directory
pub nothing_below : (tree : Tree) → IsTree tree → (place : NameList) (node : Node) → node_at tree place ≡ Some node
    → kind_of node.content ≢ kind.Directory → (q : NameList) → StandsBelow tree place q → ⊥
nothing_below tree is place node stands no_folder q (name, rest, e, some) =
    let under = above tree is place name rest (subst (λ (q : NameList). IsSome (node_at tree q)) e some) in
    no_folder (kind_directory node.content (ap is_directory_node (sym stands) ∙ is.parents place name under))

module _ (tree : Tree) (is : IsTree tree) (top : NameList) (options : Options) (device : ℕ) (how : IsPlainWalk options) (Whole : Type 0) where
  abbrev manner : Manner
  manner = record { options = options; sorts = true; compare = by_file_name; device = device }

  shown_at : (depth : ℕ) → depth ≤ options.max_depth → is_shown options depth ≡ true
  shown_at depth shallow =
      let min : nat_le options.min_depth depth ≡ true = le_of options.min_depth depth (let e = how.from_root in omega (arith, e)) in
      let max : nat_le depth options.max_depth ≡ true = le_of depth options.max_depth shallow in
      rw (min, max) refl

  seen_in : (chain : List Folder) (entry : DirEntry) (to : Option Node) → is_directory entry.kind ≡ true
      → seen_by manner chain entry to ≡ enters entry (folder_of options entry to)
  seen_in chain entry to there = rw (how.no_links, there, how.all_devices) refl

  -- an entry that is no directory, and isn't the root's or no link
  seen_past : (chain : List Folder) (entry : DirEntry) (to : Option Node)
      → (is_link entry.kind && nat_eq entry.depth 0 && options.follow_root_links) ≡ false → is_directory entry.kind ≡ false
      → seen_by manner chain entry to ≡ stays entry
  seen_past chain entry to no_root_link no_folder = rw (how.no_links, no_folder, no_root_link) refl

  -- the folder of a place, that lies as deep below the top
  record IsFolder (place : NameList) (folder : Folder) : Type 0 where
    path_is : folder.path ≡ path_text place
    there : is_directory_at tree place ≡ true
    depth_is : length place ≡ length top + folder.depth

  -- the entry of what a directory's list tells of
  entry_at : (place : NameList) (folder : Folder) (raw : RawEntry) → IsFolder place folder → Tells tree place raw.name raw
      → IsEntryAt tree top (place ++ raw.name ∷ []) (entry_below folder raw)
  entry_at place folder raw at told = record {
    node = told.node;
    stands = told.stands;
    kind_is = told.kind_is;
    path_is = ap (λ (text : List ℕ). path_below text raw.name) at.path_is
        ∙ below_place tree place (raw.name ∷ []) is (directory_stands (node_at tree place) at.there) (λ e. cc);
    depth_is = (let e = at.depth_is in let l = length-append place (raw.name ∷ []) in omega (arith, e, l));
    not_followed = refl;
  }

  -- the items are those of all that stands under the names of these entries
  abbrev Walked : NameList → List RawEntry → List Item → Type 0
  Walked place raws items = ListsOf tree top Whole (StandsUnder tree place (names_of raws)) items

  -- an entry, what stands below it, and the entries after it
  walked_on : (place : NameList) (folder : Folder) (raw : RawEntry) (raws : List RawEntry) (inner items : List Item)
      → IsFolder place folder → Tells tree place raw.name raw → AllByRecursion (λ next. name_cmp raw.name next ≡ Less) (names_of raws)
      → ListsOf tree top Whole (StandsBelow tree (place ++ raw.name ∷ [])) inner → Walked place raws items
      → Walked place (raw ∷ raws) (Ok (entry_below folder raw) ∷ (inner ++ items))
  walked_on place folder raw raws inner items at told first below rest =
      listed_under tree top Whole place raw.name (names_of raws) (Ok (entry_below folder raw) ∷ inner) items first
      (listed_within tree top Whole (place ++ raw.name ∷ []) (entry_below folder raw) inner (entry_at place folder raw at told) below) rest

  nothing_left : (plan : Plan) (chain : List Folder) → IsPlan tree manner chain [] plan → items_in plan ≡ []
  nothing_left done chain planned = refl
  nothing_left (past path item plan) chain planned = absurd planned
  nothing_left (into folder before contents after plan) chain planned = absurd planned

  -- the contents of a directory, by what comes of its entries in order
  contents_walked : (place : NameList) (folder : Folder) (chain : List Folder) (inner : List DirEntry) (contents : Plan) → IsFolder place folder
      → (Whole → folder.depth + length (items_in contents) < options.max_depth) → IsContents tree manner folder inner → IsPlan tree manner chain inner contents
      → (folder.depth < options.max_depth → (raws : List RawEntry) → AllByRecursion (λ raw. Tells tree place raw.name raw) raws → IsStrictlySortedBy name_cmp (names_of raws)
      → IsPlan tree manner chain (map (entry_below folder) raws) contents → Walked place raws (items_in contents))
      → ListsOf tree top Whole (StandsBelow tree place) (items_in contents)
  contents_walked place folder chain inner contents at few (inl deep) planned onward =
      let empty = nothing_left contents chain (subst (λ (entries : List DirEntry). IsPlan tree manner chain entries contents) deep.1 planned) in
      subst (λ (items : List Item). ListsOf tree top Whole (StandsBelow tree place) items) (sym empty)
      (none_listed tree top Whole (StandsBelow tree place) (λ w q s. let d = deep.0 in let f = few w in absurd (omega (arith, d, f))))
  contents_walked place folder chain inner contents at few (inr l) planned onward =
      let o = in_order_by_name tree place folder inner l.listed is at.there at.path_is l.names l.ordered in
      listed_as tree top Whole (λ q (name, rest, i, e, stands). (name, rest, e, stands))
      (λ q (name, rest, e, stands).
      (name, rest, o.all name (above tree is place name rest (subst (λ (q : NameList). IsSome (node_at tree q)) e stands)), e, stands))
      (onward l.shallow o.raws o.each o.up (subst (λ (entries : List DirEntry). IsPlan tree manner chain entries contents) o.entries_are planned))

  walked : (plan : Plan) (chain : List Folder) (folder : Folder) (place : NameList) (raws : List RawEntry) → IsFolder place folder
      → folder.depth < options.max_depth → (Whole → folder.depth + length (items_in plan) < options.max_depth) → AllByRecursion (λ raw. Tells tree place raw.name raw) raws
      → IsStrictlySortedBy name_cmp (names_of raws) → IsPlan tree manner chain (map (entry_below folder) raws) plan → Walked place raws (items_in plan)
  unfolding IsStrictlySortedBy
  walked done chain folder place [] at shallow few told up planned = none_listed tree top Whole (StandsUnder tree place []) (λ w q s. s.2)
  walked done chain folder place (raw ∷ raws) at shallow few told up planned = absurd planned
  walked (past path item plan) chain folder place [] at shallow few told up planned = absurd planned
  walked (past path item plan) chain folder place (raw ∷ raws) at shallow few told up planned =
      let entry = entry_below folder raw in
      let node = node_to tree entry.path true in
      let l = length-append (items_of item) (items_in plan) in
      elim (kinds raw.kind) [
        | inl d ↦ absurd (subst (λ (s : Seen). IsPast manner s item) (seen_in chain entry node d.1) planned.1)
        | inr d ↦
            (let given : item ≡ Some (Ok entry) =
            subst (λ (s : Seen). IsPast manner s item)
            (seen_past chain entry node (not_root (is_link raw.kind) options.follow_root_links folder.depth) d.1) planned.1
            ∙ ap (λ b. item_where b entry) (shown_at (folder.depth + 1) (omega (arith, shallow))) in
            let nothing = none_listed tree top Whole (StandsBelow tree (place ++ raw.name ∷ []))
            (λ w. nothing_below tree is (place ++ raw.name ∷ []) told.0.node told.0.stands (λ e. d.0 (told.0.kind_is ∙ e))) in
            let rest = walked plan chain folder place raws at shallow (λ w. let f = few w in omega (arith, f, l)) told.1 up.1 planned.2 in
            subst (λ (i : Option Item). Walked place (raw ∷ raws) (items_of i ++ items_in plan)) (sym given)
            (walked_on place folder raw raws [] (items_in plan) at told.0 up.0 nothing rest))
      ]
  walked (into f before contents after plan) chain folder place [] at shallow few told up planned = absurd planned
  walked (into f before contents after plan) chain folder place (raw ∷ raws) at shallow few told up planned =
      let entry = entry_below folder raw in
      let here = place ++ raw.name ∷ [] in
      let node = node_to tree entry.path true in
      elim (kinds raw.kind) [
        | inr d ↦ absurd (subst (λ (s : Seen). IsInto manner s f before after)
            (seen_past chain entry node (not_root (is_link raw.kind) options.follow_root_links folder.depth) d.1) planned.0)
        | inl d ↦
            (let entered = subst (λ (s : Seen). IsInto manner s f before after) (seen_in chain entry node d.1) planned.0 in
            let shown = shown_at (folder.depth + 1) (omega (arith, shallow)) in
            let given : before ≡ Some (Ok entry) = entered.1 ∙ rw (how.contents_last, shown) refl in
            let not_after : after ≡ None = entered.2 ∙ rw how.contents_last refl in
            let same : items_of before ++ (items_in contents ++ (items_of after ++ items_in plan)) ≡ Ok entry ∷ (items_in contents ++ items_in plan) =
            λ i. items_of (given i) ++ (items_in contents ++ (items_of (not_after i) ++ items_in plan)) in
            let many = ap length same in
            let l = length-append (items_in contents) (items_in plan) in
            let depth : f.depth ≡ folder.depth + 1 = ap (λ (g : Folder). g.depth) entered.0 in
            let mine = entry_at place folder raw at told.0 in
            let below : IsFolder here f = record {
              path_is = ap (λ (g : Folder). g.path) entered.0 ∙ mine.path_is;
              there = ap is_directory_node told.0.stands ∙ directory_kind told.0.node.content (sym told.0.kind_is ∙ d.0);
              depth_is = mine.depth_is ∙ ap (λ n. length top + n) (sym depth);
            } in
            let inside = contents_walked here f (f ∷ chain) planned.1.0 contents below (λ w. let g = few w in omega (arith, g, many, l, depth)) planned.1.1 planned.1.2
            (λ shallow' raws' told' up' planned'. walked contents (f ∷ chain) f here raws' below shallow' (λ w. let g = few w in omega (arith, g, many, l, depth)) told' up' planned') in
            let rest = walked plan chain folder place raws at shallow (λ w. let g = few w in omega (arith, g, many, l)) told.1 up.1 planned.2 in
            subst (λ (items : List Item). Walked place (raw ∷ raws) items) (sym same)
            (walked_on place folder raw raws (items_in contents) (items_in plan) at told.0 up.0 inside rest))
      ]

  -- ---- the root

  module _ (node : Node) (stands : node_at tree top ≡ Some node) (no_link : (target : List ℕ) → node.content ≢ link target) where
    abbrev root : DirEntry
    root = root_entry (path_text top) node

    root_at : IsEntryAt tree top top root
    root_at = record { node = node; stands = stands; kind_is = refl; path_is = refl; depth_is = omega arith; not_followed = refl }

    root_walked : (plan : Plan) → (Whole → length (items_in plan) ≤ options.max_depth) → IsPlan tree manner [] (root ∷ []) plan
        → ListsOf tree top Whole (StandsIn tree top) (items_in plan)
    root_walked done few planned = absurd planned
    root_walked (past path item plan) few planned =
        let to = node_to tree root.path true in
        elim (kinds root.kind) [
          | inl d ↦ absurd (subst (λ (s : Seen). IsPast manner s item) (seen_in [] root to d.1) planned.1)
          | inr d ↦
              (let given : item ≡ Some (Ok root) =
              subst (λ (s : Seen). IsPast manner s item)
              (seen_past [] root to (ap (λ b. b && nat_eq 0 0 && options.follow_root_links) (no_link_kind node.content no_link)) d.1) planned.1
              ∙ ap (λ b. item_where b root) (shown_at 0 (omega arith)) in
              let same : items_of item ++ items_in plan ≡ Ok root ∷ [] = λ i. items_of (given i) ++ nothing_left plan [] planned.2 i in
              let nothing = none_listed tree top Whole (StandsBelow tree top) (λ w. nothing_below tree is top node stands d.0) in
              subst (λ (items : List Item). ListsOf tree top Whole (StandsIn tree top) items) (sym same) (listed_within tree top Whole top root [] root_at nothing))
        ]
    root_walked (into f before contents after plan) few planned =
        let to = node_to tree root.path true in
        elim (kinds root.kind) [
          | inr d ↦ absurd (subst (λ (s : Seen). IsInto manner s f before after)
              (seen_past [] root to (ap (λ b. b && nat_eq 0 0 && options.follow_root_links) (no_link_kind node.content no_link)) d.1) planned.0)
          | inl d ↦
              (let entered = subst (λ (s : Seen). IsInto manner s f before after) (seen_in [] root to d.1) planned.0 in
              let given : before ≡ Some (Ok root) = entered.1 ∙ rw (how.contents_last, shown_at 0 (omega arith)) refl in
              let not_after : after ≡ None = entered.2 ∙ rw how.contents_last refl in
              let same : items_of before ++ (items_in contents ++ (items_of after ++ items_in plan)) ≡ Ok root ∷ items_in contents =
              (λ i. items_of (given i) ++ (items_in contents ++ (items_of (not_after i) ++ nothing_left plan [] planned.2 i)))
              ∙ ap (λ (items : List Item). Ok root ∷ items) (append-nil (items_in contents)) in
              let many = ap length same in
              let depth : f.depth ≡ 0 = ap (λ (g : Folder). g.depth) entered.0 in
              let below : IsFolder top f = record {
                path_is = ap (λ (g : Folder). g.path) entered.0;
                there = ap is_directory_node stands ∙ directory_kind node.content d.0;
                depth_is = omega (arith, depth);
              } in
              let inside = contents_walked top f (f ∷ []) planned.1.0 contents below (λ w. let g = few w in omega (arith, g, many, depth)) planned.1.1 planned.1.2
              (λ shallow raws told up planned'. walked contents (f ∷ []) f top raws below shallow (λ w. let g = few w in omega (arith, g, many, depth)) told up planned') in
              subst (λ (items : List Item). ListsOf tree top Whole (StandsIn tree top) items) (sym same)
              (listed_within tree top Whole top root (items_in contents) root_at inside))
        ]

-- a walk of the text of a place begins with its node
begins_there : (tree : Tree) (top : NameList) (options : Options) (node : Node) → IsTree tree → IsPlainWalk options → node_at tree top ≡ Some node
    → beginning tree options (path_text top) ≡ begins (root_entry (path_text top) node)
begins_there tree top options node is how stands =
    let text = path_text top in
    let leads : node_to tree text false ≡ Some node = ap (option_and_then (node_at tree)) (text_not_followed tree top node is stands) ∙ stands in
    rw how.all_devices (ap (begins_with text) leads)

-- the items of a plain walk are the entries at places in order; at all, where the walk is whole
walk_listed : (tree : Tree) (top : NameList) (options : Options) (node : Node) (items : List Item) → IsTree tree → IsPlainWalk options
    → node_at tree top ≡ Some node → ((target : List ℕ) → node.content ≢ link target)
    → IsListing tree options true by_file_name (path_text top) items → ListsOf tree top (length items ≤ options.max_depth) (StandsIn tree top) items
walk_listed tree top options node items is how stands no_link listing =
    let root = path_text top in
    let manner = manner_of tree options true by_file_name root in
    let begun = subst (λ (b : Beginning). IsBegun tree manner root b listing.plan) (begins_there tree top options node is how stands) listing.planned in
    let many = ap length listing.same in
    let Whole : Type 0 = length items ≤ options.max_depth in
    subst (λ (shown : List Item). ListsOf tree top Whole (StandsIn tree top) shown) (sym listing.same)
    (root_walked tree is top options (device_to tree root) how Whole node stands no_link listing.plan (λ few. omega (arith, few, many)) begun)

-- a walk of a path that leads nowhere gives an error alone
pub nowhere_listed : (tree : Tree) (options : Options) (sorts : Bool) (compare : Comparison) (root : List ℕ) (items : List Item)
    → reached tree root false ≡ None → IsListing tree options sorts compare root items → items ≡ Err (error.Absent root 0) ∷ []
nowhere_listed tree options sorts compare root items nowhere listing =
    let manner = manner_of tree options sorts compare root in
    let ended =
    ap (beginning_by options root (node_to tree root true)) (ap (option_and_then (node_at tree)) nowhere)
    ∙ by options.same_file_system (node_to tree root true) in
    listing.same ∙ ap items_in (subst (λ (b : Beginning). IsBegun tree manner root b listing.plan) ended listing.planned)
  where
    by : (b : Bool) (followed : Option Node)
        → cond b (option_map_or (λ (node : Node). begins_with root None) followed (ends (error.Absent root 0))) (begins_with root None)
        ≡ ends (error.Absent root 0)
    by true None = refl
    by true (Some node) = refl
    by false followed = refl

-- a whole walk gives all that stands at or below its place
pub whole_listed : (tree : Tree) (options : Options) (root : List ℕ) (top : NameList) (items : List Item) → IsTree tree
    → WalksWhole tree options root top items → ListsAllIn tree top items
whole_listed tree options root top items is walk =
    let at = reached_no_link tree root top is walk.leads in
    let l = walk_listed tree top options at.node items is walk.is_plain at.stands at.no_link walk.listing in
    record {
      places = l.places;
      all = record {
        in_order = l.in_order;
        these = λ q. ((λ c. l.sound q (in_from_contains l.places q c)), λ s. contains_from_in l.places q (l.whole walk.few q s));
      };
      entries = l.entries;
    }

-- the items are entries at places in order, each at or below the top
pub record ListsIn (tree : Tree) (top : NameList) (items : List Item) : Type 0 where
  pub places : List NameList
  pub in_order : IsStrictlySortedBy name_list_cmp places
  pub sound : (q : NameList) → In q places → StandsIn tree top q
  pub entries : AreEntriesAt tree top places items

-- a plain walk gives no other items
pub plain_listed : (tree : Tree) (options : Options) (root : List ℕ) (top : NameList) (items : List Item) → IsTree tree → IsPlainWalk options
    → reached tree root true ≡ Some top → IsListing tree options true by_file_name (path_text top) items → ListsIn tree top items
plain_listed tree options root top items is how leads listing =
    let at = reached_no_link tree root top is leads in
    let l = walk_listed tree top options at.node items is how at.stands at.no_link listing in
    record { places = l.places; in_order = l.in_order; sound = l.sound; entries = l.entries }
