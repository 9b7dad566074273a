-- The entries that are picked of all that stands below a place are those of its chosen files.
use Rattle.std.proofs.Common.{◌≡◌, ◌≢◌, ◌+◌, ◌<◌, ℕ, List, [], ◌∷◌, ◌++◌, length, map, Some, Ok, Err, refl, sym, ◌∙◌, ap, subst, inl, inr, arith, append-nil, length-append, Less}
use Rattle.std.specs.Prelude.{IsSome, is_some, ◌↔◌}
use Rattle.std.specs.List.{AllByRecursion, join_with_byte}
use Rattle.std.specs.List.Sorted.{IsStrictlySortedBy}
use Rattle.std.specs.Option.{option_and_then}
use Rattle.std.proofs.lemmas.List.{append_cancel_left}
use Rattle.std.proofs.lemmas.Option.{same_Some}
use Rattle.sd_io.specs.Tree.{NameList, Node, Tree, IsTree, name_list_cmp, node_at, file_at, file_node}
use Rattle.sd_io.specs.Paths.{reached}
use Rattle.sd_io.specs.Files.{kind_of, len_of, path_text}
use Rattle.sd_io.specs.declared.meta.Kind.TheVariants as kind
use Rattle.sd_io.proofs.PathTextLemmas.{text_not_followed}
use Rattle.walk_rest.specs.declared.entry.DirEntry.{DirEntry}
use Rattle.walk_rest.specs.declared.options.Options.{Options}
use Rattle.walk_rest.specs.Plan.{Item, path_below, node_to}
use Rattle.chosen_files.specs.Chosen.{IsChosen, Chosen, path_from, ListsChosen}
use Rattle.chosen_files.specs.Globs.{FitsAny}
use Rattle.chosen_files.specs.Picks.{IsWithin}
use Rattle.chosen_files.specs.Picks.{StandsIn, IsEntryAt, AreEntriesAt, ListsAllIn, IsPicked, Picks, WalksWhole}
use Rattle.chosen_files.proofs.laws.ContentLemmas.{nonempty_content, content_nonempty}
use Rattle.chosen_files.proofs.laws.ContentLemmas.{file_stands}
use Rattle.chosen_files.proofs.laws.PlaceLemmas.{In, in_from_contains, contains_from_in, all_from_in, in_from_all}
use Rattle.chosen_files.proofs.laws.BelowLemmas.{below_place, same_below}
use Rattle.chosen_files.proofs.laws.ListedLemmas.{nothing_below, whole_listed}
use Rattle.chosen_files.proofs.laws.ReachedLemmas.{reached_no_link}

-- a place that is others by some names is below them where it is longer
pub longer_below : (top place names : NameList) (depth : ℕ) → place ≡ top ++ names → length place ≡ length top + depth → 0 < depth → names ≢ []
longer_below top place names depth below long some none =
    let same = ap length (below ∙ (λ i. top ++ none i) ∙ append-nil top) in
    omega (arith, long, some, same)

module _ (tree : Tree) (is : IsTree tree) (top : NameList) (globs : List (List ℕ)) (there : IsSome (node_at tree top)) where
  module _ (place : NameList) (entry : DirEntry) (at : IsEntryAt tree top place entry) (within : IsWithin top place) where
    -- its path leads to its node
    leads_there : node_to tree entry.path entry.followed ≡ Some at.node
    leads_there =
        (λ i. option_and_then (node_at tree) (reached tree (at.path_is i) (at.not_followed i)))
        ∙ ap (option_and_then (node_at tree)) (text_not_followed tree place at.node is at.stands)
        ∙ at.stands

    file_is : file_at tree place ≡ file_node (Some at.node)
    file_is = ap file_node at.stands

    -- and it is the top's with its names
    names_join : within.0 ≢ [] → entry.path ≡ path_below (path_text top) (join_with_byte 47 within.0)
    names_join some = at.path_is ∙ ap path_text within.1 ∙ sym (below_place tree top within.0 is there some)

    picked_proper : IsPicked tree (path_text top) globs entry → within.0 ≢ []
    picked_proper picked = longer_below top place within.0 entry.depth within.1 at.depth_is picked.below_top

    -- what is picked has the names for its text
    picked_names : (picked : IsPicked tree (path_text top) globs entry) → within.0 ≢ [] → picked.names ≡ join_with_byte 47 within.0
    picked_names picked proper = same_below (path_text top) picked.names (join_with_byte 47 within.0) (sym picked.path_is ∙ names_join proper)

    picked_chosen : IsPicked tree (path_text top) globs entry → IsChosen tree top globs place
    picked_chosen picked =
        let proper = picked_proper picked in
        let node : picked.node ≡ at.node = same_Some picked.node at.node (sym picked.leads ∙ leads_there) in
        let nonempty = nonempty_content at.node.content (sym at.kind_is ∙ picked.is_file) (subst (λ (n : Node). 0 < len_of n.content) node picked.nonempty) in
        record {
          names = within.0;
          below = within.1;
          proper = proper;
          is_file = (nonempty.0, nonempty.1, nonempty.2, file_is ∙ nonempty.3);
          fits = subst (λ (t : List ℕ). FitsAny globs t) (picked_names picked proper) picked.fits;
        }

    -- and its path below a root is of them
    picked_path : (root : List ℕ) (picked : IsPicked tree (path_text top) globs entry) → path_below root picked.names ≡ path_from root within.0
    picked_path root picked = ap (path_below root) (picked_names picked (picked_proper picked))

    chosen_picked : IsChosen tree top globs place → IsPicked tree (path_text top) globs entry
    chosen_picked chosen =
        let (byte, bytes, mode, e) = chosen.is_file in
        let nonempty = content_nonempty at.node.content byte bytes mode (sym file_is ∙ e) in
        let names : chosen.names ≡ within.0 = append_cancel_left top chosen.names within.0 (sym chosen.below ∙ within.1) in
        let proper : within.0 ≢ [] = λ none. chosen.proper (names ∙ none) in
        record {
          below_top = deeper within.0 within.1 proper;
          is_file = at.kind_is ∙ nonempty.0;
          node = at.node;
          leads = leads_there;
          nonempty = nonempty.1;
          names = join_with_byte 47 within.0;
          path_is = names_join proper;
          fits = subst (λ (t : List ℕ). FitsAny globs t) (ap (join_with_byte 47) names) chosen.fits;
        }
      where
        deeper : (names : NameList) → place ≡ top ++ names → names ≢ [] → 0 < entry.depth
        deeper [] below some = absurd (some refl)
        deeper (name ∷ names) below some =
            let long = at.depth_is in
            let l = ap length below in
            let m = length-append top (name ∷ names) in
            omega (arith, long, l, m)

  -- of entries at some places in order, the chosen ones, and their paths below a root
  pub record AreChosenOf (root : List ℕ) (places : List NameList) (paths : List (List ℕ)) : Type 0 where
    pub chosen : List NameList
    pub in_order : IsStrictlySortedBy name_list_cmp chosen
    pub these : (q : NameList) → In q chosen ↔ (In q places × IsChosen tree top globs q)
    pub names : List NameList
    pub chosen_are : chosen ≡ map (λ below. top ++ below) names
    pub paths_are : paths ≡ map (path_from root) names

  one_more : (root : List ℕ) (place : NameList) (places : List NameList) (paths more : List (List ℕ)) (within : IsWithin top place)
      → AllByRecursion (λ q. name_list_cmp place q ≡ Less) places → IsChosen tree top globs place → paths ≡ path_from root within.0 ∷ more
      → AreChosenOf root places more → AreChosenOf root (place ∷ places) paths
  unfolding IsStrictlySortedBy
  one_more root place places paths more within first chosen are rest = record {
    chosen = place ∷ rest.chosen;
    in_order = (
      all_from_in (λ q. name_list_cmp place q ≡ Less) rest.chosen
          (λ q i. in_from_all (λ q. name_list_cmp place q ≡ Less) places first q ((rest.these q).0 i).0),
      rest.in_order,
    );
    these = λ q. (from_in q, to_in q);
    names = within.0 ∷ rest.names;
    chosen_are = λ i. within.1 i ∷ rest.chosen_are i;
    paths_are = are ∙ (λ i. path_from root within.0 ∷ rest.paths_are i);
  }
    where
      from_in : (q : NameList) → In q (place ∷ rest.chosen) → In q (place ∷ places) × IsChosen tree top globs q
      from_in q (inl e) = (inl e, subst (λ (q : NameList). IsChosen tree top globs q) e chosen)
      from_in q (inr i) = let r = (rest.these q).0 i in (inr r.0, r.1)

      to_in : (q : NameList) → In q (place ∷ places) × IsChosen tree top globs q → In q (place ∷ rest.chosen)
      to_in q (inl e, c) = inl e
      to_in q (inr i, c) = inr ((rest.these q).1 (i, c))

  one_passed : (root : List ℕ) (place : NameList) (places : List NameList) (paths : List (List ℕ)) → ¬ IsChosen tree top globs place
      → AreChosenOf root places paths → AreChosenOf root (place ∷ places) paths
  one_passed root place places paths not rest = record {
    chosen = rest.chosen;
    in_order = rest.in_order;
    these = λ q. ((λ i. let r = (rest.these q).0 i in (inr r.0, r.1)), to_in q);
    names = rest.names;
    chosen_are = rest.chosen_are;
    paths_are = rest.paths_are;
  }
    where
      to_in : (q : NameList) → In q (place ∷ places) × IsChosen tree top globs q → In q rest.chosen
      to_in q (inl e, c) = absurd (not (subst (λ (q : NameList). IsChosen tree top globs q) (sym e) c))
      to_in q (inr i, c) = (rest.these q).1 (i, c)

  pub picked_of : (root : List ℕ) (places : List NameList) (items : List Item) (paths : List (List ℕ)) → AreEntriesAt tree top places items
      → AllByRecursion (IsWithin top) places → IsStrictlySortedBy name_list_cmp places → Picks tree root (path_text top) globs items paths
      → AreChosenOf root places paths
  unfolding IsStrictlySortedBy
  picked_of root [] [] paths at within up picks = record {
    chosen = [];
    in_order = tt;
    these = λ q. ((λ i. absurd i), λ c. absurd c.0);
    names = [];
    chosen_are = refl;
    paths_are = picks;
  }
  picked_of root [] (item ∷ items) paths at within up picks = absurd at
  picked_of root (place ∷ places) [] paths at within up picks = absurd at
  picked_of root (place ∷ places) (Err error ∷ items) paths at within up picks = absurd at
  picked_of root (place ∷ places) (Ok entry ∷ items) paths at within up (inl (picked, more, are, picks)) =
      one_more root place places paths more within.0 up.0 (picked_chosen place entry at.0 within.0 picked)
      (are ∙ ap (λ (path : List ℕ). path ∷ more) (picked_path place entry at.0 within.0 root picked))
      (picked_of root places items more at.1 within.1 up.1 picks)
  picked_of root (place ∷ places) (Ok entry ∷ items) paths at within up (inr (not, picks)) =
      one_passed root place places paths (λ chosen. not (chosen_picked place entry at.0 within.0 chosen))
      (picked_of root places items paths at.1 within.1 up.1 picks)

  -- the chosen files, their names from the top, and their paths below a root
  pub record PicksChosen (root : List ℕ) (paths : List (List ℕ)) : Type 0 where
    pub places : List NameList
    pub chosen : Chosen tree top globs places
    pub names : List NameList
    pub places_are : places ≡ map (λ below. top ++ below) names
    pub paths_are : paths ≡ map (path_from root) names

  pub picks_are_chosen : (root : List ℕ) (items : List Item) (paths : List (List ℕ)) → ListsAllIn tree top items
      → Picks tree root (path_text top) globs items paths → PicksChosen root paths
  picks_are_chosen root items paths lists picks =
      let within = all_from_in (IsWithin top) lists.places (λ q i. ((lists.all.these q).0 (contains_from_in lists.places q i)).0) in
      let of = picked_of root lists.places items paths lists.entries within lists.all.in_order picks in
      record {
        places = of.chosen;
        chosen = record {
          in_order = of.in_order;
          these = λ q. (
            (λ c. ((of.these q).0 (in_from_contains of.chosen q c)).1),
            (λ chosen. contains_from_in of.chosen q ((of.these q).1 (in_from_contains lists.places q ((lists.all.these q).1 (stands_in q chosen)), chosen))),
          );
        };
        names = of.names;
        places_are = of.chosen_are;
        paths_are = of.paths_are;
      }
    where
      stands_in : (q : NameList) → IsChosen tree top globs q → StandsIn tree top q
      stands_in q chosen = let (byte, bytes, mode, e) = chosen.is_file in ((chosen.names, chosen.below), file_stands (node_at tree q) (byte ∷ bytes, mode) e)

  -- nothing is picked where the top is no directory
  pub none_picked : (root : List ℕ) (node : Node) → node_at tree top ≡ Some node → kind_of node.content ≢ kind.Directory → (items : List Item) (paths : List (List ℕ))
      → ListsAllIn tree top items → Picks tree root (path_text top) globs items paths → paths ≡ []
  none_picked root node stands no_folder items paths lists picks =
      let picked = picks_are_chosen root items paths lists picks in
      picked.paths_are ∙ by picked.names (subst (λ (places : List NameList). Chosen tree top globs places) picked.places_are picked.chosen)
    where
      nothing : (q : NameList) (names : NameList) → IsChosen tree top globs q → q ≡ top ++ names → names ≢ [] → ⊥
      nothing q [] chosen below some = some refl
      nothing q (name ∷ rest) chosen below some =
          let (byte, bytes, mode, e) = chosen.is_file in
          nothing_below tree is top node stands no_folder q (name, rest, below, file_stands (node_at tree q) (byte ∷ bytes, mode) e)

      by : (names : List NameList) → Chosen tree top globs (map (λ below. top ++ below) names) → map (path_from root) names ≡ []
      by [] chosen = refl
      by (below ∷ names) chosen =
          let one = (chosen.these (top ++ below)).0 (contains_from_in (map (λ below. top ++ below) (below ∷ names)) (top ++ below) (inl refl)) in
          absurd (nothing (top ++ below) one.names one one.below one.proper)

-- what is picked of a whole walk are the chosen files
pub listed_chosen : (tree : Tree) (options : Options) (root : List ℕ) (top : NameList) (globs : List (List ℕ)) (items : List Item) (paths : List (List ℕ))
    → IsTree tree → WalksWhole tree options root top items → Picks tree root (path_text top) globs items paths → ListsChosen tree root globs paths
listed_chosen tree options root top globs items paths is walk picks =
    let at = reached_no_link tree root top is walk.leads in
    let picked = picks_are_chosen tree is top globs (ap is_some at.stands) root items paths (whole_listed tree options root top items is walk) picks in
    record { top = top; leads = walk.leads; places = picked.places; chosen = picked.chosen; names = picked.names; places_are = picked.places_are; paths_are = picked.paths_are }
