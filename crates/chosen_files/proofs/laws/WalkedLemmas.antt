-- A walk that leaves unread what rules ignore gives all that is seen, and what is picked of it is kept.
use Rattle.std.proofs.Common.{◌≡◌, ◌≢◌, ◌≤◌, ◌⊎◌, ℕ, Bool, true, false, cond, List, [], ◌∷◌, ◌++◌, length, Option, Some, None, Ok, Err, refl, sym, ◌∙◌, ap, subst, inl, inr, arith, append_assoc, append-nil, Less}
use Rattle.std.specs.Prelude.{IsSome, is_some, ◌↔◌, not}
use Rattle.std.specs.List.{AllByRecursion}
use Rattle.std.specs.List.Sorted.{IsStrictlySortedBy}
use Rattle.std.proofs.lemmas.Bool.{false≢true}
use Rattle.std.proofs.lemmas.List.{append_cancel_left}
use Rattle.sd_io.specs.Tree.{NameList, Content, directory, link, file, other, Node, Tree, IsTree, name_list_cmp, node_at, is_directory_at, is_directory_node, is_directory_content, IsNonemptyFile, file_content, file_node}
use Rattle.sd_io.specs.Files.{kind_of, path_text}
use Rattle.sd_io.specs.Paths.{reached}
use Rattle.walk_rest.specs.declared.entry.DirEntry.{DirEntry}
use Rattle.walk_rest.specs.declared.options.Options.{Options}
use Rattle.walk_rest.specs.Plan.{Item, Plan, is_directory}
use Rattle.walk_rest.specs.Listing.{root_entry}
use Rattle.sd_ignore.specs.declared.rule.Rule.{Rule}
use Rattle.sd_ignore.specs.Ignored.{Ignores, IsIgnored}
use Rattle.sd_ignore.proofs.AboveLemmas.{above_kept, left_to_rules}
use Rattle.chosen_files.specs.Chosen.{IsChosen}
use Rattle.chosen_files.specs.Picks.{IsWithin, IsEntryAt, AreEntriesAt, IsPlainWalk, Picks}
use Rattle.chosen_files.proofs.laws.PlaceLemmas.{In, in_from_contains, contains_from_in, all_from_in, in_from_all}
use Rattle.chosen_files.specs.LeftOut.{leaves_out}
use Rattle.walkdir.specs.Gather.{given_in, gathered_of}
use Rattle.chosen_files.specs.Kept.{IsKept, ListsKept}
use Rattle.chosen_files.specs.Seen.{IsSeen}
use Rattle.chosen_files.specs.Walked.{IsPlanAt, WalksSeen, ListsAllSeen}
use Rattle.chosen_files.proofs.left_out.AfterLemmas.{out_top}
use Rattle.chosen_files.proofs.laws.KeptLemmas.{HasLast, last_of, not_empty, kept_seen}
use Rattle.chosen_files.proofs.laws.OutLemmas.{out_ignores, in_keeps}
use Rattle.chosen_files.proofs.laws.PickLemmas.{picked_of}
use Rattle.chosen_files.proofs.laws.ReachedLemmas.{reached_no_link}
use Rattle.chosen_files.proofs.laws.SeenLemmas.{ListsOf, SeenIn, given_listed}

-- ---- what is seen

module _ (tree : Tree) (top : NameList) (Whole : Type 0) (rules : List Rule) where
  abbrev At : NameList → Type 0
  At q = SeenIn tree top Whole rules top [] (Unit {0}) q

  seen_of : (q : NameList) → At q → (q ≡ top) ⊎ IsSeen tree top rules q
  seen_of q ([], e, stands, way, clear) = inl (e ∙ append-nil top)
  seen_of q (first ∷ rest, e, stands, way, clear) =
      inr (record { folder = last.folder; name = last.name; place_is = e ∙ ap (λ (more : NameList). top ++ more) last.names_are; stands = stands; entered = entered })
    where
      last : HasLast (first ∷ rest)
      last = last_of (first ∷ rest) (λ none. cc)

      entered : last.folder ≢ [] → IsIgnored rules last.folder true → ⊥
      entered some (inl says) = clear last.folder (last.name ∷ []) last.names_are some (λ none. cc) says
      entered some (inr (front, above, says)) =
          clear front (above.rest ++ last.name ∷ [])
          (last.names_are ∙ ap (λ (f : NameList). f ++ last.name ∷ []) above.names_are ∙ append_assoc front above.rest (last.name ∷ []))
          above.nonempty (not_empty above.rest last.name) says

  of_seen : IsSome (node_at tree top) → (q : NameList) → (q ≡ top) ⊎ IsSeen tree top rules q → At q
  of_seen there q (inl e) =
      ([], e ∙ sym (append-nil top), subst (λ (p : NameList). IsSome (node_at tree p)) (sym e) there, (λ some. tt), λ front more none some left ignores. none_before front more none some)
    where
      none_before : (front more : NameList) → [] ≡ front ++ more → front ≢ [] → ⊥
      none_before [] more none some = some refl
      none_before (one ∷ front) more none some = cc
  of_seen there q (inr seen) = (
    seen.folder ++ seen.name ∷ [],
    seen.place_is,
    seen.stands,
    (λ some. tt),
    λ front more e some left ignores. above_kept rules seen.folder seen.name front seen.entered (record { rest = more; names_are = e; nonempty = some; shorter = left }) ignores,
  )

-- ---- a whole walk

module _ (tree : Tree) (options : Options) (root : List ℕ) (top : NameList) (rules : List Rule) (plan : Plan) (is : IsTree tree) (how : IsPlainWalk options)
    (leads : reached tree root true ≡ Some top) (planned : IsPlanAt tree options top plan) where
  abbrev pub given : List Item
  given = given_in (leaves_out rules (path_text top)) plan

  abbrev Whole : Type 0
  Whole = length (given_in (leaves_out rules (path_text top)) plan) ≤ options.max_depth

  top_stands : IsSome (node_at tree top)
  top_stands = ap is_some (reached_no_link tree root top is leads).stands

  seen_listed : ListsOf tree top Whole (SeenIn tree top Whole rules top [] (Unit {0})) given
  seen_listed =
      let at = reached_no_link tree root top is leads in
      let there = ap is_some at.stands in
      given_listed tree top options rules (leaves_out rules (path_text top)) at.node plan is how at.stands at.no_link
      (λ names entry stands some directory. (
        (λ e. subst (Ignores rules names) directory (out_ignores tree is top there rules names entry stands some e)),
        λ e ignores. in_keeps tree is top there rules names entry stands some e (subst (Ignores rules names) (sym directory) ignores),
      ))
      (sym (out_top rules (path_text top) (root_entry (path_text top) at.node) refl)) planned

  -- what was given stands at places that are seen, or at the top, however deep the walk goes
  pub record GivesSeen : Type 0 where
    pub places : List NameList
    pub in_order : IsStrictlySortedBy name_list_cmp places
    pub sound : (q : NameList) → In q places → (q ≡ top) ⊎ IsSeen tree top rules q
    pub entries : AreEntriesAt tree top places given

  pub gives_seen : GivesSeen
  gives_seen =
      let l = seen_listed in
      record { places = l.places; in_order = l.in_order; sound = λ q i. seen_of tree top Whole rules q (l.sound q i); entries = l.entries }

  all_given : Whole → ListsAllSeen tree top rules given
  all_given few =
      let l = seen_listed in
      record {
        places = l.places;
        all = record {
          in_order = l.in_order;
          these = λ q. (
            (λ c. seen_of tree top Whole rules q (l.sound q (in_from_contains l.places q c))),
            λ seen. contains_from_in l.places q (l.whole few q (of_seen tree top Whole rules top_stands q seen)),
          );
        };
        entries = l.entries;
      }

pub all_seen : (tree : Tree) (options : Options) (root : List ℕ) (top : NameList) (rules : List Rule) (items : List Item) → IsTree tree → WalksSeen tree options root top rules items
    → ListsAllSeen tree top rules items
all_seen tree options root top rules items is walk =
    subst (ListsAllSeen tree top rules) (sym walk.same)
    (all_given tree options root top rules walk.plan is walk.is_plain walk.leads walk.planned (subst (λ (xs : List Item). length xs ≤ options.max_depth) walk.same walk.few))

-- ---- what is kept

-- the kind of what stands at a place
kind_there : (tree : Tree) (top q : NameList) (entry : DirEntry) → IsEntryAt tree top q entry → is_directory entry.kind ≡ is_directory_at tree q
kind_there tree top q entry at = ap is_directory at.kind_is ∙ of_content at.node.content ∙ sym (ap is_directory_node at.stands)
  where
    of_content : (c : Content) → is_directory (kind_of c) ≡ is_directory_content c
    of_content directory = refl
    of_content (link target) = refl
    of_content (file bytes mode) = refl
    of_content other = refl

module _ (tree : Tree) (is : IsTree tree) (top : NameList) (there : IsSome (node_at tree top)) (rules : List Rule) where
  abbrev out : DirEntry → Bool
  out = leaves_out rules (path_text top)

  -- no rules ignore what stands at a place
  abbrev IsLeft : NameList → Type 0
  IsLeft q = (names : NameList) → q ≡ top ++ names → names ≢ [] → Ignores rules names (is_directory_at tree q) → ⊥

  left_in : (q : NameList) (entry : DirEntry) → IsEntryAt tree top q entry → out entry ≡ false → IsLeft q
  left_in q entry at e names below some ignores =
      in_keeps tree is top there rules names entry (subst (λ (p : NameList). IsEntryAt tree top p entry) below at) some e
      (subst (Ignores rules names) (sym (kind_there tree top q entry at)) ignores)

  -- an entry within the top that is left out is ignored
  left_out : (q : NameList) (entry : DirEntry) → IsEntryAt tree top q entry → IsWithin top q → out entry ≡ true → IsLeft q → ⊥
  left_out q entry at ([], below) e left =
      let none : entry.depth ≡ 0 = (let d = at.depth_is in let l = ap length (below ∙ append-nil top) in omega (arith, d, l)) in
      false≢true (out_top rules (path_text top) entry none ∙ e)
  left_out q entry at (name ∷ names, below) e left =
      left (name ∷ names) below (λ none. cc)
      (subst (Ignores rules (name ∷ names)) (kind_there tree top q entry at)
      (out_ignores tree is top there rules (name ∷ names) entry (subst (λ (p : NameList). IsEntryAt tree top p entry) below at) (λ none. cc) e))

  -- the places whose entries aren't left out
  pub record KeepsAt (places : List NameList) (items : List Item) : Type 0 where
    pub kept : List NameList
    pub in_order : IsStrictlySortedBy name_list_cmp kept
    pub entries : AreEntriesAt tree top kept items
    pub these : (q : NameList) → In q kept ↔ (In q places × IsLeft q)

  keeps_one : (place : NameList) (places : List NameList) (entry : DirEntry) (items : List Item) → IsEntryAt tree top place entry → AllByRecursion (λ q. name_list_cmp place q ≡ Less) places
      → out entry ≡ false → KeepsAt places items → KeepsAt (place ∷ places) (Ok entry ∷ items)
  unfolding IsStrictlySortedBy
  keeps_one place places entry items at first e rest = record {
    kept = place ∷ rest.kept;
    in_order = (all_from_in (λ q. name_list_cmp place q ≡ Less) rest.kept (λ q i. in_from_all (λ q. name_list_cmp place q ≡ Less) places first q ((rest.these q).0 i).0), rest.in_order);
    entries = (at, rest.entries);
    these = λ q. (from_in q, to_in q);
  }
    where
      from_in : (q : NameList) → In q (place ∷ rest.kept) → In q (place ∷ places) × IsLeft q
      from_in q (inl same) = (inl same, subst IsLeft same (left_in place entry at e))
      from_in q (inr i) = let r = (rest.these q).0 i in (inr r.0, r.1)

      to_in : (q : NameList) → In q (place ∷ places) × IsLeft q → In q (place ∷ rest.kept)
      to_in q (inl same, left) = inl same
      to_in q (inr i, left) = inr ((rest.these q).1 (i, left))

  passes_one : (place : NameList) (places : List NameList) (entry : DirEntry) (items : List Item) → IsEntryAt tree top place entry → IsWithin top place
      → out entry ≡ true → KeepsAt places items → KeepsAt (place ∷ places) items
  passes_one place places entry items at within e rest = record {
    kept = rest.kept;
    in_order = rest.in_order;
    entries = rest.entries;
    these = λ q. ((λ i. let r = (rest.these q).0 i in (inr r.0, r.1)), to_in q);
  }
    where
      to_in : (q : NameList) → In q (place ∷ places) × IsLeft q → In q rest.kept
      to_in q (inl same, left) = absurd (left_out place entry at within e (subst IsLeft (sym same) left))
      to_in q (inr i, left) = (rest.these q).1 (i, left)

  pub keeps_at : (places : List NameList) (items : List Item) → AreEntriesAt tree top places items → AllByRecursion (IsWithin top) places → IsStrictlySortedBy name_list_cmp places
      → KeepsAt places (gathered_of (leaves_out rules (path_text top)) items)
  unfolding IsStrictlySortedBy
  keeps_at [] [] at within up = record { kept = []; in_order = tt; entries = tt; these = λ q. ((λ i. absurd i), λ c. absurd c.0) }
  keeps_at [] (item ∷ items) at within up = absurd at
  keeps_at (place ∷ places) [] at within up = absurd at
  keeps_at (place ∷ places) (Err error ∷ items) at within up = absurd at
  keeps_at (place ∷ places) (Ok entry ∷ items) at within up = by (leaves_out rules (path_text top) entry) refl (keeps_at places items at.1 within.1 up.1)
    where
      others : List Item
      others = gathered_of (leaves_out rules (path_text top)) items

      by : (b : Bool) → leaves_out rules (path_text top) entry ≡ b → KeepsAt places others → KeepsAt (place ∷ places) (cond (not b) (Ok entry ∷ others) others)
      by true e rest = passes_one place places entry others at.0 within.0 e rest
      by false e rest = keeps_one place places entry others at.0 up.0 e rest

  pub within_of : (q : NameList) → (q ≡ top) ⊎ IsSeen tree top rules q → IsWithin top q
  within_of q (inl e) = ([], e ∙ sym (append-nil top))
  within_of q (inr seen) = (seen.folder ++ seen.name ∷ [], seen.place_is)

  -- no directory is a file with a byte
  file_no_directory : (q : NameList) → IsNonemptyFile tree q → is_directory_at tree q ≡ false
  file_no_directory q (byte, bytes, mode, e) = by (node_at tree q) e
    where
      by : (o : Option Node) → file_node o ≡ Some (byte ∷ bytes, mode) → is_directory_node o ≡ false
      by None e = refl
      by (Some node) e = of_content node.content e
        where
          of_content : (c : Content) → file_content c ≡ Some (byte ∷ bytes, mode) → is_directory_content c ≡ false
          of_content directory e = cc
          of_content (link target) e = refl
          of_content (file bytes mode) e = refl
          of_content other e = refl

  module _ (globs : List (List ℕ)) where
    kept_there : (q : NameList) → (q ≡ top) ⊎ IsSeen tree top rules q → IsLeft q → IsChosen tree top globs q → IsKept tree top globs rules q
    kept_there q (inl e) left chosen = absurd (chosen.proper (append_cancel_left top chosen.names [] (sym chosen.below ∙ e ∙ sym (append-nil top))))
    kept_there q (inr seen) left chosen =
        let names : chosen.names ≡ seen.folder ++ seen.name ∷ [] = append_cancel_left top chosen.names (seen.folder ++ seen.name ∷ []) (sym chosen.below ∙ seen.place_is) in
        record {
          chosen = chosen;
          not_ignored = λ ignored.
              left chosen.names chosen.below chosen.proper
              (subst (Ignores rules chosen.names) (sym (file_no_directory q chosen.is_file))
              (subst (λ (ns : NameList). Ignores rules ns false) (sym names)
              (left_to_rules rules seen.folder seen.name false seen.entered (subst (λ (ns : NameList). IsIgnored rules ns false) names ignored))));
        }

    kept_left : (q : NameList) → IsKept tree top globs rules q → IsLeft q
    kept_left q kept names below some ignores =
        let same : names ≡ kept.chosen.names = append_cancel_left top names kept.chosen.names (sym below ∙ kept.chosen.below) in
        kept.not_ignored (inl (subst (Ignores rules kept.chosen.names) (file_no_directory q kept.chosen.is_file)
        (subst (λ (ns : NameList). Ignores rules ns (is_directory_at tree q)) same ignores)))

    picks_kept : (root : List ℕ) (items : List Item) (paths : List (List ℕ)) → reached tree root true ≡ Some top → ListsAllSeen tree top rules items
        → Picks tree root (path_text top) globs (gathered_of (leaves_out rules (path_text top)) items) paths → ListsKept tree root globs rules paths
    picks_kept root items paths leads lists picks =
        let seen_at : (q : NameList) → In q lists.places → (q ≡ top) ⊎ IsSeen tree top rules q = λ q i. (lists.all.these q).0 (contains_from_in lists.places q i) in
        let within = all_from_in (IsWithin top) lists.places (λ q i. within_of q (seen_at q i)) in
        let k = keeps_at lists.places items lists.entries within lists.all.in_order in
        let inside = all_from_in (IsWithin top) k.kept (λ q i. within_of q (seen_at q ((k.these q).0 i).0)) in
        let of = picked_of tree is top globs there root k.kept (gathered_of (leaves_out rules (path_text top)) items) paths k.entries inside k.in_order picks in
        record {
          top = top;
          leads = leads;
          places = of.chosen;
          kept = record {
            in_order = of.in_order;
            these = λ q. (
              (λ c. let o = (of.these q).0 (in_from_contains of.chosen q c) in let l = (k.these q).0 o.0 in kept_there q (seen_at q l.0) l.1 o.1),
              λ kept. contains_from_in of.chosen q ((of.these q).1 (
                (k.these q).1 (in_from_contains lists.places q ((lists.all.these q).1 (inr (kept_seen tree top globs rules q kept))), kept_left q kept),
                kept.chosen,
              )),
            );
          };
          names = of.names;
          places_are = of.chosen_are;
          paths_are = of.paths_are;
        }

pub picked_kept : (tree : Tree) (options : Options) (root : List ℕ) (top : NameList) (globs : List (List ℕ)) (rules : List Rule) (items : List Item) (paths : List (List ℕ))
    → IsTree tree → WalksSeen tree options root top rules items → Picks tree root (path_text top) globs (gathered_of (leaves_out rules (path_text top)) items) paths
    → ListsKept tree root globs rules paths
picked_kept tree options root top globs rules items paths is walk picks =
    picks_kept tree is top (ap is_some (reached_no_link tree root top is walk.leads).stands) rules globs root items paths walk.leads (all_seen tree options root top rules items is walk) picks
