-- Where the path of a root and of names below it leads.
use Rattle.std.proofs.Common.{◌≡◌, ◌≢◌, ℕ, Bool, true, false, cond, List, [], ◌∷◌, ◌++◌, map, Some, refl, sym, ◌∙◌, ap, subst, inl, inr, append_assoc}
use Rattle.std.specs.Prelude.{IsSome, is_some, Option}
use Rattle.std.specs.List.{join_with_byte}
use Rattle.std.proofs.lemmas.List.{append_cancel_left}
use Rattle.sd_io.specs.Tree.{Name, NameList, Content, directory, link, file, other, Node, Tree, IsTree, IsName, IsNonemptyFile, node_at, file_node, file_content, is_directory_at, is_directory_node, is_directory_content}
use Rattle.sd_io.specs.Paths.{reached}
use Rattle.sd_io.specs.Lists.{directory_of}
use Rattle.sd_io.proofs.PathTextLemmas.{above}
use Rattle.sd_io.proofs.PathLemmas.{reached_no_link}
use Rattle.walk_rest.specs.Plan.{path_below}
use Rattle.walk_rest.proofs.ReachLemmas.{into_directory, leads_below, named_below}
use Rattle.chosen_files.specs.Chosen.{path_from, ListsChosen}
use Rattle.chosen_files.proofs.laws.BelowLemmas.{ends, name_plain, plain_after}
use Rattle.chosen_files.proofs.laws.PlaceLemmas.{In, contains_from_in}

-- ---- one name after another

-- below a text that doesn't end with `/`
below_plain : (folder text : List ℕ) → ends folder ≡ false → path_below folder text ≡ folder ++ 47 ∷ text
below_plain folder text plain = ap (λ b. cond b (folder ++ text) ((folder ++ 47 ∷ []) ++ text)) plain ∙ append_assoc folder (47 ∷ []) text

-- names below a folder are those after the first one below the first one
below_name : (folder : List ℕ) (name : Name) (text : List ℕ) → IsName name → path_below folder (name ++ 47 ∷ text) ≡ path_below (path_below folder name) text
below_name folder name text is = by (ends folder)
  where
    joined : (front : List ℕ) → front ++ (name ++ 47 ∷ text) ≡ path_below (front ++ name) text
    joined front = sym (append_assoc front name (47 ∷ text)) ∙ sym (below_plain (front ++ name) text (plain_after front name (name_plain name is)).plain)

    by : (slash : Bool)
        → cond slash (folder ++ (name ++ 47 ∷ text)) ((folder ++ 47 ∷ []) ++ (name ++ 47 ∷ text)) ≡ path_below (cond slash (folder ++ name) ((folder ++ 47 ∷ []) ++ name)) text
    by true = joined folder
    by false = joined (folder ++ 47 ∷ [])

-- ---- down to a node that is no link

-- what stands as a directory
record IsFolder (tree : Tree) (place : NameList) : Type 0 where
  node : Node
  stands : node_at tree place ≡ Some node
  there : is_directory_content node.content ≡ true

folder_there : (tree : Tree) (place : NameList) → is_directory_at tree place ≡ true → IsFolder tree place
folder_there tree place there = by (node_at tree place) refl there
  where
    by : (found : Option Node) → node_at tree place ≡ found → is_directory_node found ≡ true → IsFolder tree place
    by Option.None stands e = cc
    by (Some node) stands e = record { node = node; stands = stands; there = e }

module _ (tree : Tree) (is : IsTree tree) where
  -- from a directory
  down : (path : List ℕ) (place : NameList) (name : Name) (rest : NameList) (node : Node) → directory_of tree path ≡ Some place
      → node_at tree (place ++ name ∷ rest) ≡ Some node → ((target : List ℕ) → node.content ≢ link target)
      → reached tree (path_from path (name ∷ rest)) true ≡ Some (place ++ name ∷ rest)
  down path place name [] node into stands no_link =
      reached_no_link tree (path_below path name) true (place ++ name ∷ []) node (named_below tree path place name (is.names place name (ap is_some stands)) into) stands no_link
  down path place name (next ∷ rest) node into stands no_link =
      let below = place ++ name ∷ [] in
      let whole : below ++ next ∷ rest ≡ place ++ name ∷ next ∷ rest = append_assoc place (name ∷ []) (next ∷ rest) in
      let stands_below : node_at tree (below ++ next ∷ rest) ≡ Some node = ap (node_at tree) whole ∙ stands in
      let folder = folder_there tree below (is.parents below next (above tree is below next rest (ap is_some stands_below))) in
      let first = is.names place name (ap is_some folder.stands) in
      let onward = leads_below tree path place name folder.node is into folder.stands folder.there in
      ap (λ (p : List ℕ). reached tree p true) (below_name path name (join_with_byte 47 (next ∷ rest)) first)
      ∙ down (path_below path name) below next rest node onward stands_below no_link
      ∙ ap (λ (q : NameList). Some q) whole

  -- from what a root leads to
  pub root_leads : (root : List ℕ) (top names : NameList) (node : Node) → reached tree root true ≡ Some top → names ≢ []
      → node_at tree (top ++ names) ≡ Some node → ((target : List ℕ) → node.content ≢ link target)
      → reached tree (path_from root names) true ≡ Some (top ++ names)
  root_leads root top [] node leads some stands no_link = absurd (some refl)
  root_leads root top (name ∷ rest) node leads some stands no_link =
      let there = is.parents top name (above tree is top name rest (ap is_some stands)) in
      down root top name rest node (into_directory tree root top leads there) stands no_link

  -- ---- files

  -- a regular file is no link
  file_no_link : (content : Content) (target : List ℕ) → IsSome (file_content content) → content ≢ link target
  file_no_link directory target f e = cc
  file_no_link (link to) target f e = cc
  file_no_link (file bytes mode) target f e = cc
  file_no_link other target f e = cc

  pub file_leads : (root : List ℕ) (top names : NameList) → reached tree root true ≡ Some top → names ≢ [] → IsNonemptyFile tree (top ++ names)
      → reached tree (path_from root names) true ≡ Some (top ++ names)
  file_leads root top names leads some (byte, bytes, mode, holds) = by (node_at tree (top ++ names)) refl holds
    where
      by : (found : Option Node) → node_at tree (top ++ names) ≡ found → file_node found ≡ Some (byte ∷ bytes, mode)
          → reached tree (path_from root names) true ≡ Some (top ++ names)
      by Option.None stands e = cc
      by (Some node) stands e = root_leads root top names node leads some stands (λ target. file_no_link node.content target (ap is_some e))

  module _ (root : List ℕ) (globs paths : List (List ℕ)) (listed : ListsChosen tree root globs paths) where
    in_map : (names : List NameList) (below : NameList) → In below names → In (listed.top ++ below) (map (λ names. listed.top ++ names) names)
    in_map (first ∷ names) below (inl e) = inl (ap (λ (q : NameList). listed.top ++ q) e)
    in_map (first ∷ names) below (inr i) = inr (in_map names below i)
    in_map [] below i = absurd i

    -- the names of a chosen file
    pub chosen_names : (below : NameList) → In below listed.names → (below ≢ []) × IsNonemptyFile tree (listed.top ++ below)
    chosen_names below i =
        let there = subst (λ (places : List NameList). In (listed.top ++ below) places) (sym listed.places_are) (in_map listed.names below i) in
        let chosen = (listed.chosen.these (listed.top ++ below)).0 (contains_from_in listed.places (listed.top ++ below) there) in
        ((λ none. chosen.proper (sym (append_cancel_left listed.top below chosen.names chosen.below) ∙ none)), chosen.is_file)

    lead_each : (names : List NameList) → ((below : NameList) → In below names → (below ≢ []) × IsNonemptyFile tree (listed.top ++ below))
        → map (λ path. reached tree path true) (map (path_from root) names) ≡ map (λ place. Some place) (map (λ below. listed.top ++ below) names)
    lead_each [] files = refl
    lead_each (below ∷ names) files =
        let (some, is_file) = files below (inl refl) in
        let first = file_leads root listed.top below listed.leads some is_file in
        let rest = lead_each names (λ q i. files q (inr i)) in
        λ i. first i ∷ rest i

    -- the path of each chosen file leads to it
    pub chosen_lead : map (λ path. reached tree path true) paths ≡ map (λ place. Some place) listed.places
    chosen_lead =
        ap (map (λ path. reached tree path true)) listed.paths_are
        ∙ lead_each listed.names chosen_names
        ∙ ap (map (λ place. Some place)) (sym listed.places_are)
