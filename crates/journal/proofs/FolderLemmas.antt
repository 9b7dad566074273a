-- A path that leads somewhere has its folder there.
use Rattle.std.proofs.Common.{true, false, Bool, cond, ◌≡◌, ℕ, zero, suc, List, [], ◌∷◌, ◌++◌, refl, sym, ◌∙◌, ap, append_assoc}
use Rattle.std.specs.Prelude.{Option, Some, None}
use Rattle.std.specs.Option.{option_and_then}
use Rattle.std.specs.Str.{bytes_eq}
use Rattle.std.specs.List.{AllByRecursion}
use Rattle.sd_io.specs.Tree.{Name, NameList, IsName, Content, directory, link, file, other, Node, Tree, node_at, is_directory_at, file_at}
use Rattle.sd_io.specs.Paths.{Linking, through_node, ends_at_link, steps, followed, links_most, start_of, parts_of, is_up, parent_of, reached, way_of}
use Rattle.sd_io.specs.Lists.{directory_of}
use Rattle.sd_io.specs.Files.{path_text, file_of}
use Rattle.sd_io.proofs.WayLemmas.{by_way, through_some}
use Rattle.journal_text.specs.Paths.{AreNames}
use Rattle.journal_text.proofs.PathLemmas.{place_parts}

-- the directory at a place that is reached
abbrev directory_in : Tree → Option NameList → Option NameList
directory_in tree = option_and_then (λ place. cond (is_directory_at tree place) (Some place) None)

-- before a name no link is the last part
no_end : (parts : List Name) (name : Name) → ends_at_link true (parts ++ name ∷ []) ≡ false
no_end [] name = refl
no_end (part ∷ parts) name = refl

-- a link that is to be followed is not left
followed_end : (parts : List Name) → ends_at_link true parts ≡ false
followed_end [] = refl
followed_end (part ∷ parts) = refl

no_directory : (tree : Tree) (place : NameList) → directory_in tree (Some place) ≡ None → is_directory_at tree place ≡ false
no_directory tree place e = by (is_directory_at tree place) e
  where
    by : (b : Bool) → cond b (Some place) None ≡ None → b ≡ false
    by true e = cc
    by false e = refl

-- where no directory is reached by any way, none is by one name more
way_stuck : (tree : Tree) (a b : Option NameList) (f g : List ℕ → Option NameList) (w : Option Content) → (directory_in tree a ≡ None → b ≡ None)
    → ((target : List ℕ) → directory_in tree (f target) ≡ None → g target ≡ None) → directory_in tree (by_way a a f w) ≡ None → by_way b b g w ≡ None
unfolding by_way
way_stuck tree a b f g None on linked e = on e
way_stuck tree a b f g (Some directory) on linked e = on e
way_stuck tree a b f g (Some (link target)) on linked e = linked target e
way_stuck tree a b f g (Some (file bytes mode)) on linked e = on e
way_stuck tree a b f g (Some other) on linked e = on e

through_stuck : (tree : Tree) (lt lf : Linking) (ot of : NameList → Option NameList) (from : NameList) (part : Name) (parts : List Name) (name : Name) (o : Option Node)
    → (directory_in tree (ot (from ++ part ∷ [])) ≡ None → of (from ++ part ∷ []) ≡ None)
    → ((target : List ℕ) → directory_in tree (lt from target parts) ≡ None → lf from target (parts ++ name ∷ []) ≡ None)
    → directory_in tree (through_node lt ot true from part parts o) ≡ None → through_node lf of true from part (parts ++ name ∷ []) o ≡ None
through_stuck tree lt lf ot of from part parts name None on links e = refl
through_stuck tree lt lf ot of from part parts name (Some node) on links e =
    through_some lf of true from part (parts ++ name ∷ []) node
    ∙ way_stuck tree _ _ _ _ (way_of node.content) on (λ target. rw (followed_end parts, no_end parts name) (links target)) (ap (directory_in tree) (sym (through_some lt ot true from part parts node)) ∙ e)

module _ (tree : Tree) (name : Name) where
  walk_stuck : (lt lf : Linking) → ((from : NameList) (target : List ℕ) (rest : List Name) → directory_in tree (lt from target rest) ≡ None → lf from target (rest ++ name ∷ []) ≡ None)
      → (from : NameList) (parts : List Name) → directory_in tree (steps tree lt true from parts) ≡ None → steps tree lf true from (parts ++ name ∷ []) ≡ None
  walk_stuck lt lf links from [] e = rw (no_directory tree from e)
  walk_stuck lt lf links from (part ∷ parts) e =
      let place = from ++ part ∷ [] in
      elim (is_directory_at tree from) as (λ is.
      directory_in tree (cond is (cond (is_up part) (steps tree lt true (parent_of from) parts) (through_node lt (λ next. steps tree lt true next parts) true from part parts (node_at tree place))) None) ≡ None
      → cond is (cond (is_up part) (steps tree lf true (parent_of from) (parts ++ name ∷ [])) (through_node lf (λ next. steps tree lf true next (parts ++ name ∷ [])) true from part (parts ++ name ∷ []) (node_at tree place))) None ≡ None) [
        | true ↦ elim (is_up part) as (λ up.
            directory_in tree (cond up (steps tree lt true (parent_of from) parts) (through_node lt (λ next. steps tree lt true next parts) true from part parts (node_at tree place))) ≡ None
            → cond up (steps tree lf true (parent_of from) (parts ++ name ∷ [])) (through_node lf (λ next. steps tree lf true next (parts ++ name ∷ [])) true from part (parts ++ name ∷ []) (node_at tree place)) ≡ None) [
              | true ↦ walk_stuck lt lf links (parent_of from) parts
              | false ↦ through_stuck tree lt lf (λ next. steps tree lt true next parts) (λ next. steps tree lf true next (parts ++ name ∷ [])) from part parts name (node_at tree place) (walk_stuck lt lf links place parts) (λ target. links from target parts)
            ]
        | false ↦ λ h. refl
      ] e

  -- with links followed too
  followed_stuck : (links : ℕ) (from : NameList) (parts : List Name) → directory_in tree (followed tree links true from parts) ≡ None → followed tree links true from (parts ++ name ∷ []) ≡ None
  followed_stuck zero from parts e = walk_stuck (λ at target rest. None) (λ at target rest. None) (λ at target rest h. refl) from parts e
  followed_stuck (suc links) from parts e =
      walk_stuck _ _
      (λ at target rest. elim (bytes_eq target []) as (λ b. directory_in tree (cond b None (followed tree links true (start_of at target) (parts_of target ++ rest))) ≡ None
      → cond b None (followed tree links true (start_of at target) (parts_of target ++ (rest ++ name ∷ []))) ≡ None) [
        | true ↦ λ h. refl
        | false ↦ λ h. ap (followed tree links true (start_of at target)) (sym (append_assoc (parts_of target) rest (name ∷ []))) ∙ followed_stuck links (start_of at target) (parts_of target ++ rest) h
      ])
      from parts e

-- the parts of a folder's text
front_names : (folder : NameList) (name : Name) → AllByRecursion IsName (folder ++ name ∷ []) → AllByRecursion IsName folder
front_names [] name are = tt
front_names (first ∷ folder) name are = (are.0, front_names folder name are.1)

folder_parts : (folder : NameList) (name : Name) → AreNames (folder ++ name ∷ []) → parts_of (path_text folder) ≡ folder
unfolding parts_of
folder_parts [] name are = refl
folder_parts (first ∷ folder) name are = place_parts (first ∷ folder) (record { some = λ e. cc; each = front_names (first ∷ folder) name are.each })

-- where the folder leads to no directory, the path leads to no file
pub no_folder : (tree : Tree) (folder : NameList) (name : Name) → AreNames (folder ++ name ∷ []) → directory_of tree (path_text folder) ≡ None → file_of tree (path_text (folder ++ name ∷ [])) ≡ None
unfolding reached
no_folder tree folder name are none =
    let parts : parts_of (path_text (folder ++ name ∷ [])) ≡ folder ++ name ∷ [] = place_parts (folder ++ name ∷ []) are in
    let stuck = followed_stuck tree name links_most [] folder (ap (λ (p : List Name). directory_in tree (followed tree links_most true [] p)) (sym (folder_parts folder name are)) ∙ none) in
    ap (option_and_then (file_at tree)) (ap (followed tree links_most true []) parts ∙ stuck)
