-- The texts of places: where they lead, and what they name.
use Rattle.std.proofs.Common.{◌≡◌, ◌≢◌, ℕ, zero, suc, List, [], ◌∷◌, ◌++◌, get_or, refl, sym, ap, ◌∙◌, subst, Bool, true, false, cond, eqb, append_assoc, append-nil, ◌⊎◌, inl, inr}
use Rattle.std.specs.Prelude.{◌||◌, not, Option, Some, None, IsSome, is_some, IsTrue, All}
use Rattle.std.specs.List.{AllByRecursion, join_with_byte}
use Rattle.std.specs.Option.{option_and_then}
use Rattle.std.specs.Str.{bytes_eq}
use Rattle.std.specs.Cmp.Lexicographic.{bytes_decides}
use Rattle.std.proofs.lemmas.Bool.{eqb-true}
use Rattle.std.proofs.lemmas.List.{get_or_default}
use Rattle.std.proofs.lemmas.List.Splits.{slice_split_none, slice_split_at}
use Rattle.sd_io.specs.Tree.{Name, NameList, Content, directory, link, file, other, Node, Tree, IsTree, IsName, node_at, is_directory_node, is_directory_content, is_directory_at}
use Rattle.sd_io.specs.Paths.{Linking, through_node, steps, followed, links_most, parts_of, pieces_of, kept, is_dropped, is_up, reached, named, folder_and_name, child_in}
use Rattle.sd_io.specs.Lists.{directory_of}
use Rattle.sd_io.specs.Files.{path_text}
use Rattle.sd_io.proofs.laws.PathLemmas.{reached_no_link, reached_not_followed}

-- ---- the parts of a place's text

pub differs : (xs ys : List ℕ) → xs ≢ ys → bytes_eq xs ys ≡ false
differs xs ys ne = by (bytes_eq xs ys) refl
  where
    by : (b : Bool) → bytes_eq xs ys ≡ b → bytes_eq xs ys ≡ false
    by true e = absurd (ne ((bytes_decides xs ys).0 e))
    by false e = e

no_slashes : (name : Name) → IsName name → All (λ b. eqb b 47 ≡ false) name
no_slashes name is k d lt = by (eqb (get_or name k d) 47) refl
  where
    by : (b : Bool) → eqb (get_or name k d) 47 ≡ b → eqb (get_or name k d) 47 ≡ false
    by true e = absurd (is.no_slash (k, lt, get_or_default name k 47 d lt ∙ eqb-true (get_or name k d) 47 e))
    by false e = e

not_up : (name : Name) → IsName name → is_up name ≡ false
not_up name is = differs name (46 ∷ 46 ∷ []) is.not_dots

not_dropped : (name : Name) → IsName name → is_dropped name ≡ false
not_dropped name is = ap (λ b. b || bytes_eq name (46 ∷ [])) (differs name [] is.nonempty) ∙ differs name (46 ∷ []) is.not_dot

name_kept : (name : Name) (pieces : List Name) → IsName name → kept (name ∷ pieces) ≡ name ∷ kept pieces
name_kept name pieces is = ap (λ b. cond (not b) (name ∷ kept pieces) (kept pieces)) (not_dropped name is)

joined_parts : (names : NameList) → AllByRecursion IsName names → kept (pieces_of (join_with_byte 47 names)) ≡ names
joined_parts [] are = refl
joined_parts (name ∷ []) are = ap kept (slice_split_none (λ b. eqb b 47) name (no_slashes name are.0)) ∙ name_kept name [] are.0
joined_parts (name ∷ next ∷ names) are =
    let rest = join_with_byte 47 (next ∷ names) in
    ap kept (slice_split_at (λ b. eqb b 47) name 47 rest (no_slashes name are.0) refl)
    ∙ name_kept name (pieces_of rest) are.0
    ∙ ap (λ (q : NameList). name ∷ q) (joined_parts (next ∷ names) are.1)

-- the parts of the text are the names
parts_of_text : (place : NameList) → AllByRecursion IsName place → parts_of (path_text place) ≡ place
unfolding parts_of
parts_of_text place are = joined_parts place are

-- ---- down from the top

pub directory_stands : (o : Option Node) → is_directory_node o ≡ true → IsSome o
directory_stands None e = cc
directory_stands (Some node) e = refl

directory_is_no_link : (o : Option Node) → is_directory_node o ≡ true → (node : Node) × (o ≡ Some node) × ((target : List ℕ) → node.content ≢ link target)
directory_is_no_link None e = cc
directory_is_no_link (Some node) e = (node, refl, by node.content e)
  where
    by : (c : Content) → is_directory_content c ≡ true → (target : List ℕ) → c ≢ link target
    by directory e target is = cc
    by (link way) e target is = cc
    by (file bytes mode) e target is = cc
    by other e target is = cc

-- from a directory a walk goes on
through_directory : (linking : Linking) (onward : NameList → Option NameList) (follow : Bool) (folder : NameList) (part : Name) (parts : List Name) (o : Option Node)
    → is_directory_node o ≡ true → through_node linking onward follow folder part parts o ≡ onward (folder ++ part ∷ [])
through_directory linking onward follow folder part parts None e = cc
through_directory linking onward follow folder part parts (Some node) e = by node.content node.dev node.ino e
  where
    by : (c : Content) (dev ino : ℕ) → is_directory_content c ≡ true → through_node linking onward follow folder part parts (Some (record { content = c; dev = dev; ino = ino })) ≡ onward (folder ++ part ∷ [])
    by directory dev ino e = refl
    by (link way) dev ino e = cc
    by (file bytes mode) dev ino e = cc
    by other dev ino e = cc

names_push : (names : NameList) (name : Name) → AllByRecursion IsName names → IsName name → AllByRecursion IsName (names ++ name ∷ [])
names_push [] name are is = (is, tt)
names_push (first ∷ names) name are is = (are.0, names_push names name are.1 is)

last_part : (front : List Name) (name : Name) → is_up name ≡ false → folder_and_name (front ++ name ∷ []) ≡ Some (front, name)
last_part [] name e = let pick : Bool → Option (List Name × Name) = λ b. cond b None (Some ([], name)) in ap pick e
last_part (part ∷ []) name e = ap (option_and_then (λ (folder, name). Some (part ∷ folder, name))) (last_part [] name e)
last_part (part ∷ next ∷ front) name e = ap (option_and_then (λ (folder, name). Some (part ∷ folder, name))) (last_part (next ∷ front) name e)

module _ (tree : Tree) (is : IsTree tree) where
  -- what stands above what stands
  pub above : (front : NameList) (name : Name) (rest : NameList) → IsSome (node_at tree (front ++ name ∷ rest)) → IsSome (node_at tree (front ++ name ∷ []))
  above front name [] stands = stands
  above front name (next ∷ rest) stands =
      let place = front ++ name ∷ [] in
      directory_stands (node_at tree place)
      (is.parents place next (above place next rest (subst (λ (q : NameList). IsSome (node_at tree q)) (sym (append_assoc front (name ∷ []) (next ∷ rest))) stands)))

  names_from : (front rest : NameList) → IsSome (node_at tree (front ++ rest)) → AllByRecursion IsName rest
  names_from front [] stands = tt
  names_from front (name ∷ rest) stands = (
    is.names front name (above front name rest stands),
    names_from (front ++ name ∷ []) rest (subst (λ (q : NameList). IsSome (node_at tree q)) (sym (append_assoc front (name ∷ []) rest)) stands),
  )

  -- the names of a place where something stands are names
  pub names_of : (place : NameList) → IsSome (node_at tree place) → AllByRecursion IsName place
  names_of place stands = names_from [] place stands

  directory_above : (front rest : NameList) → is_directory_at tree (front ++ rest) ≡ true → is_directory_at tree front ≡ true
  directory_above front [] there = subst (λ (q : NameList). is_directory_at tree q ≡ true) (append-nil front) there
  directory_above front (name ∷ rest) there = is.parents front name (above front name rest (directory_stands (node_at tree (front ++ name ∷ rest)) there))

  -- the names of a directory lead to it from above
  walk_down : (linking : Linking) (at rest : NameList) → is_directory_at tree (at ++ rest) ≡ true → AllByRecursion IsName rest → steps tree linking true at rest ≡ Some (at ++ rest)
  walk_down linking at [] there are = ap (λ (q : NameList). Some q) (sym (append-nil at))
  walk_down linking at (name ∷ rest) there are =
      let next = at ++ name ∷ [] in
      let whole : next ++ rest ≡ at ++ name ∷ rest = append_assoc at (name ∷ []) rest in
      let below : is_directory_at tree (next ++ rest) ≡ true = subst (λ (q : NameList). is_directory_at tree q ≡ true) (sym whole) there in
      let on : is_directory_at tree next ≡ true = directory_above next rest below in
      rw (directory_above at (name ∷ rest) there, not_up name are.0)
      (through_directory linking (λ q. steps tree linking true q rest) true at name rest (node_at tree next) on
      ∙ walk_down linking next rest below are.1
      ∙ ap (λ (q : NameList). Some q) whole)

  followed_down : (links : ℕ) (place : NameList) → is_directory_at tree place ≡ true → followed tree links true [] place ≡ Some place
  followed_down zero place there = walk_down _ [] place there (names_of place (directory_stands (node_at tree place) there))
  followed_down (suc links) place there = walk_down _ [] place there (names_of place (directory_stands (node_at tree place) there))

  -- the text of a name in a directory names it
  pub text_names : (folder : NameList) (name : Name) → IsTrue (is_directory_at tree folder) → IsName name → named tree (path_text (folder ++ name ∷ [])) ≡ Some (folder ++ name ∷ [])
  unfolding named
  text_names folder name there is_name =
      let are = names_of folder (directory_stands (node_at tree folder) there) in
      ap (λ parts. option_and_then (λ (folder, name). option_and_then (child_in tree name) (followed tree links_most true [] folder)) (folder_and_name parts)) (parts_of_text (folder ++ name ∷ []) (names_push folder name are is_name))
      ∙ ap (option_and_then (λ (folder, name). option_and_then (child_in tree name) (followed tree links_most true [] folder))) (last_part folder name (not_up name is_name))
      ∙ ap (option_and_then (child_in tree name)) (followed_down links_most folder there)
      ∙ ap (λ b. cond b (Some (folder ++ name ∷ [])) None) there

  standing_named : (folder : NameList) (name : Name) (node : Node) → node_at tree (folder ++ name ∷ []) ≡ Some node → named tree (path_text (folder ++ name ∷ [])) ≡ Some (folder ++ name ∷ [])
  standing_named folder name node stands =
      let some : IsSome (node_at tree (folder ++ name ∷ [])) = ap is_some stands in
      text_names folder name (is.parents folder name some) (is.names folder name some)

-- a place is the top, or a name below a folder
split_last : (place : NameList) → (place ≡ []) ⊎ ((folder : NameList) × (name : Name) × (place ≡ folder ++ name ∷ []))
split_last [] = inl refl
split_last (first ∷ rest) = elim (split_last rest) [
  | inl e ↦ inr ([], first, ap (λ (q : NameList). first ∷ q) e)
  | inr s ↦ inr (first ∷ s.0, s.1, ap (λ (q : NameList). first ∷ q) s.2)
]

-- the text of the top leads there
top_reached : (tree : Tree) (follow : Bool) → reached tree (path_text []) follow ≡ Some []
unfolding reached parts_of
top_reached tree follow = refl

-- the text of a place leads there, where no link is followed
pub text_not_followed : (tree : Tree) (place : NameList) (node : Node) → IsTree tree → node_at tree place ≡ Some node → reached tree (path_text place) false ≡ Some place
text_not_followed tree place node is stands = by (split_last place)
  where
    by : (place ≡ []) ⊎ ((folder : NameList) × (name : Name) × (place ≡ folder ++ name ∷ [])) → reached tree (path_text place) false ≡ Some place
    by (inl e) = subst (λ (q : NameList). reached tree (path_text q) false ≡ Some q) (sym e) (top_reached tree false)
    by (inr (folder, name, e)) =
        let there : node_at tree (folder ++ name ∷ []) ≡ Some node = ap (node_at tree) (sym e) ∙ stands in
        subst (λ (q : NameList). reached tree (path_text q) false ≡ Some q) (sym e)
        (reached_not_followed tree (path_text (folder ++ name ∷ [])) (folder ++ name ∷ []) node (standing_named tree is folder name node there) there)

-- and where no link stands there
pub text_no_link : (tree : Tree) (place : NameList) (follow : Bool) (node : Node) → IsTree tree → node_at tree place ≡ Some node → ((target : List ℕ) → node.content ≢ link target) → reached tree (path_text place) follow ≡ Some place
text_no_link tree place follow node is stands no_link = by (split_last place)
  where
    by : (place ≡ []) ⊎ ((folder : NameList) × (name : Name) × (place ≡ folder ++ name ∷ [])) → reached tree (path_text place) follow ≡ Some place
    by (inl e) = subst (λ (q : NameList). reached tree (path_text q) follow ≡ Some q) (sym e) (top_reached tree follow)
    by (inr (folder, name, e)) =
        let there : node_at tree (folder ++ name ∷ []) ≡ Some node = ap (node_at tree) (sym e) ∙ stands in
        subst (λ (q : NameList). reached tree (path_text q) follow ≡ Some q) (sym e)
        (reached_no_link tree (path_text (folder ++ name ∷ [])) follow (folder ++ name ∷ []) node (standing_named tree is folder name node there) there no_link)

-- the text of a directory's place leads to that directory
pub text_directory : (tree : Tree) (place : NameList) → IsTree tree → IsTrue (is_directory_at tree place) → directory_of tree (path_text place) ≡ Some place
text_directory tree place is there =
    let node = directory_is_no_link (node_at tree place) there in
    ap (option_and_then (λ (q : NameList). cond (is_directory_at tree q) (Some q) None)) (text_no_link tree place true node.0 is node.1 node.2)
    ∙ ap (λ b. cond b (Some place) None) there

-- ---- the text of a place below a folder

join_below : (c : ℕ) (xs ys : List (List ℕ)) → xs ≢ [] → ys ≢ [] → join_with_byte c (xs ++ ys) ≡ join_with_byte c xs ++ c ∷ join_with_byte c ys
join_below c [] ys some more = absurd (some refl)
join_below c (x ∷ []) [] some more = absurd (more refl)
join_below c (x ∷ []) (y ∷ ys) some more = refl
join_below c (x ∷ next ∷ xs) ys some more =
    ap (λ (r : List ℕ). x ++ c ∷ r) (join_below c (next ∷ xs) ys (λ e. cc) more) ∙ sym (append_assoc x (c ∷ join_with_byte c (next ∷ xs)) (c ∷ join_with_byte c ys))

pub text_below : (folder names : NameList) → folder ≢ [] → names ≢ [] → path_text (folder ++ names) ≡ path_text folder ++ 47 ∷ join_with_byte 47 names
text_below folder names some more = ap (λ (r : List ℕ). 47 ∷ r) (join_below 47 folder names some more)

-- no text of names is `/` alone
pub top_alone : (place : NameList) → AllByRecursion IsName place → path_text place ≡ path_text [] → place ≡ []
top_alone [] are e = refl
top_alone ([] ∷ []) are e = absurd (are.0.nonempty refl)
top_alone ((b ∷ bytes) ∷ []) are e = cc
top_alone ([] ∷ next ∷ names) are e = absurd (are.0.nonempty refl)
top_alone ((b ∷ bytes) ∷ next ∷ names) are e = cc

pub text_top : (tree : Tree) (place : NameList) → IsTree tree → IsSome (node_at tree place) → path_text place ≡ path_text [] → place ≡ []
text_top tree place is stands e = top_alone place (names_of tree is place stands) e

-- the parts of the text of a place are its names
pub text_parts : (tree : Tree) (place : NameList) → IsTree tree → IsSome (node_at tree place) → parts_of (path_text place) ≡ place
text_parts tree place is stands = parts_of_text place (names_of tree is place stands)
