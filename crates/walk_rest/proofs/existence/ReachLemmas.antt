-- Where the path of a name in a directory leads, and a path whose last link isn't followed.
use Rattle.std.proofs.Common.{◌≡◌, ◌≢◌, ◌-◌, ℕ, zero, suc, List, [], ◌∷◌, ◌++◌, length, get_or, refl, sym, ap, ◌∙◌, Bool, true, false, cond, arith, append_assoc, append-nil}
use Rattle.std.specs.Prelude.{◌==◌, nat_eq, Option, Some, None, is_some, All}
use Rattle.std.specs.List.{ends_with, slice_split, onto_first}
use Rattle.std.specs.Option.{option_and_then}
use Rattle.std.specs.Str.{bytes_eq}
use Rattle.std.proofs.lemmas.Bool.{eqb-true}
use Rattle.std.proofs.lemmas.List.{get_or_default}
use Rattle.std.proofs.lemmas.List.Elements.{filter-append}
use Rattle.std.proofs.lemmas.List.Splits.{slice_split_none}
use Rattle.std.proofs.lemmas.Option.{same_Some, option_and_then_some, cond_some}
use Rattle.sd_io.specs.Tree.{Name, NameList, Content, directory, link, file, other, Node, Tree, IsTree, IsName, node_at, is_directory_node, is_directory_content, is_directory_at}
use Rattle.sd_io.specs.Paths.{Linking, through_node, steps, followed, links_most, start_of, parts_of, parent_of, pieces_of, kept, is_up, reached, named, folder_and_name, child_in}
use Rattle.sd_io.specs.Lists.{directory_of}
use Rattle.sd_io.proofs.WayLemmas.{cond_some_then}
use Rattle.sd_io.proofs.PathTextLemmas.{differs}
use Rattle.sd_io.proofs.PathLemmas.{reached_no_link}
use Rattle.walk_rest.specs.Plan.{path_below, node_to}

-- ---- the parts of a path and a name

onto_append : (x : ℕ) (part : List ℕ) (parts more pieces : List (List ℕ)) → pieces ≡ part ∷ parts
    → onto_first x (pieces ++ more) ≡ onto_first x pieces ++ more
onto_append x part parts more [] e = cc
onto_append x part parts more (first ∷ pieces) e = refl

split_some : (p : ℕ → Bool) (xs : List ℕ) → (part : List ℕ) × (parts : List (List ℕ)) × (slice_split p xs ≡ part ∷ parts)
split_some p [] = ([], [], refl)
split_some p (x ∷ xs) = by (p x) (slice_split p xs)
  where
    by : (b : Bool) (pieces : List (List ℕ))
        → (part : List ℕ) × (parts : List (List ℕ)) × (cond b ([] ∷ pieces) (onto_first x pieces) ≡ part ∷ parts)
    by true pieces = ([], pieces, refl)
    by false [] = (x ∷ [], [], refl)
    by false (first ∷ pieces) = (x ∷ first, pieces, refl)

split_append : (p : ℕ → Bool) (xs : List ℕ) (y : ℕ) (ys : List ℕ) → p y ≡ true
    → slice_split p (xs ++ y ∷ ys) ≡ slice_split p xs ++ slice_split p ys
split_append p [] y ys e = ap (λ b. cond b ([] ∷ slice_split p ys) (onto_first y (slice_split p ys))) e
split_append p (x ∷ xs) y ys e =
    ap (λ (pieces : List (List ℕ)). cond (p x) ([] ∷ pieces) (onto_first x pieces)) (split_append p xs y ys e) ∙ by (p x)
  where
    by : (b : Bool)
        → cond b ([] ∷ (slice_split p xs ++ slice_split p ys)) (onto_first x (slice_split p xs ++ slice_split p ys)) ≡ cond b ([] ∷ slice_split p xs) (onto_first x (slice_split p xs)) ++ slice_split p ys
    by true = refl
    by false = let s = split_some p xs in onto_append x s.0 s.1 (slice_split p ys) (slice_split p xs) s.2

-- the parts of two texts with a `/` between them
pub parts_append : (front text : List ℕ) → parts_of (front ++ 47 ∷ text) ≡ parts_of front ++ parts_of text
unfolding parts_of
parts_append front text =
    ap kept (split_append (λ b. b == 47) front 47 text refl) ∙ filter-append _ (pieces_of front) (pieces_of text)

ends_cons : (x y : ℕ) (ys : List ℕ) → ends_with nat_eq (x ∷ y ∷ ys) (47 ∷ []) ≡ ends_with nat_eq (y ∷ ys) (47 ∷ [])
ends_cons x y ys = let e : length (x ∷ y ∷ ys) - 1 ≡ suc (length (y ∷ ys) - 1) = omega arith in rw e refl

slash_of : (x : ℕ) → ends_with nat_eq (x ∷ []) (47 ∷ []) ≡ true → x ≡ 47
slash_of x e = grind arith

pub ends_at_slash : (text : List ℕ) → ends_with nat_eq text (47 ∷ []) ≡ true → (front : List ℕ) × (text ≡ front ++ 47 ∷ [])
ends_at_slash [] e = cc
ends_at_slash (x ∷ []) e = ([], ap (λ (b : ℕ). b ∷ []) (slash_of x e))
ends_at_slash (x ∷ y ∷ ys) e =
    let rest = ends_at_slash (y ∷ ys) (sym (ends_cons x y ys) ∙ e) in (x ∷ rest.0, ap (λ (text : List ℕ). x ∷ text) rest.1)

no_slashes : (name : Name) → IsName name → All (λ b. (b == 47) ≡ false) name
no_slashes name is k d lt = by (get_or name k d == 47) refl
  where
    by : (b : Bool) → (get_or name k d == 47) ≡ b → (get_or name k d == 47) ≡ false
    by true e = absurd (is.no_slash (k, lt, get_or_default name k 47 d lt ∙ eqb-true (get_or name k d) 47 e))
    by false e = e

-- a name is the one part of its text
name_parts : (name : Name) → IsName name → parts_of name ≡ name ∷ []
unfolding parts_of
name_parts name is =
    ap kept (slice_split_none (λ b. b == 47) name (no_slashes name is))
    ∙ rw (differs name [] is.nonempty, differs name (46 ∷ []) is.not_dot) refl

-- the name is the last part below a folder
parts_below : (path : List ℕ) (name : Name) → IsName name → parts_of (path_below path name) ≡ parts_of path ++ name ∷ []
unfolding parts_of
parts_below path name is = by (ends_with nat_eq path (47 ∷ [])) refl
  where
    joined : (front : List ℕ) → parts_of (front ++ 47 ∷ name) ≡ parts_of front ++ name ∷ []
    joined front = parts_append front name ∙ ap (λ (parts : List Name). parts_of front ++ parts) (name_parts name is)

    by : (b : Bool) → ends_with nat_eq path (47 ∷ []) ≡ b
        → parts_of (cond b (path ++ name) ((path ++ 47 ∷ []) ++ name)) ≡ parts_of path ++ name ∷ []
    by true e =
        let cut = ends_at_slash path e in
        ap (λ (text : List ℕ). parts_of (text ++ name)) cut.1
        ∙ ap parts_of (append_assoc cut.0 (47 ∷ []) name)
        ∙ joined cut.0
        ∙ ap (λ (parts : List Name). parts ++ name ∷ []) (sym (ap parts_of cut.1 ∙ parts_append cut.0 [] ∙ append-nil (parts_of cut.0)))
    by false e = ap parts_of (append_assoc path (47 ∷ []) name) ∙ joined path

last_part : (front : List Name) (name : Name) → is_up name ≡ false → folder_and_name (front ++ name ∷ []) ≡ Some (front, name)
last_part [] name e = let pick : Bool → Option (List Name × Name) = λ b. cond b None (Some ([], name)) in ap pick e
last_part (part ∷ []) name e = ap (option_and_then (λ (folder, name). Some (part ∷ folder, name))) (last_part [] name e)
last_part (part ∷ next ∷ front) name e = ap (option_and_then (λ (folder, name). Some (part ∷ folder, name))) (last_part (next ∷ front) name e)

-- ---- where they lead

-- the directory that a path leads to
pub record LeadsInto (tree : Tree) (path : List ℕ) (place : NameList) : Type 0 where
  pub leads : reached tree path true ≡ Some place
  pub is_there : is_directory_at tree place ≡ true

pub leads_into : (tree : Tree) (path : List ℕ) (place : NameList) → directory_of tree path ≡ Some place → LeadsInto tree path place
leads_into tree path place e =
    option_and_then_some _ (reached tree path true) place e
    (λ at leads there. let test = cond_some (is_directory_at tree at) at place there in
    record { leads = leads ∙ ap (λ (q : NameList). Some q) test.1; is_there = sym (ap (is_directory_at tree) test.1) ∙ test.0 })

pub into_directory : (tree : Tree) (path : List ℕ) (place : NameList) → reached tree path true ≡ Some place
    → is_directory_at tree place ≡ true → directory_of tree path ≡ Some place
into_directory tree path place leads there =
    ap (option_and_then (λ (q : NameList). cond (is_directory_at tree q) (Some q) None)) leads ∙ ap (λ b. cond b (Some place) None) there

-- a path that leads anywhere is followed
reached_followed : (tree : Tree) (path : List ℕ) (follow : Bool) (place : NameList) → reached tree path follow ≡ Some place
    → followed tree links_most follow [] (parts_of path) ≡ Some place
unfolding reached
reached_followed tree path follow place e = by (bytes_eq path []) e
  where
    by : (b : Bool) → cond b None (followed tree links_most follow [] (parts_of path)) ≡ Some place
        → followed tree links_most follow [] (parts_of path) ≡ Some place
    by true e = cc
    by false e = e

-- the path of a name in a directory names it
pub named_below : (tree : Tree) (path : List ℕ) (place : NameList) (name : Name) → IsName name → directory_of tree path ≡ Some place
    → named tree (path_below path name) ≡ Some (place ++ name ∷ [])
unfolding named
named_below tree path place name is e =
    let into = leads_into tree path place e in
    let onward = option_and_then (λ (folder, name). option_and_then (child_in tree name) (followed tree links_most true [] folder)) in
    ap (λ parts. onward (folder_and_name parts)) (parts_below path name is)
    ∙ ap onward (last_part (parts_of path) name (differs name (46 ∷ 46 ∷ []) is.not_dots))
    ∙ ap (option_and_then (child_in tree name)) (reached_followed tree path true place into.leads)
    ∙ ap (λ b. cond b (Some (place ++ name ∷ [])) None) into.is_there

directory_no_link : (c : Content) → is_directory_content c ≡ true → (target : List ℕ) → c ≢ link target
directory_no_link c e target is = cc (ap is_directory_content is)

-- the path of a directory in a directory leads to it
pub leads_below : (tree : Tree) (path : List ℕ) (place : NameList) (name : Name) (node : Node) → IsTree tree
    → directory_of tree path ≡ Some place
    → node_at tree (place ++ name ∷ []) ≡ Some node → is_directory_content node.content ≡ true
    → directory_of tree (path_below path name) ≡ Some (place ++ name ∷ [])
leads_below tree path place name node is e stands there =
    let below = place ++ name ∷ [] in
    into_directory tree (path_below path name) below
    (reached_no_link tree (path_below path name) true below node (named_below tree path place name (is.names place name (ap is_some stands)) e) stands
    (directory_no_link node.content there))
    (ap is_directory_node stands ∙ there)

-- ---- a path whose last link isn't followed

-- A path that leads to a directory where its last link isn't followed leads there where it is.
module _ (tree : Tree) (place : NameList) (there : is_directory_at tree place ≡ true) where
  no_link_there : (at : NameList) (target : List ℕ) (dev ino : ℕ)
      → node_at tree at ≡ Some (record { content = link target; dev = dev; ino = ino }) → at ≢ place
  no_link_there at target dev ino stands e = cc (ap is_directory_node stands, ap (is_directory_at tree) e, there)

  -- links that lead there where the last isn't followed lead there where all are
  module _ (some all : Linking)
      (links : (folder : NameList) (target : List ℕ) (rest : List Name) → some folder target rest ≡ Some place → all folder target rest ≡ Some place) where
    abbrev by_some : List Name → NameList → Option NameList
    by_some parts at = steps tree some false at parts

    abbrev by_all : List Name → NameList → Option NameList
    by_all parts at = steps tree all true at parts

    through_content : (at : NameList) (part : Name) (parts : List Name) (c : Content) (dev ino : ℕ)
        → node_at tree (at ++ part ∷ []) ≡ Some (record { content = c; dev = dev; ino = ino })
        → (by_some parts (at ++ part ∷ []) ≡ Some place → by_all parts (at ++ part ∷ []) ≡ Some place)
        → through_node some (by_some parts) false at part parts (Some (record { content = c; dev = dev; ino = ino })) ≡ Some place
        → through_node all (by_all parts) true at part parts (Some (record { content = c; dev = dev; ino = ino })) ≡ Some place
    through_content at part parts directory dev ino stands on e = on e
    through_content at part [] (link target) dev ino stands on e = absurd (no_link_there (at ++ part ∷ []) target dev ino stands (same_Some _ _ e))
    through_content at part (next ∷ parts) (link target) dev ino stands on e = links at target (next ∷ parts) e
    through_content at part parts (file bytes mode) dev ino stands on e = on e
    through_content at part parts other dev ino stands on e = on e

    through_same : (at : NameList) (part : Name) (parts : List Name) (o : Option Node) → node_at tree (at ++ part ∷ []) ≡ o
        → (by_some parts (at ++ part ∷ []) ≡ Some place → by_all parts (at ++ part ∷ []) ≡ Some place)
        → through_node some (by_some parts) false at part parts o ≡ Some place
        → through_node all (by_all parts) true at part parts o ≡ Some place
    through_same at part parts None stands on e = cc
    through_same at part parts (Some node) stands on e = through_content at part parts node.content node.dev node.ino stands on e

    steps_same : (at : NameList) (parts : List Name) → by_some parts at ≡ Some place → by_all parts at ≡ Some place
    steps_same at [] e = e
    steps_same at (part ∷ parts) e =
        let below = at ++ part ∷ [] in
        let test = cond_some_then (is_directory_at tree at) _ place e in
        rw test.0
        (elim (is_up part) as (λ up.
        cond up (by_some parts (parent_of at)) (through_node some (by_some parts) false at part parts (node_at tree below)) ≡ Some place
        → cond up (by_all parts (parent_of at)) (through_node all (by_all parts) true at part parts (node_at tree below)) ≡ Some place) [
          | true ↦ steps_same (parent_of at) parts
          | false ↦ through_same at part parts (node_at tree below) refl (steps_same below parts)
        ] test.1)

  -- where nothing refuses to go on, what is so onward is so
  unless : (b : Bool) (some all : Option NameList) → (some ≡ Some place → all ≡ Some place) → cond b None some ≡ Some place
      → cond b None all ≡ Some place
  unless true some all onward e = e
  unless false some all onward e = onward e

  followed_same : (links : ℕ) (at : NameList) (parts : List Name) → followed tree links false at parts ≡ Some place
      → followed tree links true at parts ≡ Some place
  followed_same zero at parts e = steps_same _ _ (λ folder target rest h. h) at parts e
  followed_same (suc links) at parts e =
      steps_same _ _ (λ folder target rest. unless (bytes_eq target []) _ _ (followed_same links (start_of folder target) (parts_of target ++ rest))) at parts e

  pub reached_same : (path : List ℕ) → reached tree path false ≡ Some place → reached tree path true ≡ Some place
  unfolding reached
  reached_same path e = unless (bytes_eq path []) _ _ (followed_same links_most [] (parts_of path)) e

-- ---- the node that a path leads to

-- a directory that a path leads to
pub record DirectoryTo (tree : Tree) (path : List ℕ) (node : Node) : Type 0 where
  pub place : NameList
  pub leads : directory_of tree path ≡ Some place
  pub stands : node_at tree place ≡ Some node

-- also where its last link isn't followed
pub node_into : (tree : Tree) (path : List ℕ) (follow : Bool) (node : Node) → node_to tree path follow ≡ Some node
    → is_directory_content node.content ≡ true → DirectoryTo tree path node
node_into tree path follow node e is =
    option_and_then_some (node_at tree) (reached tree path follow) node e
    (λ place leads stands. let there : is_directory_at tree place ≡ true = ap is_directory_node stands ∙ is in
    record { place = place; leads = into_directory tree path place (by place there follow leads) there; stands = stands })
  where
    by : (place : NameList) → is_directory_at tree place ≡ true → (b : Bool) → reached tree path b ≡ Some place
        → reached tree path true ≡ Some place
    by place there true leads = leads
    by place there false leads = reached_same tree place there path leads
