-- Where paths lead that name a place, or follow no link.
use Rattle.std.proofs.Common.{◌≡◌, ◌≢◌, ℕ, zero, suc, List, [], ◌∷◌, ◌++◌, refl, sym, ap, ◌∙◌, subst, Bool, true, false, cond, append_assoc}
use Rattle.std.specs.Prelude.{Option, Some, None, IsSome, is_some}
use Rattle.std.specs.Option.{option_and_then}
use Rattle.std.specs.Str.{bytes_eq}
use Rattle.std.proofs.lemmas.Option.{same_Some, some_pair_parts, option_and_then_some, cond_some}
use Rattle.sd_io.specs.Tree.{Name, NameList, Content, directory, link, file, other, Node, Tree, node_at, is_directory_at, file_at, file_node, file_content}
use Rattle.sd_io.specs.Paths.{Linking, through_node, ends_at_link, steps, followed, links_most, start_of, parts_of, is_up, parent_of, reached, named, folder_and_name, child_in, way_of, way_of_node, reached_plain, plain_file}
use Rattle.sd_io.specs.Files.{file_of, file_named}
use Rattle.sd_io.proofs.laws.WayLemmas.{by_way, through_some, by_way_then, cond_some_then, file_has_no_way}

-- ---- where a named path leads

-- before a name no link is the last part
no_end : (follow : Bool) (parts : List Name) (name : Name) → ends_at_link follow (parts ++ name ∷ []) ≡ false
no_end follow [] name = refl
no_end follow (part ∷ parts) name = refl

-- a link that is to be followed is not left
followed_end : (parts : List Name) → ends_at_link true parts ≡ false
followed_end [] = refl
followed_end (part ∷ parts) = refl

-- two walks go on from one node, by its way
through_then : (lt lf : Linking) (ot of : NameList → Option NameList) (follow : Bool) (from : NameList) (part : Name) (parts : List Name) (name : Name) (o : Option Node) (x : NameList) (r : Option NameList)
    → (ot (from ++ part ∷ []) ≡ Some x → of (from ++ part ∷ []) ≡ r) → ((target : List ℕ) → lt from target parts ≡ Some x → lf from target (parts ++ name ∷ []) ≡ r)
    → through_node lt ot true from part parts o ≡ Some x → through_node lf of follow from part (parts ++ name ∷ []) o ≡ r
through_then lt lf ot of follow from part parts name None x r on links e = cc
through_then lt lf ot of follow from part parts name (Some node) x r on links e =
    through_some lf of follow from part (parts ++ name ∷ []) node
    ∙ by_way_then _ _ _ _ (Some x) r (way_of node.content) on (λ target. rw (followed_end parts, no_end follow parts name) (links target)) (sym (through_some lt ot true from part parts node) ∙ e)

-- A name in a directory that parts lead to: from what stands there a walk goes to r, whatever links do.
module _ (tree : Tree) (folder : NameList) (name : Name) (follow : Bool) (r : Option NameList) (in_directory : is_directory_at tree folder ≡ true) (down : is_up name ≡ false)
    (lands : (linking : Linking) → through_node linking (λ next. Some next) follow folder name [] (node_at tree (folder ++ name ∷ [])) ≡ r) where
  -- where parts lead to the directory, the parts and the name lead to r
  walk_to_name : (lt lf : Linking) → ((from : NameList) (target : List ℕ) (rest : List Name) → lt from target rest ≡ Some folder → lf from target (rest ++ name ∷ []) ≡ r)
      → (from : NameList) (parts : List Name) → steps tree lt true from parts ≡ Some folder → steps tree lf follow from (parts ++ name ∷ []) ≡ r
  walk_to_name lt lf links from [] e =
      ap (λ (place : NameList). steps tree lf follow place (name ∷ [])) (same_Some from folder e) ∙ rw (in_directory, down) (lands lf)
  walk_to_name lt lf links from (part ∷ parts) e =
      let place = from ++ part ∷ [] in
      let test = cond_some_then (is_directory_at tree from) _ folder e in
      rw test.0
      (elim (is_up part) as (λ up.
      cond up (steps tree lt true (parent_of from) parts) (through_node lt (λ next. steps tree lt true next parts) true from part parts (node_at tree place)) ≡ Some folder
      → cond up (steps tree lf follow (parent_of from) (parts ++ name ∷ [])) (through_node lf (λ next. steps tree lf follow next (parts ++ name ∷ [])) follow from part (parts ++ name ∷ []) (node_at tree place)) ≡ r) [
        | true ↦ walk_to_name lt lf links (parent_of from) parts
        | false ↦ through_then lt lf (λ next. steps tree lt true next parts) (λ next. steps tree lf follow next (parts ++ name ∷ [])) follow from part parts name (node_at tree place) folder r (walk_to_name lt lf links place parts) (λ target. links from target parts)
      ] test.1)

  -- with links followed too
  followed_to_name : (links : ℕ) (from : NameList) (parts : List Name) → followed tree links true from parts ≡ Some folder → followed tree links follow from (parts ++ name ∷ []) ≡ r
  followed_to_name zero from parts e = walk_to_name (λ at target rest. None) (λ at target rest. None) (λ at target rest h. cc) from parts e
  followed_to_name (suc links) from parts e =
      walk_to_name _ _
      (λ at target rest. elim (bytes_eq target []) as (λ b. cond b None (followed tree links true (start_of at target) (parts_of target ++ rest)) ≡ Some folder → cond b None (followed tree links follow (start_of at target) (parts_of target ++ (rest ++ name ∷ []))) ≡ r) [
        | true ↦ λ h. cc
        | false ↦ λ h. ap (followed tree links follow (start_of at target)) (sym (append_assoc (parts_of target) rest (name ∷ []))) ∙ followed_to_name links (start_of at target) (parts_of target ++ rest) h
      ])
      from parts e

-- What a named path is made of: parts that lead to a directory, and a name in it.
pub record IsNamed (tree : Tree) (path : List ℕ) (place : NameList) : Type 0 where
  pub before : List Name
  pub name : Name
  pub folder : NameList
  pub parts : parts_of path ≡ before ++ name ∷ []
  pub down : is_up name ≡ false
  pub leads : followed tree links_most true [] before ≡ Some folder
  pub in_directory : is_directory_at tree folder ≡ true
  pub place_is : folder ++ name ∷ [] ≡ place

-- the folder and the name are the parts
cut_parts : (parts before : List Name) (name : Name) → folder_and_name parts ≡ Some (before, name) → (parts ≡ before ++ name ∷ []) × (is_up name ≡ false)
cut_parts [] before name e = cc
cut_parts (part ∷ []) before name e =
    elim (is_up part) as (λ b. is_up part ≡ b → ◌≡◌ {A = Option (List Name × Name)} (cond b None (Some ([], part))) (Some (before, name)) → (part ∷ [] ≡ before ++ name ∷ []) × (is_up name ≡ false)) [
      | true ↦ λ t h. cc
      | false ↦ λ t h. let same = some_pair_parts [] before part name h in ((λ i. same.0 i ++ same.1 i ∷ []), sym (ap is_up same.1) ∙ t)
    ] refl e
cut_parts (part ∷ next ∷ more) before name e =
    option_and_then_some _ (folder_and_name (next ∷ more)) (before, name) e
    (λ p is made.
    let same = some_pair_parts (part ∷ p.0) before p.1 name made in
    let rest = cut_parts (next ∷ more) p.0 p.1 is in
    (ap (λ (q : List Name). part ∷ q) rest.0 ∙ (λ i. same.0 i ++ same.1 i ∷ []), sym (ap is_up same.1) ∙ rest.1))

-- a path that names a place is made so
pub named_parts : (tree : Tree) (path : List ℕ) (place : NameList) → named tree path ≡ Some place → IsNamed tree path place
unfolding named
named_parts tree path place e =
    option_and_then_some _ (folder_and_name (parts_of path)) place e
    (λ p is made. option_and_then_some (child_in tree p.1) (followed tree links_most true [] p.0) place made
    (λ folder leads there.
    let cut = cut_parts (parts_of path) p.0 p.1 is in
    let test = cond_some (is_directory_at tree folder) (folder ++ p.1 ∷ []) place there in
    record { before = p.0; name = p.1; folder = folder; parts = cut.0; down = cut.1; leads = leads; in_directory = test.0; place_is = test.1 }))

-- parts with a last one are some
pub no_last : (parts : List Name) (name : Name) → parts ++ name ∷ [] ≢ []
no_last [] name e = cc
no_last (part ∷ parts) name e = cc

-- a path with a part is not empty
not_empty : (path : List ℕ) (parts : List Name) (name : Name) → parts_of path ≡ parts ++ name ∷ [] → bytes_eq path [] ≡ false
unfolding parts_of
not_empty [] parts name e = absurd (no_last parts name (sym e))
not_empty (b ∷ path) parts name e = refl

-- a named path leads where a walk goes from what stands at its place
reached_named : (tree : Tree) (path : List ℕ) (follow : Bool) (place : NameList) (r : Option NameList) (names : IsNamed tree path place)
    → ((linking : Linking) → through_node linking (λ next. Some next) follow names.folder names.name [] (node_at tree (names.folder ++ names.name ∷ [])) ≡ r) → reached tree path follow ≡ r
unfolding reached
reached_named tree path follow place r names lands =
    ap (λ b. cond b None (followed tree links_most follow [] (parts_of path))) (not_empty path names.before names.name names.parts)
    ∙ ap (followed tree links_most follow []) names.parts
    ∙ followed_to_name tree names.folder names.name follow r names.in_directory names.down lands links_most [] names.before names.leads

-- what is no link leads onward
unlinked : {A : Type 0} (a : A) (f : List ℕ → A) (c : Content) → ((target : List ℕ) → c ≢ link target) → by_way a a f (way_of c) ≡ a
unfolding by_way
unlinked a f directory n = refl
unlinked a f (link target) n = absurd (n target refl)
unlinked a f (file bytes mode) n = refl
unlinked a f other n = refl

-- so does a link that is not followed
unfollowed : {A : Type 0} (a : A) (c : Content) → by_way a a (λ target. a) (way_of c) ≡ a
unfolding by_way
unfollowed a directory = refl
unfollowed a (link target) = refl
unfollowed a (file bytes mode) = refl
unfollowed a other = refl

-- to a place where no link stands
pub reached_no_link : (tree : Tree) (path : List ℕ) (follow : Bool) (place : NameList) (node : Node) → named tree path ≡ Some place → node_at tree place ≡ Some node
    → ((target : List ℕ) → node.content ≢ link target) → reached tree path follow ≡ Some place
reached_no_link tree path follow place node e stands no_link =
    let names = named_parts tree path place e in
    reached_named tree path follow place (Some place) names (λ linking.
    ap (through_node linking (λ next. Some next) follow names.folder names.name []) (ap (node_at tree) names.place_is ∙ stands)
    ∙ through_some linking (λ next. Some next) follow names.folder names.name [] node
    ∙ unlinked _ _ node.content no_link
    ∙ ap (λ (q : NameList). Some q) names.place_is)

-- to a place where something stands, where the last name isn't followed
pub reached_not_followed : (tree : Tree) (path : List ℕ) (place : NameList) (node : Node) → named tree path ≡ Some place → node_at tree place ≡ Some node → reached tree path false ≡ Some place
reached_not_followed tree path place node e stands =
    let names = named_parts tree path place e in
    reached_named tree path false place (Some place) names (λ linking.
    ap (through_node linking (λ next. Some next) false names.folder names.name []) (ap (node_at tree) names.place_is ∙ stands)
    ∙ through_some linking (λ next. Some next) false names.folder names.name [] node
    ∙ unfollowed _ node.content
    ∙ ap (λ (q : NameList). Some q) names.place_is)

-- nowhere, where nothing stands
pub reached_free : (tree : Tree) (path : List ℕ) (follow : Bool) (place : NameList) → named tree path ≡ Some place → node_at tree place ≡ None → reached tree path follow ≡ None
reached_free tree path follow place e free =
    let names = named_parts tree path place e in
    reached_named tree path follow place None names (λ linking. ap (through_node linking (λ next. Some next) follow names.folder names.name []) (ap (node_at tree) names.place_is ∙ free))

-- what a regular file is
record IsFileNode (o : Option Node) : Type 0 where
  node : Node
  stands : o ≡ Some node
  no_link : (target : List ℕ) → node.content ≢ link target

-- a regular file is no link
content_no_link : (c : Content) → IsSome (file_content c) → (target : List ℕ) → c ≢ link target
content_no_link c f target e = cc (subst (λ (x : Content). IsSome (file_content x)) e f)

-- where a regular file is, a node stands
file_is_node : (o : Option Node) → IsSome (file_node o) → IsFileNode o
file_is_node None f = cc
file_is_node (Some node) f = record { node = node; stands = refl; no_link = content_no_link node.content f }

-- to the place of a regular file
pub reached_file : (tree : Tree) (path : List ℕ) (follow : Bool) (place : NameList) → named tree path ≡ Some place → IsSome (file_at tree place) → reached tree path follow ≡ Some place
reached_file tree path follow place e f =
    let n = file_is_node (node_at tree place) f in
    reached_no_link tree path follow place n.node e n.stands n.no_link

-- the regular file that stands at a path is the one that the path leads to
pub file_of_named : (tree : Tree) (path : List ℕ) (f : List ℕ × ℕ) → file_named tree path ≡ Some f → file_of tree path ≡ Some f
file_of_named tree path f e =
    option_and_then_some (file_at tree) (named tree path) f e (λ place names is. ap (option_and_then (file_at tree)) (reached_file tree path true place names (ap is_some is)) ∙ is)

-- ---- where no link is followed

-- A walk that follows no link and ends where none stands ends there also where links are followed.
module _ (tree : Tree) (q : NameList) (no_way : way_of_node (node_at tree q) ≡ None) (linking : Linking) (follow : Bool) where
  -- through a content that stands there
  plain_content : (at : NameList) (part : Name) (parts : List Name) (c : Content) (dev ino : ℕ) → node_at tree (at ++ part ∷ []) ≡ Some (record { content = c; dev = dev; ino = ino })
      → (steps tree (λ folder target rest. None) false (at ++ part ∷ []) parts ≡ Some q → steps tree linking follow (at ++ part ∷ []) parts ≡ Some q)
      → through_node (λ folder target rest. None) (λ next. steps tree (λ folder target rest. None) false next parts) false at part parts (Some (record { content = c; dev = dev; ino = ino })) ≡ Some q
      → through_node linking (λ next. steps tree linking follow next parts) follow at part parts (Some (record { content = c; dev = dev; ino = ino })) ≡ Some q
  plain_content at part parts directory dev ino stands on e = on e
  plain_content at part [] (link target) dev ino stands on e = cc (ap way_of_node stands, ap (λ p. way_of_node (node_at tree p)) (same_Some _ _ e), no_way)
  plain_content at part (next ∷ parts) (link target) dev ino stands on e = cc
  plain_content at part parts (file bytes mode) dev ino stands on e = on e
  plain_content at part parts other dev ino stands on e = on e

  -- through what stands there
  plain_node_on : (at : NameList) (part : Name) (parts : List Name) (o : Option Node) → node_at tree (at ++ part ∷ []) ≡ o
      → (steps tree (λ folder target rest. None) false (at ++ part ∷ []) parts ≡ Some q → steps tree linking follow (at ++ part ∷ []) parts ≡ Some q)
      → through_node (λ folder target rest. None) (λ next. steps tree (λ folder target rest. None) false next parts) false at part parts o ≡ Some q
      → through_node linking (λ next. steps tree linking follow next parts) follow at part parts o ≡ Some q
  plain_node_on at part parts None stands on e = cc
  plain_node_on at part parts (Some node) stands on e = plain_content at part parts node.content node.dev node.ino stands on e

  -- over all parts
  plain_walk : (at : NameList) (parts : List Name) → steps tree (λ folder target rest. None) false at parts ≡ Some q → steps tree linking follow at parts ≡ Some q
  plain_walk at [] e = e
  plain_walk at (part ∷ parts) e =
      let place = at ++ part ∷ [] in
      let test = cond_some_then (is_directory_at tree at) _ q e in
      rw test.0
      (elim (is_up part) as (λ up.
      cond up (steps tree (λ folder target rest. None) false (parent_of at) parts)
      (through_node (λ folder target rest. None) (λ next. steps tree (λ folder target rest. None) false next parts) false at part parts (node_at tree place)) ≡ Some q
      → cond up (steps tree linking follow (parent_of at) parts) (through_node linking (λ next. steps tree linking follow next parts) follow at part parts (node_at tree place)) ≡ Some q) [
        | true ↦ plain_walk (parent_of at) parts
        | false ↦ plain_node_on at part parts (node_at tree place) refl (plain_walk place parts)
      ] test.1)

-- a path that ends where no way on is
pub reached_by_plain : (tree : Tree) (path : List ℕ) (follow : Bool) (q : NameList) → way_of_node (node_at tree q) ≡ None → reached_plain tree path ≡ Some q → reached tree path follow ≡ Some q
unfolding reached reached_plain
reached_by_plain tree path follow q no_way e =
    elim (bytes_eq path []) as (λ b. cond b None (steps tree (λ folder target rest. None) false [] (parts_of path)) ≡ Some q → cond b None (followed tree links_most follow [] (parts_of path)) ≡ Some q) [
      | true ↦ λ h. h
      | false ↦ plain_walk tree q no_way _ follow [] (parts_of path)
    ] e

-- the regular file that a path leads to with no link followed is the one that it leads to
pub file_of_plain : (tree : Tree) (path : List ℕ) (f : List ℕ × ℕ) → plain_file tree path ≡ Some f → file_of tree path ≡ Some f
file_of_plain tree path f e =
    option_and_then_some (file_at tree) (reached_plain tree path) f e
    (λ q leads is. ap (option_and_then (file_at tree)) (reached_by_plain tree path true q (file_has_no_way (node_at tree q) (ap is_some is)) leads) ∙ is)
