-- A path leads where it led, while all that stood there goes on in the same way.
use Rattle.std.proofs.Common.{◌≡◌, ℕ, zero, suc, List, [], ◌∷◌, ◌++◌, refl, sym, ap, ◌∙◌, subst, Bool, true, false, cond}
use Rattle.std.specs.Prelude.{Option, Some, None, IsSome}
use Rattle.std.specs.Str.{bytes_eq}
use Rattle.std.proofs.lemmas.Option.{same_Some}
use Rattle.sd_io.specs.Tree.{Name, NameList, Content, directory, link, file, other, Node, Tree, node_at, is_directory_at, is_directory_node, is_directory_content}
use Rattle.sd_io.specs.Paths.{Linking, through_node, ends_at_link, steps, followed, links_most, start_of, parts_of, is_up, parent_of, reached, way_of, way_of_node}
use Rattle.sd_io.proofs.WayLemmas.{by_way, by_way_then, through_some, cond_some_then}
use Rattle.sd_io.proofs.PathTextLemmas.{directory_stands}

-- what stood goes on as before; where nothing stood, anything may stand
pub record KeepsWays (old new : Tree) : Type 0 where
  pub ways : (q : NameList) → IsSome (node_at old q) → way_of_node (node_at new q) ≡ way_of_node (node_at old q)

-- a directory is seen by its way
by_content : (c d : Content) → way_of c ≡ way_of d → is_directory_content d ≡ true → is_directory_content c ≡ true
by_content directory d e is = refl
by_content (link target) directory e is = cc
by_content (link target) (link to) e is = cc
by_content (link target) (file bytes mode) e is = cc
by_content (link target) other e is = cc
by_content (file bytes mode) directory e is = cc
by_content (file bytes mode) (link to) e is = cc
by_content (file bytes mode) (file more other_mode) e is = cc
by_content (file bytes mode) other e is = cc
by_content other directory e is = cc
by_content other (link to) e is = cc
by_content other (file bytes mode) e is = cc
by_content other other e is = cc

no_way : (d : Content) → None ≡ way_of d → is_directory_content d ≡ true → ⊥
no_way directory e is = cc
no_way (link to) e is = cc
no_way (file bytes mode) e is = cc
no_way other e is = cc

by_node : (m o : Option Node) → way_of_node m ≡ way_of_node o → is_directory_node o ≡ true → is_directory_node m ≡ true
by_node m None e is = cc
by_node None (Some node) e is = absurd (no_way node.content e is)
by_node (Some n) (Some node) e is = by_content n.content node.content e is

-- a directory still stands
same_directory : {old new : Tree} → KeepsWays old new → (q : NameList) → is_directory_at old q ≡ true → is_directory_at new q ≡ true
same_directory {old} {new} keeps q is = by_node (node_at new q) (node_at old q) (keeps.ways q (directory_stands (node_at old q) is)) is

-- parts lead through a node that stands
through_stands : (linking : Linking) (onward : NameList → Option NameList) (follow : Bool) (folder : NameList) (part : Name) (parts : List Name) (o : Option Node) (q : NameList)
    → through_node linking onward follow folder part parts o ≡ Some q → IsSome o
through_stands linking onward follow folder part parts None q e = cc
through_stands linking onward follow folder part parts (Some node) q e = refl

-- the way on from a node that parts lead through
way_taken : (linking : Linking) (onward : NameList → Option NameList) (follow : Bool) (folder : NameList) (part : Name) (parts : List Name) (o : Option Node) (q : NameList)
    → through_node linking onward follow folder part parts o ≡ Some q
    → by_way (onward (folder ++ part ∷ [])) (onward (folder ++ part ∷ [])) (λ target. cond (ends_at_link follow parts) (Some (folder ++ part ∷ [])) (linking folder target parts)) (way_of_node o) ≡ Some q
way_taken linking onward follow folder part parts None q e = cc
way_taken linking onward follow folder part parts (Some node) q e = sym (through_some linking onward follow folder part parts node) ∙ e

-- the way on from what stands in the new tree, where it leads to q
still_through : (new : Tree) (linking : Linking) (follow : Bool) (folder : NameList) (part : Name) (parts : List Name) (q : NameList) (o : Option Node) (w : Option Content)
    → node_at new (folder ++ part ∷ []) ≡ o → way_of_node o ≡ w → IsSome (node_at new q)
    → by_way (steps new linking follow (folder ++ part ∷ []) parts) (steps new linking follow (folder ++ part ∷ []) parts)
    (λ target. cond (ends_at_link follow parts) (Some (folder ++ part ∷ [])) (linking folder target parts)) w ≡ Some q
    → through_node linking (λ next. steps new linking follow next parts) follow folder part parts o ≡ Some q
unfolding by_way
still_through new linking follow folder part parts q (Some node) w at is stands e =
    through_some linking (λ next. steps new linking follow next parts) follow folder part parts node ∙ rw is e
still_through new linking follow folder part [] q None w at is stands e =
    let here : Some (folder ++ part ∷ []) ≡ Some q = rw (← is) at e in
    cc (subst IsSome (ap (node_at new) (sym (same_Some _ _ here)) ∙ at) stands)
still_through new linking follow folder part (next ∷ parts) q None w at is stands e =
    let onward : steps new linking follow (folder ++ part ∷ []) (next ∷ parts) ≡ Some q = rw (← is) at e in
    let test = cond_some_then (is_directory_at new (folder ++ part ∷ [])) _ q onward in
    cc (ap is_directory_node at, test.0)

module _ {old new : Tree} (keeps : KeepsWays old new) where
  -- what parts led to they lead to, while something stands there and links still lead to it
  walk_still : (lo ln : Linking) (q : NameList) → IsSome (node_at new q)
      → ((folder : NameList) (target : List ℕ) (rest : List Name) → lo folder target rest ≡ Some q → ln folder target rest ≡ Some q)
      → (follow : Bool) (at : NameList) (parts : List Name) → steps old lo follow at parts ≡ Some q → steps new ln follow at parts ≡ Some q
  walk_still lo ln q stands links follow at [] e = e
  walk_still lo ln q stands links follow at (part ∷ parts) e =
      let place = at ++ part ∷ [] in
      let test = cond_some_then (is_directory_at old at) _ q e in
      rw (same_directory keeps at test.0)
      (elim (is_up part) as (λ up.
      cond up (steps old lo follow (parent_of at) parts) (through_node lo (λ next. steps old lo follow next parts) follow at part parts (node_at old place)) ≡ Some q
      → cond up (steps new ln follow (parent_of at) parts) (through_node ln (λ next. steps new ln follow next parts) follow at part parts (node_at new place)) ≡ Some q) [
        | true ↦ λ h. walk_still lo ln q stands links follow (parent_of at) parts h
        | false ↦ λ h. still_through new ln follow at part parts q (node_at new place) _ refl
            (keeps.ways place (through_stands lo (λ next. steps old lo follow next parts) follow at part parts (node_at old place) q h)) stands
            (by_way_then _ _ _ _ (Some q) (Some q) (way_of_node (node_at old place)) (walk_still lo ln q stands links follow place parts)
            (λ target. elim (ends_at_link follow parts) as (λ b. cond b (Some place) (lo at target parts) ≡ Some q → cond b (Some place) (ln at target parts) ≡ Some q) [ true ↦ λ h. h | false ↦ links at target parts ])
            (way_taken lo (λ next. steps old lo follow next parts) follow at part parts (node_at old place) q h))
      ] test.1)

  -- links still lead there too
  followed_still : (links : ℕ) (q : NameList) → IsSome (node_at new q) → (follow : Bool) (at : NameList) (parts : List Name) → followed old links follow at parts ≡ Some q → followed new links follow at parts ≡ Some q
  followed_still zero q stands follow at parts e = walk_still (λ folder target rest. None) (λ folder target rest. None) q stands (λ folder target rest h. h) follow at parts e
  followed_still (suc links) q stands follow at parts e =
      walk_still _ _ q stands
      (λ folder target rest. elim (bytes_eq target []) as (λ b. cond b None (followed old links follow (start_of folder target) (parts_of target ++ rest)) ≡ Some q → cond b None (followed new links follow (start_of folder target) (parts_of target ++ rest)) ≡ Some q) [
        | true ↦ λ h. h
        | false ↦ followed_still links q stands follow (start_of folder target) (parts_of target ++ rest)
      ])
      follow at parts e

-- a path still leads to what stands where it led
pub still_leads : {old new : Tree} → KeepsWays old new → (path : List ℕ) (follow : Bool) (q : NameList) → reached old path follow ≡ Some q → IsSome (node_at new q) → reached new path follow ≡ Some q
unfolding reached
still_leads {old} {new} keeps path follow q e stands =
    elim (bytes_eq path []) as (λ b. cond b None (followed old links_most follow [] (parts_of path)) ≡ Some q → cond b None (followed new links_most follow [] (parts_of path)) ≡ Some q) [
      | true ↦ λ h. h
      | false ↦ followed_still keeps links_most q stands follow [] (parts_of path)
    ] e
