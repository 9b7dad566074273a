-- What a path leads to stands there.
use Rattle.std.proofs.Common.{◌≡◌, ℕ, zero, suc, List, [], ◌∷◌, ◌++◌, refl, sym, ap, ◌∙◌, subst, Bool, true, false, cond}
use Rattle.std.specs.Prelude.{Option, Some, None, IsSome, is_some}
use Rattle.std.specs.Str.{bytes_eq}
use Rattle.std.proofs.lemmas.Option.{same_Some}
use Rattle.sd_io.specs.Tree.{Name, NameList, Content, directory, link, file, other, Node, Tree, IsTree, node_at, is_directory_node, is_directory_at}
use Rattle.sd_io.specs.Paths.{Linking, through_node, ends_at_link, steps, followed, links_most, start_of, is_absolute, parts_of, is_up, parent_of, reached}
use Rattle.mem_io.proofs.place.ParentLemmas.{parent_of-last}
use Rattle.sd_io.proofs.WayLemmas.{by_way, cond_some_then, through_some}

-- a name list that isn't the top's has a last name
last_name : (name : Name) (names : NameList) → (folder : NameList) × (last : Name) × (folder ++ last ∷ [] ≡ name ∷ names)
last_name name [] = ([], name, refl)
last_name name (next ∷ names) = let rest = last_name next names in (name ∷ rest.0, rest.1, ap (λ l. name ∷ l) rest.2)

-- a directory is something
something : (o : Option Node) → is_directory_node o ≡ true → IsSome o
something None e = cc
something (Some node) e = refl

-- what follows onward and through links follows by the way
by_way_either : {A P : Type 0} (a : A) (f : List ℕ → A) (x : A) (w : Option Content) → (a ≡ x → P) → ((target : List ℕ) → f target ≡ x → P) → by_way a a f w ≡ x → P
unfolding by_way
by_way_either a f x None on linked e = on e
by_way_either a f x (Some directory) on linked e = on e
by_way_either a f x (Some (link target)) on linked e = linked target e
by_way_either a f x (Some (file bytes mode)) on linked e = on e
by_way_either a f x (Some other) on linked e = on e

module _ (tree : Tree) (whole : IsTree tree) where
  abbrev Stands : NameList → Type 0
  Stands q = IsSome (node_at tree q)

  parent_stands : (at : NameList) → is_directory_at tree at ≡ true → Stands (parent_of at)
  parent_stands [] here = something (node_at tree []) here
  parent_stands (name ∷ names) here =
      let cut = last_name name names in
      let place = subst (λ p. IsSome (node_at tree p)) (sym cut.2) (something (node_at tree (name ∷ names)) here) in
      let above : parent_of (name ∷ names) ≡ cut.0 = ap parent_of (sym cut.2) ∙ parent_of-last cut.0 cut.1 in
      subst Stands (sym above) (something (node_at tree cut.0) (whole.parents cut.0 cut.1 place))

  module _ (linking : Linking) (links_stand : (folder : NameList) (target : List ℕ) (rest : List Name) (q : NameList) → Stands folder → linking folder target rest ≡ Some q → Stands q) (follow : Bool) where
    through_stands : (at : NameList) (part : Name) (parts : List Name) (q : NameList) (o : Option Node) → Stands at
        → (onward : Stands (at ++ part ∷ []) → steps tree linking follow (at ++ part ∷ []) parts ≡ Some q → Stands q) → node_at tree (at ++ part ∷ []) ≡ o
        → through_node linking (λ next. steps tree linking follow next parts) follow at part parts o ≡ Some q → Stands q
    through_stands at part parts q None from onward is e = cc
    through_stands at part parts q (Some node) from onward is e =
        let here : Stands (at ++ part ∷ []) = ap is_some is in
        by_way_either _ _ (Some q) _ (onward here)
        (λ target. elim (ends_at_link follow parts) as (λ b. cond b (Some (at ++ part ∷ [])) (linking at target parts) ≡ Some q → Stands q) [
          | true ↦ λ h. subst Stands (same_Some _ _ h) here
          | false ↦ links_stand at target parts q from
        ])
        (sym (through_some linking (λ next. steps tree linking follow next parts) follow at part parts node) ∙ e)

    steps_stand : (at : NameList) (parts : List Name) (q : NameList) → Stands at → steps tree linking follow at parts ≡ Some q → Stands q
    steps_stand at [] q here e = subst Stands (same_Some _ _ e) here
    steps_stand at (part ∷ parts) q here e =
        let test = cond_some_then (is_directory_at tree at) _ q e in
        elim (is_up part) as (λ up. cond up (steps tree linking follow (parent_of at) parts) (through_node linking (λ next. steps tree linking follow next parts) follow at part parts (node_at tree (at ++ part ∷ []))) ≡ Some q → Stands q) [
          | true ↦ steps_stand (parent_of at) parts q (parent_stands at test.0)
          | false ↦ through_stands at part parts q _ here (steps_stand (at ++ part ∷ []) parts q) refl
        ] test.1

  start_stands : (folder : NameList) (target : List ℕ) → Stands folder → Stands (start_of folder target)
  start_stands folder target here = elim (is_absolute target) as (λ b. Stands (cond b [] folder)) [ true ↦ something (node_at tree []) whole.top | false ↦ here ]

  followed_stand : (links : ℕ) (follow : Bool) (at : NameList) (parts : List Name) (q : NameList) → Stands at → followed tree links follow at parts ≡ Some q → Stands q
  followed_stand zero follow at parts q here e = steps_stand (λ folder target rest. None) (λ folder target rest q from h. cc) follow at parts q here e
  followed_stand (suc links) follow at parts q here e =
      steps_stand _
      (λ folder target rest q from. elim (bytes_eq target []) as (λ b. cond b None (followed tree links follow (start_of folder target) (parts_of target ++ rest)) ≡ Some q → Stands q) [
        | true ↦ λ h. cc
        | false ↦ followed_stand links follow (start_of folder target) (parts_of target ++ rest) q (start_stands folder target from)
      ])
      follow at parts q here e

-- something stands where a path leads
pub reached_stands : (tree : Tree) → IsTree tree → (path : List ℕ) (follow : Bool) (q : NameList) → reached tree path follow ≡ Some q → IsSome (node_at tree q)
unfolding reached
reached_stands tree whole path follow q e =
    elim (bytes_eq path []) as (λ b. cond b None (followed tree links_most follow [] (parts_of path)) ≡ Some q → IsSome (node_at tree q)) [
      | true ↦ λ h. cc
      | false ↦ followed_stand tree whole links_most follow [] (parts_of path) q (something (node_at tree []) whole.top)
    ] e

-- something stands where parts lead, no link followed
pub plain_stands : (tree : Tree) → IsTree tree → (parts : List Name) (q : NameList) → steps tree (λ folder target rest. None) false [] parts ≡ Some q → IsSome (node_at tree q)
plain_stands tree whole parts q e = steps_stand tree whole (λ folder target rest. None) (λ folder target rest q from h. cc) false [] parts q (something (node_at tree []) whole.top) e
