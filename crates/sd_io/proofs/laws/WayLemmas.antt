-- What paths rest on: directories and links alone, which calls on files keep.
use Rattle.std.proofs.Common.{◌≡◌, ◌≢◌, ℕ, zero, suc, List, [], ◌∷◌, ◌++◌, refl, sym, ap, ◌∙◌, subst, Bool, true, false, cond, ◌⊎◌, inl, inr}
use Rattle.std.specs.Prelude.{Option, Some, None, IsSome, is_some}
use Rattle.std.specs.Option.{option_and_then}
use Rattle.std.specs.Str.{bytes_eq}
use Rattle.std.specs.Cmp.Lexicographic.{pointwise, pointwise_decides, bytes_decides}
use Rattle.std.proofs.lemmas.Option.{same_Some}
use Rattle.sd_io.specs.Tree.{Name, NameList, Content, directory, link, file, other, Node, Tree, SameBut, node_at, is_directory_node, is_directory_content, is_directory_at, file_node, file_content}
use Rattle.sd_io.specs.Paths.{Linking, through_node, ends_at_link, steps, followed, links_most, start_of, parts_of, is_up, parent_of, reached, named, folder_and_name, child_in, way_of, way_of_node, SameWays}
use Rattle.sd_io.specs.Lists.{directory_of}
use Rattle.sd_io.specs.Disk.{DiskState}
use Rattle.sd_io.specs.Files.{Creates, Writes, Renames, Removes, MayHaveWritten, MayHaveRenamed}

-- ---- ways

-- whether a way is into a directory
is_directory_way : Option Content → Bool
is_directory_way None = false
is_directory_way (Some content) = is_directory_content content

-- a content shows it by its way
directory_by_way : (c : Content) → is_directory_content c ≡ is_directory_way (way_of c)
unfolding is_directory_way
directory_by_way directory = refl
directory_by_way (link target) = refl
directory_by_way (file bytes mode) = refl
directory_by_way other = refl

-- and so does what stands at a name list
node_by_way : (o : Option Node) → is_directory_node o ≡ is_directory_way (way_of_node o)
unfolding is_directory_way
node_by_way None = refl
node_by_way (Some node) = directory_by_way node.content

-- the same directories
pub same_directories : {old new : Tree} → SameWays old new → (q : NameList) → is_directory_at new q ≡ is_directory_at old q
same_directories {old} {new} same q = node_by_way (node_at new q) ∙ ap is_directory_way (same.ways q) ∙ sym (node_by_way (node_at old q))

-- a value for each way on from a node
unfoldable pub by_way : {A : Type 0} → A → A → (List ℕ → A) → Option Content → A
by_way none onward linked None = none
by_way none onward linked (Some directory) = onward
by_way none onward linked (Some (link target)) = linked target
by_way none onward linked (Some (file bytes mode)) = none
by_way none onward linked (Some other) = none

-- where a walk goes on from a content, by its way
through_content : (linking : Linking) (onward : NameList → Option NameList) (follow : Bool) (folder : NameList) (part : Name) (parts : List Name) (c : Content) (dev ino : ℕ)
    → through_node linking onward follow folder part parts (Some (record { content = c; dev = dev; ino = ino }))
    ≡ by_way (onward (folder ++ part ∷ [])) (onward (folder ++ part ∷ [])) (λ target. cond (ends_at_link follow parts) (Some (folder ++ part ∷ [])) (linking folder target parts)) (way_of c)
unfolding by_way
through_content linking onward follow folder part parts directory dev ino = refl
through_content linking onward follow folder part parts (link target) dev ino = refl
through_content linking onward follow folder part parts (file bytes mode) dev ino = refl
through_content linking onward follow folder part parts other dev ino = refl

-- where a walk goes on from a node that stands
pub through_some : (linking : Linking) (onward : NameList → Option NameList) (follow : Bool) (folder : NameList) (part : Name) (parts : List Name) (node : Node)
    → through_node linking onward follow folder part parts (Some node)
    ≡ by_way (onward (folder ++ part ∷ [])) (onward (folder ++ part ∷ [])) (λ target. cond (ends_at_link follow parts) (Some (folder ++ part ∷ [])) (linking folder target parts)) (way_of node.content)
through_some linking onward follow folder part parts node = through_content linking onward follow folder part parts node.content node.dev node.ino

-- two tests of one outcome, and what they give
cond_alike : {A B : Type 0} (f g : A → B) (b c : Bool) (x y z w : A) → b ≡ c → f x ≡ g y → f z ≡ g w → f (cond b x z) ≡ g (cond c y w)
cond_alike f g b true x y z w e p q = ap (λ b. f (cond b x z)) e ∙ p
cond_alike f g b false x y z w e p q = ap (λ b. f (cond b x z)) e ∙ q

-- ---- the directory that parts lead to

-- a name list, where a directory stands there
as_directory : Tree → NameList → Option NameList
as_directory tree place = cond (is_directory_at tree place) (Some place) None

-- the same of a name list that is reached
directory_in : Tree → Option NameList → Option NameList
directory_in tree = option_and_then (as_directory tree)

-- where none stands there is none
no_directory : (tree : Tree) (place : NameList) → is_directory_at tree place ≡ false → as_directory tree place ≡ None
unfolding as_directory
no_directory tree place e = ap (λ b. cond b (Some place) None) e

-- from what is no directory parts lead to none
stuck : (tree : Tree) (linking : Linking) (follow : Bool) (at : NameList) (parts : List Name) → is_directory_at tree at ≡ false → directory_in tree (steps tree linking follow at parts) ≡ None
unfolding directory_in
stuck tree linking follow at [] e = no_directory tree at e
stuck tree linking follow at (part ∷ parts) e = rw e

module _ (tree : Tree) (linking : Linking) (follow : Bool) (folder : NameList) (part : Name) (parts : List Name) where
  -- the directory that parts lead to through a node, by its way
  by_content : (c : Content) → is_directory_at tree (folder ++ part ∷ []) ≡ is_directory_content c
      → directory_in tree (by_way (steps tree linking follow (folder ++ part ∷ []) parts) (steps tree linking follow (folder ++ part ∷ []) parts)
      (λ target. cond (ends_at_link follow parts) (Some (folder ++ part ∷ [])) (linking folder target parts)) (way_of c))
      ≡ by_way None (directory_in tree (steps tree linking follow (folder ++ part ∷ []) parts)) (λ target. cond (ends_at_link follow parts) None (directory_in tree (linking folder target parts))) (way_of c)
  unfolding by_way directory_in
  by_content directory e = refl
  by_content (link target) e =
      elim (ends_at_link follow parts) as (λ b. directory_in tree (cond b (Some (folder ++ part ∷ [])) (linking folder target parts)) ≡ cond b None (directory_in tree (linking folder target parts))) [
        | true ↦ no_directory tree (folder ++ part ∷ []) e
        | false ↦ refl
      ]
  by_content (file bytes mode) e = stuck tree linking follow (folder ++ part ∷ []) parts e
  by_content other e = stuck tree linking follow (folder ++ part ∷ []) parts e

  -- the same of what stands at the name list
  by_node : (o : Option Node) → node_at tree (folder ++ part ∷ []) ≡ o
      → directory_in tree (through_node linking (λ next. steps tree linking follow next parts) follow folder part parts o)
      ≡ by_way None (directory_in tree (steps tree linking follow (folder ++ part ∷ []) parts)) (λ target. cond (ends_at_link follow parts) None (directory_in tree (linking folder target parts))) (way_of_node o)
  unfolding by_way directory_in
  by_node None e = refl
  by_node (Some node) e = ap (directory_in tree) (through_some linking (λ next. steps tree linking follow next parts) follow folder part parts node) ∙ by_content node.content (ap is_directory_node e)

module _ {old new : Tree} (same : SameWays old new) where
  -- the same parts lead to the same directory, where links do
  walk_alike : (lo ln : Linking) → ((folder : NameList) (target : List ℕ) (rest : List Name) → directory_in new (ln folder target rest) ≡ directory_in old (lo folder target rest))
      → (follow : Bool) (at : NameList) (parts : List Name) → directory_in new (steps new ln follow at parts) ≡ directory_in old (steps old lo follow at parts)
  unfolding directory_in as_directory
  walk_alike lo ln links follow at [] = λ i. cond (same_directories same at i) (Some at) None
  walk_alike lo ln links follow at (part ∷ parts) =
      let place = at ++ part ∷ [] in
      cond_alike (directory_in new) (directory_in old) (is_directory_at new at) (is_directory_at old at) _ _ None None (same_directories same at)
      (cond_alike (directory_in new) (directory_in old) (is_up part) (is_up part) _ _ _ _ refl (walk_alike lo ln links follow (parent_of at) parts)
      (by_node new ln follow at part parts (node_at new place) refl
      ∙ (λ i. by_way None (walk_alike lo ln links follow place parts i) (λ target. cond (ends_at_link follow parts) None (links at target parts i)) (same.ways place i))
      ∙ sym (by_node old lo follow at part parts (node_at old place) refl)))
      refl

  -- links lead to the same directory too
  followed_alike : (links : ℕ) (follow : Bool) (at : NameList) (parts : List Name) → directory_in new (followed new links follow at parts) ≡ directory_in old (followed old links follow at parts)
  unfolding directory_in
  followed_alike zero follow at parts = walk_alike (λ folder target rest. None) (λ folder target rest. None) (λ folder target rest. refl) follow at parts
  followed_alike (suc links) follow at parts =
      walk_alike _ _ (λ folder target rest. cond_alike (directory_in new) (directory_in old) (bytes_eq target []) (bytes_eq target []) None None _ _ refl refl
      (followed_alike links follow (start_of folder target) (parts_of target ++ rest))) follow at parts

-- a name in what is reached is a name in the directory there
child_by_directory : (tree : Tree) (name : Name) (r : Option NameList) → option_and_then (child_in tree name) r ≡ option_and_then (λ at. Some (at ++ name ∷ [])) (directory_in tree r)
unfolding directory_in as_directory
child_by_directory tree name None = refl
child_by_directory tree name (Some at) =
    elim (is_directory_at tree at) as (λ b. cond b (Some (at ++ name ∷ [])) None ≡ option_and_then (λ at. Some (at ++ name ∷ [])) (cond b (Some at) None)) [ true ↦ refl | false ↦ refl ]

-- the same parts and a name name the same
child_alike : {old new : Tree} → SameWays old new → (name : Name) (folder : List Name) → option_and_then (child_in new name) (followed new links_most true [] folder) ≡ option_and_then (child_in old name) (followed old links_most true [] folder)
child_alike {old} {new} same name folder =
    child_by_directory new name (followed new links_most true [] folder)
    ∙ ap (option_and_then (λ at. Some (at ++ name ∷ []))) (followed_alike same links_most true [] folder)
    ∙ sym (child_by_directory old name (followed old links_most true [] folder))

-- where the ways are the same, a path names the same
pub named_alike : {old new : Tree} → SameWays old new → (path : List ℕ) → named new path ≡ named old path
unfolding named
named_alike same path = λ i. option_and_then (λ (folder, name). child_alike same name folder i) (folder_and_name (parts_of path))

-- and it leads to the same directory
pub directory_alike : {old new : Tree} → SameWays old new → (path : List ℕ) → directory_of new path ≡ directory_of old path
unfolding reached directory_in as_directory
directory_alike {old} {new} same path =
    cond_alike (directory_in new) (directory_in old) (bytes_eq path []) (bytes_eq path []) None None _ _ refl refl (followed_alike same links_most true [] (parts_of path))

-- ---- what a path led to, while something stands there

-- a test that gives something held
pub cond_some_then : {A : Type 0} (b : Bool) (x : Option A) (y : A) → cond b x None ≡ Some y → (b ≡ true) × (x ≡ Some y)
cond_some_then true x y e = (refl, e)
cond_some_then false x y e = cc

-- what holds onward and through links holds by the way
pub by_way_then : {A : Type 0} (a b : A) (f g : List ℕ → A) (x y : A) (w : Option Content) → (a ≡ x → b ≡ y) → ((target : List ℕ) → f target ≡ x → g target ≡ y) → by_way a a f w ≡ x → by_way b b g w ≡ y
unfolding by_way
by_way_then a b f g x y None on linked e = on e
by_way_then a b f g x y (Some directory) on linked e = on e
by_way_then a b f g x y (Some (link target)) on linked e = linked target e
by_way_then a b f g x y (Some (file bytes mode)) on linked e = on e
by_way_then a b f g x y (Some other) on linked e = on e

-- the way on from a node that parts lead through
way_taken : (linking : Linking) (onward : NameList → Option NameList) (follow : Bool) (folder : NameList) (part : Name) (parts : List Name) (o : Option Node) (q : NameList)
    → through_node linking onward follow folder part parts o ≡ Some q
    → by_way (onward (folder ++ part ∷ [])) (onward (folder ++ part ∷ [])) (λ target. cond (ends_at_link follow parts) (Some (folder ++ part ∷ [])) (linking folder target parts)) (way_of_node o) ≡ Some q
way_taken linking onward follow folder part parts None q e = cc
way_taken linking onward follow folder part parts (Some node) q e = sym (through_some linking onward follow folder part parts node) ∙ e

module _ {old new : Tree} (same : SameWays old new) where
  -- the way on from what stands in the new tree, where it leads to q
  still_through : (linking : Linking) (follow : Bool) (folder : NameList) (part : Name) (parts : List Name) (q : NameList) (o : Option Node) (w : Option Content)
      → node_at new (folder ++ part ∷ []) ≡ o → way_of_node o ≡ w → IsSome (node_at new q)
      → by_way (steps new linking follow (folder ++ part ∷ []) parts) (steps new linking follow (folder ++ part ∷ []) parts)
      (λ target. cond (ends_at_link follow parts) (Some (folder ++ part ∷ [])) (linking folder target parts)) w ≡ Some q
      → through_node linking (λ next. steps new linking follow next parts) follow folder part parts o ≡ Some q
  unfolding by_way
  still_through linking follow folder part parts q (Some node) w at is stands e =
      through_some linking (λ next. steps new linking follow next parts) follow folder part parts node ∙ rw is e
  still_through linking follow folder part [] q None w at is stands e =
      let here : Some (folder ++ part ∷ []) ≡ Some q = rw (← is) at e in
      cc (subst IsSome (ap (node_at new) (sym (same_Some _ _ here)) ∙ at) stands)
  still_through linking follow folder part (next ∷ parts) q None w at is stands e =
      let onward : steps new linking follow (folder ++ part ∷ []) (next ∷ parts) ≡ Some q = rw (← is) at e in
      let test = cond_some_then (is_directory_at new (folder ++ part ∷ [])) _ q onward in
      cc (ap is_directory_node at, test.0)

  -- what parts led to they lead to, while something stands there and links still lead to it
  walk_still : (lo ln : Linking) (q : NameList) → IsSome (node_at new q)
      → ((folder : NameList) (target : List ℕ) (rest : List Name) → lo folder target rest ≡ Some q → ln folder target rest ≡ Some q)
      → (follow : Bool) (at : NameList) (parts : List Name) → steps old lo follow at parts ≡ Some q → steps new ln follow at parts ≡ Some q
  walk_still lo ln q stands links follow at [] e = e
  walk_still lo ln q stands links follow at (part ∷ parts) e =
      let place = at ++ part ∷ [] in
      let test = cond_some_then (is_directory_at old at) _ q e in
      rw (same_directories same at ∙ test.0)
      (elim (is_up part) as (λ up.
      cond up (steps old lo follow (parent_of at) parts) (through_node lo (λ next. steps old lo follow next parts) follow at part parts (node_at old place)) ≡ Some q
      → cond up (steps new ln follow (parent_of at) parts) (through_node ln (λ next. steps new ln follow next parts) follow at part parts (node_at new place)) ≡ Some q) [
        | true ↦ λ h. walk_still lo ln q stands links follow (parent_of at) parts h
        | false ↦ λ h. still_through ln follow at part parts q (node_at new place) _ refl (same.ways place) stands
            (by_way_then _ _ _ _ (Some q) (Some q) (way_of_node (node_at old place)) (walk_still lo ln q stands links follow place parts)
            (λ target. elim (ends_at_link follow parts) as (λ b. cond b (Some place) (lo at target parts) ≡ Some q → cond b (Some place) (ln at target parts) ≡ Some q) [ true ↦ λ h. h | false ↦ links at target parts ])
            (way_taken lo (λ next. steps old lo follow next parts) follow at part parts (node_at old place) q h))
      ] test.1)

  -- links still lead there too
  followed_still : (links : ℕ) (q : NameList) → IsSome (node_at new q) → (follow : Bool) (at : NameList) (parts : List Name) → followed old links follow at parts ≡ Some q → followed new links follow at parts ≡ Some q
  followed_still zero q stands follow at parts e = walk_still (λ folder target rest. None) (λ folder target rest. None) q stands (λ folder target rest h. h) follow at parts e
  followed_still (suc links) q stands follow at parts e =
      walk_still _ _ q stands
      (λ folder target rest. elim (bytes_eq target []) as (λ b. cond b None (followed old links follow (start_of folder target) (parts_of target ++ rest)) ≡ Some q → cond b None (followed new links follow (start_of folder target) (parts_of target ++ rest)) ≡ Some q) [
        | true ↦ λ h. h
        | false ↦ followed_still links q stands follow (start_of folder target) (parts_of target ++ rest)
      ])
      follow at parts e

-- where the ways are the same, a path still leads to what stands where it led
pub reached_still : {old new : Tree} → SameWays old new → (path : List ℕ) (follow : Bool) (q : NameList) → reached old path follow ≡ Some q → IsSome (node_at new q) → reached new path follow ≡ Some q
unfolding reached
reached_still {old} {new} same path follow q e stands =
    elim (bytes_eq path []) as (λ b. cond b None (followed old links_most follow [] (parts_of path)) ≡ Some q → cond b None (followed new links_most follow [] (parts_of path)) ≡ Some q) [
      | true ↦ λ h. h
      | false ↦ followed_still same links_most q stands follow [] (parts_of path)
    ] e

-- ---- calls on files keep the ways

-- a regular file has no way on
pub file_has_no_way : (o : Option Node) → IsSome (file_node o) → way_of_node o ≡ None
file_has_no_way None f = refl
file_has_no_way (Some node) f = by_content_of node.content f
  where
    by_content_of : (c : Content) → IsSome (file_content c) → way_of c ≡ None
    by_content_of directory f = cc
    by_content_of (link target) f = cc
    by_content_of (file bytes mode) f = refl
    by_content_of other f = cc

-- a test decides a fact
decided : (b : Bool) (P : Type 0) → (b ≡ true → P) → (P → b ≡ true) → P ⊎ (P → ⊥)
decided true P holds tests = inl (holds refl)
decided false P holds tests = inr (λ p. cc (tests p))

-- two name lists are one or not
pub same_or_other : (p q : NameList) → (p ≡ q) ⊎ (p ≢ q)
same_or_other p q =
    let d = pointwise_decides bytes_decides p q in
    decided (pointwise bytes_eq p q) (p ≡ q) d.0 d.1

-- A change at one place keeps the ways, where none stood there and none stands there now.
pub ways_kept : (place : NameList) (old new : Tree) → SameBut place old new → way_of_node (node_at old place) ≡ None → way_of_node (node_at new place) ≡ None → SameWays old new
ways_kept place old new others was is = record {
  ways = λ q. elim (same_or_other q place) [
    | inl e ↦ subst (λ x. way_of_node (node_at new x) ≡ way_of_node (node_at old x)) (sym e) (is ∙ sym was)
    | inr n ↦ ap way_of_node (others q n)
  ];
}

-- of one tree
pub same_ways : (old new : Tree) → new ≡ old → SameWays old new
same_ways old new e = record { ways = λ q. ap (λ (t : Tree). way_of_node (node_at t q)) e }

-- a new file
pub creates_ways : (old : DiskState) (path like : List ℕ) (new : DiskState) → Creates old path like new → SameWays old.tree new.tree
creates_ways old path like new c = ways_kept c.place old.tree new.tree c.others (ap way_of_node c.was_free) (file_has_no_way (node_at new.tree c.place) (ap is_some c.stands))

-- other bytes
pub writes_ways : (old : DiskState) (path bytes : List ℕ) (new : DiskState) → Writes old path bytes new → SameWays old.tree new.tree
writes_ways old path bytes new w =
    ways_kept w.place old.tree new.tree w.others (file_has_no_way (node_at old.tree w.place) (ap is_some w.was)) (file_has_no_way (node_at new.tree w.place) (ap is_some w.holds))

-- a removed file
pub removes_ways : (old : DiskState) (path : List ℕ) (new : DiskState) → Removes old path new → SameWays old.tree new.tree
removes_ways old path new r = ways_kept r.place old.tree new.tree r.others (file_has_no_way (node_at old.tree r.place) r.was_file) (ap way_of_node r.gone)

-- a renamed file
pub renames_ways : (old : DiskState) (from to : List ℕ) (new : DiskState) → Renames old from to new → SameWays old.tree new.tree
renames_ways old from to new r =
    let no_way = file_has_no_way (node_at old.tree r.source) r.is_file in
    record {
      ways = λ q. elim (same_or_other q r.target) [
        | inl e ↦ subst (λ x. way_of_node (node_at new.tree x) ≡ way_of_node (node_at old.tree x)) (sym e)
            (ap way_of_node r.moved ∙ no_way ∙ sym (elim r.may_come [ inl free ↦ ap way_of_node free | inr f ↦ file_has_no_way (node_at old.tree r.target) f ]))
        | inr n ↦ elim (same_or_other q r.source) [
          | inl e ↦ subst (λ x. way_of_node (node_at new.tree x) ≡ way_of_node (node_at old.tree x)) (sym e)
              (ap way_of_node (r.gone (λ same. n (e ∙ same))) ∙ sym no_way)
          | inr m ↦ ap way_of_node (r.others q m n)
        ]
      ];
    }

-- a write that failed
pub may_write_ways : (old : DiskState) (path : List ℕ) (new : DiskState) → MayHaveWritten old path new → SameWays old.tree new.tree
may_write_ways old path new (inl (none, same)) = same_ways old.tree new.tree same.tree
may_write_ways old path new (inr wrote) = writes_ways old path wrote.0 new wrote.1

-- a rename that failed
pub may_rename_ways : (old : DiskState) (from to : List ℕ) (new : DiskState) → MayHaveRenamed old from to new → SameWays old.tree new.tree
may_rename_ways old from to new (inl (none, same)) = same_ways old.tree new.tree same.tree
may_rename_ways old from to new (inr (inl not)) = same_ways old.tree new.tree not.tree
may_rename_ways old from to new (inr (inr moved)) = renames_ways old from to new moved
