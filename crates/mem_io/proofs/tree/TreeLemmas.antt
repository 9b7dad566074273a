-- What changes of a tree keep of it.
use Rattle.std.proofs.Common.{◌≡◌, ◌≢◌, ◌⊎◌, ◌+◌, ℕ, List, [], ◌∷◌, ◌++◌, refl, sym, ◌∙◌, ap, inl, inr, ⊎_elim, arith}
use Rattle.std.specs.Prelude.{Option, Some, None, is_some, IsSome, IsTrue, option_map}
use Rattle.std.specs.Option.{option_map_or}
use Rattle.std.specs.declared.cmp.Ordering.{Ordering}
use Rattle.std.specs.declared.cmp.Ordering.TheVariants.{Less, Equal, Greater}
use Rattle.std.proofs.lemmas.Cmp.{tied_itself}
use Rattle.sd_io.specs.Tree.{Name, NameList, Content, directory, link, file, other, Node, Tree, name_list_cmp, node_at, file_at, file_node, file_content, is_directory_at, is_directory_node, is_directory_content, IsName}
use Rattle.mem_io.specs.MemNode.{with_bytes, content_with}
use Rattle.mem_io.specs.MemTree.{IsPlaceIn, Adds, PutsBytes, TakesAway, Moves}
use Rattle.mem_io.specs.MemSound.{IsNumbered}
use Rattle.mem_io.proofs.tree.EntryLemmas.{name_list_total, name_list_exact}

-- ---- places

-- two places are one or not
pub same_or_other : (p q : NameList) → (p ≡ q) ⊎ (p ≢ q)
same_or_other p q = by (name_list_cmp p q) refl
  where
    by : (r : Ordering) → name_list_cmp p q ≡ r → (p ≡ q) ⊎ (p ≢ q)
    by Less e = inr (λ same. cc (ap (name_list_cmp p) same ∙ e, tied_itself name_list_total p))
    by Equal e = inl (name_list_exact p q e)
    by Greater e = inr (λ same. cc (ap (name_list_cmp p) same ∙ e, tied_itself name_list_total p))

-- a name below a folder is not the top
pub below_top : (folder : NameList) (name : Name) → folder ++ name ∷ [] ≢ []
below_top [] name e = cc
below_top (x ∷ folder) name e = cc

-- places are one only in one folder and under one name
pub same_ends : (f g : NameList) (m n : Name) → f ++ m ∷ [] ≡ g ++ n ∷ [] → (f ≡ g) × (m ≡ n)
same_ends [] [] m n e = (refl, cc)
same_ends [] (y ∷ g) m n e = let rest : g ++ n ∷ [] ≡ [] = cc in absurd (below_top g n rest)
same_ends (x ∷ f) [] m n e = let rest : f ++ m ∷ [] ≡ [] = cc in absurd (below_top f m rest)
same_ends (x ∷ f) (y ∷ g) m n e =
    let rest : f ++ m ∷ [] ≡ g ++ n ∷ [] = cc in
    let h = same_ends f g m n rest in
    let head : x ≡ y = cc in
    let folder = h.0 in
    (cc, h.1)

-- ---- kinds

-- a regular file is no directory
pub file_or_directory : (o : Option Node) → IsSome (file_node o) → IsTrue (is_directory_node o) → ⊥
file_or_directory None f d = cc
file_or_directory (Some node) f d = by node.content f d
  where
    by : (content : Content) → IsSome (file_content content) → IsTrue (is_directory_content content) → ⊥
    by directory f d = cc
    by (link target) f d = cc
    by (file bytes mode) f d = cc
    by other f d = cc

-- a directory is something
directory_stands : (o : Option Node) → IsTrue (is_directory_node o) → o ≢ None
directory_stands o d e = cc (ap is_directory_node e, d)

-- other bytes leave a directory as one
same_kind : (o : Option Node) (bytes : List ℕ) → is_directory_node (option_map (λ node. with_bytes node bytes) o) ≡ is_directory_node o
same_kind None bytes = refl
same_kind (Some node) bytes = by node.content
  where
    by : (content : Content) → is_directory_content (content_with content bytes) ≡ is_directory_content content
    by directory = refl
    by (link target) = refl
    by (file old mode) = refl
    by other = refl

-- other bytes neither add nor remove a node
same_presence : (o : Option Node) (bytes : List ℕ) → is_some (option_map (λ node. with_bytes node bytes) o) ≡ is_some o
same_presence None bytes = refl
same_presence (Some node) bytes = refl

-- a node with other bytes was one with its number
old_bytes : (o : Option Node) (bytes : List ℕ) (n : Node) → option_map (λ node. with_bytes node bytes) o ≡ Some n → (m : Node) × (o ≡ Some m) × (n.ino ≡ m.ino)
old_bytes None bytes n e = cc
old_bytes (Some m) bytes n e = (m, refl, let same : n ≡ with_bytes m bytes = cc in ap (λ (x : Node). x.ino) same)

-- ---- parents and names

-- the top is a directory, and so is every parent; names are names
pub record IsRooted (tree : Tree) : Type 0 where
  pub top : IsTrue (is_directory_at tree [])
  pub parents : (folder : NameList) (name : Name) → IsSome (node_at tree (folder ++ name ∷ [])) → IsTrue (is_directory_at tree folder)
  pub names : (folder : NameList) (name : Name) → IsSome (node_at tree (folder ++ name ∷ [])) → IsName name

-- directories stay, and what stands stood or is in a place for it
record Grows (old new : Tree) : Type 0 where
  directories : (q : NameList) → IsTrue (is_directory_at old q) → IsTrue (is_directory_at new q)
  nodes : (q : NameList) → IsSome (node_at new q) → IsSome (node_at old q) ⊎ IsPlaceIn old q

-- then parents and names are kept
grown : (old new : Tree) → IsRooted old → Grows old new → IsRooted new
grown old new r g = record {
  top = g.directories [] r.top;
  parents = λ folder name s. g.directories folder (⊎_elim (λ t. r.parents folder name t) (λ p. let ends = same_ends folder p.folder name p.name p.place_is in rw ends.0 p.in_directory) (g.nodes (folder ++ name ∷ []) s));
  names = λ folder name s. ⊎_elim (λ t. r.names folder name t) (λ p. let ends = same_ends folder p.folder name p.name p.place_is in rw ends.1 p.is_name) (g.nodes (folder ++ name ∷ []) s);
}

-- a directory that stays is one
kept_directory : (old new : Tree) (q : NameList) → node_at new q ≡ node_at old q → IsTrue (is_directory_at old q) → IsTrue (is_directory_at new q)
kept_directory old new q e d = ap is_directory_node e ∙ d

-- a node that stays stood before
kept_node : (old new : Tree) (q : NameList) → node_at new q ≡ node_at old q → IsSome (node_at new q) → IsSome (node_at old q)
kept_node old new q e s = ap is_some (sym e) ∙ s

-- what is added in a directory has its parent
pub rooted_added : (old new : Tree) (place : NameList) (content : Content) (ino : ℕ) → IsRooted old → IsPlaceIn old place → node_at old place ≡ None → Adds old place content ino new → IsRooted new
rooted_added old new place content ino r is_place free a = grown old new r (record {
  directories = λ q d. kept_directory old new q (a.others q (λ e. directory_stands _ d (ap (node_at old) e ∙ free))) d;
  nodes = λ q s. ⊎_elim (λ e. inr (rw e is_place)) (λ ne. inl (kept_node old new q (a.others q ne) s)) (same_or_other q place);
})

-- other bytes change no parent
pub rooted_put : (old new : Tree) (place : NameList) (bytes : List ℕ) → IsRooted old → PutsBytes old place bytes new → IsRooted new
rooted_put old new place bytes r p = grown old new r (record {
  directories = λ q d. ⊎_elim (λ e. rw e (ap is_directory_node p.holds ∙ same_kind (node_at old place) bytes ∙ rw e at d)) (λ ne. kept_directory old new q (p.others q ne) d) (same_or_other q place);
  nodes = λ q s. inl (⊎_elim (λ e. rw e (sym (same_presence (node_at old place) bytes) ∙ ap is_some (sym p.holds) ∙ rw e at s)) (λ ne. kept_node old new q (p.others q ne) s) (same_or_other q place));
})

-- a regular file is nobody's parent
pub rooted_taken : (old new : Tree) (place : NameList) → IsRooted old → IsSome (file_at old place) → TakesAway old place new → IsRooted new
rooted_taken old new place r f t = grown old new r (record {
  directories = λ q d. kept_directory old new q (t.others q (λ e. file_or_directory (node_at old place) f (rw e at d))) d;
  nodes = λ q s. inl (⊎_elim (λ e. cc (ap (λ p. is_some (node_at new p)) e, ap is_some t.gone, s)) (λ ne. kept_node old new q (t.others q ne) s) (same_or_other q place));
})

-- a regular file that is moved has its parent
pub rooted_moved : (old new : Tree) (from to : NameList) → IsRooted old → from ≢ to → IsSome (file_at old from) → IsPlaceIn old to → (node_at old to ≡ None) ⊎ IsSome (file_at old to) → Moves old from to new → IsRooted new
rooted_moved old new from to r differ f is_place may_come m = grown old new r (record {
  directories = λ q d. kept_directory old new q (m.others q (λ e. file_or_directory (node_at old from) f (rw e at d))
      (λ e. ⊎_elim (λ free. directory_stands _ d (ap (node_at old) e ∙ free)) (λ g. file_or_directory (node_at old to) g (rw e at d)) may_come)) d;
  nodes = λ q s. ⊎_elim (λ e. cc (ap (λ p. is_some (node_at new p)) e, ap is_some (m.gone differ), s))
      (λ ne. ⊎_elim (λ e. inr (rw e is_place)) (λ nf. inl (kept_node old new q (m.others q ne nf) s)) (same_or_other q to)) (same_or_other q from);
})

-- ---- inode numbers

-- a node had its number before, at a place that tells its own
record Came (old : Tree) (back : NameList → NameList) (q : NameList) (n : Node) : Type 0 where
  place : NameList
  node : Node
  stood : node_at old place ≡ Some node
  ino : n.ino ≡ node.ino
  place_is : q ≡ back place

-- then the numbers are kept
came_numbered : (old new : Tree) (next : ℕ) (back : NameList → NameList) → IsNumbered old next → ((q : NameList) (n : Node) → node_at new q ≡ Some n → Came old back q n) → IsNumbered new next
came_numbered old new next back i came = record {
  below = λ q n s. let c = came q n s in let lt = i.below c.place c.node c.stood in rw c.ino lt;
  apart = λ p q m n s t e.
      let a = came p m s in
      let b = came q n t in
      a.place_is ∙ ap back (i.apart a.place b.place a.node b.node a.stood b.stood (sym a.ino ∙ e ∙ b.ino)) ∙ sym b.place_is;
}

-- a node of the new tree is the one that was added, or an old one
added_or_old : (old new : Tree) (place : NameList) (content : Content) (next : ℕ) → Adds old place content next new → (q : NameList) (n : Node) → node_at new q ≡ Some n → ((q ≡ place) × (n.ino ≡ next)) ⊎ (node_at old q ≡ Some n)
added_or_old old new place content next a q n s = ⊎_elim
    (λ e. inl (e, ap (λ o. option_map_or (λ (x : Node). x.ino) o 0) (sym (rw e at s) ∙ a.stands)))
    (λ ne. inr (sym (a.others q ne) ∙ s)) (same_or_other q place)

-- the next number is a new one
pub numbered_added : (old new : Tree) (place : NameList) (content : Content) (next : ℕ) → IsNumbered old next → Adds old place content next new → IsNumbered new (next + 1)
numbered_added old new place content next i a =
    let split = added_or_old old new place content next a in
    record {
      below = λ q n s. ⊎_elim (λ h. omega (arith, h.1)) (λ h. omega (arith, i.below q n h)) (split q n s);
      apart = λ p q m n s t e. ⊎_elim
          (λ g. ⊎_elim (λ h. g.0 ∙ sym h.0) (λ h. absurd (omega (arith, g.1, e, i.below q n h))) (split q n t))
          (λ g. ⊎_elim (λ h. absurd (omega (arith, h.1, e, i.below p m g))) (λ h. i.apart p q m n g h e) (split q n t)) (split p m s);
    }

-- other bytes keep the numbers
pub numbered_put : (old new : Tree) (place : NameList) (bytes : List ℕ) (next : ℕ) → IsNumbered old next → PutsBytes old place bytes new → IsNumbered new next
numbered_put old new place bytes next i p = came_numbered old new next (λ q. q) i (λ q n s. ⊎_elim
    (λ e. let was = old_bytes (node_at old place) bytes n (sym p.holds ∙ rw e at s) in record { place = place; node = was.0; stood = was.1; ino = was.2; place_is = e })
    (λ ne. record { place = q; node = n; stood = sym (p.others q ne) ∙ s; ino = refl; place_is = refl }) (same_or_other q place))

-- a node less keeps the numbers
pub numbered_taken : (old new : Tree) (place : NameList) (next : ℕ) → IsNumbered old next → TakesAway old place new → IsNumbered new next
numbered_taken old new place next i t = came_numbered old new next (λ q. q) i (λ q n s. ⊎_elim
    (λ e. cc (sym t.gone ∙ rw e at s))
    (λ ne. record { place = q; node = n; stood = sym (t.others q ne) ∙ s; ino = refl; place_is = refl }) (same_or_other q place))

-- where the node of a place stands after a move
after_move : NameList → NameList → NameList → NameList
after_move from to p = ⊎_elim (λ _. to) (λ _. p) (same_or_other p from)

-- the node of the first place stands at the second
after_move_from : (from to : NameList) → to ≡ after_move from to from
unfolding after_move
after_move_from from to = elim (same_or_other from from) as (λ h. to ≡ ⊎_elim (λ _. to) (λ _. from) h) [ inl e ↦ refl | inr ne ↦ absurd (ne refl) ]

-- every other stays
after_move_other : (from to p : NameList) → p ≢ from → p ≡ after_move from to p
unfolding after_move
after_move_other from to p ne = elim (same_or_other p from) as (λ h. p ≡ ⊎_elim (λ _. to) (λ _. p) h) [ inl e ↦ absurd (ne e) | inr _ ↦ refl ]

-- a move keeps the numbers
pub numbered_moved : (old new : Tree) (from to : NameList) (next : ℕ) → IsNumbered old next → from ≢ to → Moves old from to new → IsNumbered new next
numbered_moved old new from to next i differ m = came_numbered old new next (after_move from to) i (λ q n s. ⊎_elim
    (λ e. cc (sym (m.gone differ) ∙ rw e at s))
    (λ ne. ⊎_elim
    (λ e. record { place = from; node = n; stood = sym m.moved ∙ rw e at s; ino = refl; place_is = e ∙ after_move_from from to })
    (λ nf. record { place = q; node = n; stood = sym (m.others q ne nf) ∙ s; ino = refl; place_is = after_move_other from to q ne }) (same_or_other q to))
    (same_or_other q from))
