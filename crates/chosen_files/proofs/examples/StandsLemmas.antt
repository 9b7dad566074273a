-- What stands in a tree of a few nodes, and where one name leads from its top.
use Rattle.std.proofs.Common.{◌≡◌, ◌≢◌, ℕ, Bool, true, false, cond, List, [], ◌∷◌, ◌++◌, map, Some, None, refl, sym, ◌∙◌, ap, inl, inr}
use Rattle.std.specs.Prelude.{Option, IsSome, is_some, ◌||◌}
use Rattle.std.specs.List.{list_any}
use Rattle.std.specs.Ordering.{eq_by_cmp}
use Rattle.std.specs.Str.{bytes_eq}
use Rattle.std.specs.Cmp.Lexicographic.{lists_total, nat_list_cmp_total}
use Rattle.std.specs.FinMap.{find, get-from_entries, nat_cmp-IsAntisymmetric, slice_cmp-IsAntisymmetric}
use Rattle.std.specs.FinMap.Entries.{is_some-find}
use Rattle.std.proofs.lemmas.Map.Views.{tells_apart}
use Rattle.sd_io.specs.Tree.{Name, NameList, Content, directory, link, file, other, Node, Tree, name_list_cmp, node_at, is_directory_at}
use Rattle.sd_io.specs.Paths.{Linking, through_node, steps, followed, links_most, start_of, parts_of, is_up, reached}
use Rattle.walk_rest.specs.Examples.{tree_with}
use Rattle.chosen_files.proofs.laws.PlaceLemmas.{In}

-- ---- nodes

-- what stands at a place
pub node_is : (nodes : List (NameList × Node)) (place : NameList) → node_at (tree_with nodes) place ≡ find name_list_cmp place nodes
unfolding tree_with
node_is nodes place = get-from_entries (lists_total nat_list_cmp_total) nodes place

-- what the order doesn't tell apart is one
key_of : (place : NameList) (keys : List NameList) → list_any (eq_by_cmp name_list_cmp place) keys ≡ true → In place keys
key_of place [] e = cc
key_of place (key ∷ keys) e = by (key_of place keys) (eq_by_cmp name_list_cmp place key) refl e
  where
    by : (list_any (eq_by_cmp name_list_cmp place) keys ≡ true → In place keys)
        → (same : Bool) → eq_by_cmp name_list_cmp place key ≡ same → same || list_any (eq_by_cmp name_list_cmp place) keys ≡ true → In place (key ∷ keys)
    by rest true same e = inl (sym (tells_apart (slice_cmp-IsAntisymmetric (slice_cmp-IsAntisymmetric nat_cmp-IsAntisymmetric)) place key same))
    by rest false same e = inr (rest e)

-- where something stands, a node was given
pub stands_at_key : (nodes : List (NameList × Node)) (place : NameList) → IsSome (node_at (tree_with nodes) place) → In place (map (λ e. e.0) nodes)
stands_at_key nodes place stands =
    key_of place (map (λ e. e.0) nodes) (sym (is_some-find name_list_cmp place nodes) ∙ ap is_some (sym (node_is nodes place)) ∙ stands)

-- ---- where one name leads

module _ (tree : Tree) (top : is_directory_at tree [] ≡ true) (path : List ℕ) (name : Name) (some : bytes_eq path [] ≡ false) (parts : parts_of path ≡ name ∷ [])
    (down : is_up name ≡ false) where
  -- the one step
  one_step : (linking : Linking) (found : Option Node) → node_at tree (name ∷ []) ≡ found
      → steps tree linking true [] (name ∷ []) ≡ through_node linking (λ next. steps tree linking true next []) true [] name [] found
  one_step linking found stands = rw (top, down, stands) refl

  -- what a link does
  abbrev links : Linking
  links folder target rest = cond (bytes_eq target []) None (followed tree 39 true (start_of folder target) (parts_of target ++ rest))

  by_name : (r : Option NameList) → ((linking : Linking) → steps tree linking true [] (name ∷ []) ≡ r) → reached tree path true ≡ r
  unfolding reached
  by_name r leads = ap (λ b. cond b None (followed tree links_most true [] (parts_of path))) some ∙ ap (followed tree links_most true []) parts ∙ leads links

  -- to a node that is no link
  pub leads_to : (content : Content) (dev ino : ℕ) → node_at tree (name ∷ []) ≡ Some (record { content = content; dev = dev; ino = ino })
      → ((target : List ℕ) → content ≢ link target) → reached tree path true ≡ Some (name ∷ [])
  leads_to content dev ino stands no_link = by_name (Some (name ∷ [])) (λ linking. one_step linking _ stands ∙ by linking content no_link)
    where
      by : (linking : Linking) (c : Content) → ((target : List ℕ) → c ≢ link target)
          → through_node linking (λ next. steps tree linking true next []) true [] name [] (Some (record { content = c; dev = dev; ino = ino })) ≡ Some (name ∷ [])
      by linking directory none = refl
      by linking (link target) none = absurd (none target refl)
      by linking (file bytes mode) none = refl
      by linking other none = refl

  -- to nothing
  pub leads_nowhere : node_at tree (name ∷ []) ≡ None → reached tree path true ≡ None
  leads_nowhere free = by_name None (λ linking. one_step linking None free)
