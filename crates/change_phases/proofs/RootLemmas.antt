-- The root's path leads where it led before the change, whatever a crash left of the change.
use Rattle.std.proofs.Common.{◌≡◌, ◌≢◌, ℕ, zero, suc, List, [], ◌∷◌, ◌++◌, refl, sym, ap, ◌∙◌, true, false, cond}
use Rattle.std.specs.Prelude.{Option, Some, None}
use Rattle.std.specs.Option.{option_and_then}
use Rattle.std.specs.Str.{bytes_eq}
use Rattle.std.proofs.lemmas.Option.{same_Some}
use Rattle.sd_io.specs.Tree.{Name, NameList, Content, directory, link, file, other, Node, Tree, node_at, is_directory_node, is_directory_content, is_directory_at, file_node, file_content}
use Rattle.sd_io.specs.Paths.{Linking, through_node, ends_at_link, steps, followed, links_most, start_of, parts_of, is_up, parent_of, reached, way_of, way_of_node}
use Rattle.sd_io.specs.Lists.{directory_of}
use Rattle.sd_io.specs.Outcomes.{content_of, content_at}
use Rattle.sd_io.proofs.WayLemmas.{by_way, through_some, cond_some_then}
use Rattle.change_phases.specs.Between.{Work, IsWork, IsElsewhere, Between}
use Rattle.change_phases.proofs.WorkLemmas.{aside_free}

-- each directory and each link of the old tree stands in the new one
abbrev pub KeepsWays : Tree → Tree → Type 0
KeepsWays old new = (q : NameList) (way : Content) → way_of_node (node_at old q) ≡ Some way → way_of_node (node_at new q) ≡ Some way

directory_way : (o : Option Node) → is_directory_node o ≡ true → way_of_node o ≡ Some directory
directory_way None d = cc
directory_way (Some node) d = by node.content d
  where
    by : (c : Content) → is_directory_content c ≡ true → way_of c ≡ Some directory
    by directory d = refl
    by (link target) d = cc
    by (file bytes mode) d = cc
    by other d = cc

way_directory : (o : Option Node) → way_of_node o ≡ Some directory → is_directory_node o ≡ true
way_directory None d = cc
way_directory (Some node) d = by node.content d
  where
    by : (c : Content) → way_of c ≡ Some directory → is_directory_content c ≡ true
    by directory d = refl
    by (link target) d = cc
    by (file bytes mode) d = cc
    by other d = cc

never_ends : (parts : List Name) → ends_at_link true parts ≡ false
never_ends [] = refl
never_ends (part ∷ parts) = refl

-- where a walk goes on, by a way
through_way : (linking : Linking) (onward : NameList → Option NameList) (folder : NameList) (part : Name) (parts : List Name) (o : Option Node) (way : Content) → way_of_node o ≡ Some way
    → through_node linking onward true folder part parts o ≡ by_way (onward (folder ++ part ∷ [])) (onward (folder ++ part ∷ [])) (λ target. linking folder target parts) (Some way)
through_way linking onward folder part parts None way e = cc
through_way linking onward folder part parts (Some node) way e =
    through_some linking onward true folder part parts node
    ∙ (λ i. by_way (onward (folder ++ part ∷ [])) (onward (folder ++ part ∷ [])) (λ target. cond (never_ends parts i) (Some (folder ++ part ∷ [])) (linking folder target parts)) (e i))

module _ (old new : Tree) (kept : KeepsWays old new) (q : NameList) (there : is_directory_at old q ≡ true) where
  still_directory : (at : NameList) → is_directory_at old at ≡ true → is_directory_at new at ≡ true
  still_directory at d = way_directory (node_at new at) (kept at directory (directory_way (node_at old at) d))

  -- a walk that ends at the directory doesn't go on from a node without a way
  no_way : (lo : Linking) (place : NameList) (parts : List Name) → is_directory_at old place ≡ false → steps old lo true place parts ≡ Some q → ⊥
  no_way lo place [] none e =
      let here : place ≡ q = same_Some _ _ e in
      cc (sym none ∙ ap (is_directory_at old) here ∙ there)
  no_way lo place (part ∷ parts) none e = cc (sym none ∙ (cond_some_then (is_directory_at old place) _ q e).0)

  module _ (lo ln : Linking) (links : (folder : NameList) (target : List ℕ) (rest : List Name) → lo folder target rest ≡ Some q → ln folder target rest ≡ Some q) where
    -- on from what stands in the old tree
    on_from : (at : NameList) (part : Name) (parts : List Name) (o : Option Node) → node_at old (at ++ part ∷ []) ≡ o
        → (steps old lo true (at ++ part ∷ []) parts ≡ Some q → steps new ln true (at ++ part ∷ []) parts ≡ Some q)
        → through_node lo (λ next. steps old lo true next parts) true at part parts o ≡ Some q
        → through_node ln (λ next. steps new ln true next parts) true at part parts (node_at new (at ++ part ∷ [])) ≡ Some q
    unfolding by_way
    on_from at part parts None stands onward e = cc
    on_from at part parts (Some node) stands onward e = by node.content refl
      where
        by : (c : Content) → node.content ≡ c → through_node ln (λ next. steps new ln true next parts) true at part parts (node_at new (at ++ part ∷ [])) ≡ Some q
        by directory is =
            let way : way_of_node (node_at old (at ++ part ∷ [])) ≡ Some directory = ap way_of_node stands ∙ ap way_of is in
            let old_on : steps old lo true (at ++ part ∷ []) parts ≡ Some q =
            sym (through_way lo (λ next. steps old lo true next parts) at part parts (Some node) directory (ap way_of is)) ∙ e in
            through_way ln (λ next. steps new ln true next parts) at part parts (node_at new (at ++ part ∷ [])) directory (kept (at ++ part ∷ []) directory way) ∙ onward old_on
        by (link target) is =
            let way : way_of_node (node_at old (at ++ part ∷ [])) ≡ Some (link target) = ap way_of_node stands ∙ ap way_of is in
            let old_on : lo at target parts ≡ Some q =
            sym (through_way lo (λ next. steps old lo true next parts) at part parts (Some node) (link target) (ap way_of is)) ∙ e in
            through_way ln (λ next. steps new ln true next parts) at part parts (node_at new (at ++ part ∷ [])) (link target) (kept (at ++ part ∷ []) (link target) way) ∙ links at target parts old_on
        by (file bytes mode) is = absurd (no_way lo (at ++ part ∷ []) parts (ap is_directory_node stands ∙ ap is_directory_content is) (on_file (ap way_of is)))
          where
            on_file : way_of node.content ≡ None → steps old lo true (at ++ part ∷ []) parts ≡ Some q
            on_file none = ap (by_way (steps old lo true (at ++ part ∷ []) parts) (steps old lo true (at ++ part ∷ []) parts) (λ target. cond (ends_at_link true parts) (Some (at ++ part ∷ [])) (lo at target parts))) (sym none)
                ∙ sym (through_some lo (λ next. steps old lo true next parts) true at part parts node) ∙ e
        by other is = absurd (no_way lo (at ++ part ∷ []) parts (ap is_directory_node stands ∙ ap is_directory_content is) (on_other (ap way_of is)))
          where
            on_other : way_of node.content ≡ None → steps old lo true (at ++ part ∷ []) parts ≡ Some q
            on_other none = ap (by_way (steps old lo true (at ++ part ∷ []) parts) (steps old lo true (at ++ part ∷ []) parts) (λ target. cond (ends_at_link true parts) (Some (at ++ part ∷ [])) (lo at target parts))) (sym none)
                ∙ sym (through_some lo (λ next. steps old lo true next parts) true at part parts node) ∙ e

    walk_kept : (at : NameList) (parts : List Name) → steps old lo true at parts ≡ Some q → steps new ln true at parts ≡ Some q
    walk_kept at [] e = e
    walk_kept at (part ∷ parts) e =
        let test = cond_some_then (is_directory_at old at) _ q e in
        rw (still_directory at test.0)
        (elim (is_up part) as (λ up.
        cond up (steps old lo true (parent_of at) parts) (through_node lo (λ next. steps old lo true next parts) true at part parts (node_at old (at ++ part ∷ []))) ≡ Some q
        → cond up (steps new ln true (parent_of at) parts) (through_node ln (λ next. steps new ln true next parts) true at part parts (node_at new (at ++ part ∷ []))) ≡ Some q) [
          | true ↦ walk_kept (parent_of at) parts
          | false ↦ on_from at part parts (node_at old (at ++ part ∷ [])) refl (walk_kept (at ++ part ∷ []) parts)
        ] test.1)

  followed_kept : (links : ℕ) (at : NameList) (parts : List Name) → followed old links true at parts ≡ Some q → followed new links true at parts ≡ Some q
  followed_kept zero at parts e = walk_kept (λ folder target rest. None) (λ folder target rest. None) (λ folder target rest h. h) at parts e
  followed_kept (suc links) at parts e =
      walk_kept _ _
      (λ folder target rest. elim (bytes_eq target []) as (λ b. cond b None (followed old links true (start_of folder target) (parts_of target ++ rest)) ≡ Some q → cond b None (followed new links true (start_of folder target) (parts_of target ++ rest)) ≡ Some q) [
        | true ↦ λ h. h
        | false ↦ followed_kept links (start_of folder target) (parts_of target ++ rest)
      ])
      at parts e

  reached_kept : (path : List ℕ) → reached old path true ≡ Some q → reached new path true ≡ Some q
  unfolding reached
  reached_kept path e =
      elim (bytes_eq path []) as (λ b. cond b None (followed old links_most true [] (parts_of path)) ≡ Some q → cond b None (followed new links_most true [] (parts_of path)) ≡ Some q) [
        | true ↦ λ h. h
        | false ↦ followed_kept links_most [] (parts_of path)
      ] e

-- a path that led to a directory leads there still
pub directory_kept : (old new : Tree) → KeepsWays old new → (path : List ℕ) (q : NameList) → directory_of old path ≡ Some q → directory_of new path ≡ Some q
directory_kept old new kept path q e = by (reached old path true) refl e
  where
    by : (r : Option NameList) → reached old path true ≡ r → option_and_then (λ place. cond (is_directory_at old place) (Some place) None) r ≡ Some q → directory_of new path ≡ Some q
    by None at e = cc
    by (Some place) at e =
        let test = cond_some_then (is_directory_at old place) (Some place) q e in
        let here : place ≡ q = same_Some _ _ test.1 in
        let there : is_directory_at old q ≡ true = ap (is_directory_at old) (sym here) ∙ test.0 in
        ap (option_and_then (λ place. cond (is_directory_at new place) (Some place) None)) (reached_kept old new kept q there path (at ∙ ap (λ (p : NameList). Some p) here))
        ∙ ap (λ b. cond b (Some q) None) (still_directory old new kept q there q there)

-- what is between has the directories and links that stood before
pub between_ways : (work : Work) → IsWork work → (image : Tree) → Between work image → KeepsWays work.tree image
between_ways work is image b q way e =
    let same : content_at image q ≡ content_at work.tree q = b.elsewhere q elsewhere in
    by (node_at image q) (node_at work.tree q) same e
  where
    by : (o p : Option Node) → content_of o ≡ content_of p → way_of_node p ≡ Some way → way_of_node o ≡ Some way
    by o None same e = cc
    by None (Some n) same e = cc
    by (Some m) (Some n) same e = ap way_of (same_Some m.content n.content same) ∙ e

    not_free : node_at work.tree q ≢ None
    not_free none = cc (sym e ∙ ap way_of_node none)

    no_file : (o : Option Node) (bytes : List ℕ) (mode : ℕ) → file_node o ≡ Some (bytes, mode) → way_of_node o ≡ Some way → ⊥
    no_file None bytes mode f w = cc
    no_file (Some node) bytes mode f w = of node.content f w
      where
        of : (c : Content) → file_content c ≡ Some (bytes, mode) → way_of c ≡ Some way → ⊥
        of directory f w = cc
        of (link target) f w = cc
        of (file b m) f w = cc
        of other f w = cc

    elsewhere : IsElsewhere work q
    elsewhere = record {
      not_journal = λ h. not_free (ap (node_at work.tree) h ∙ is.no_journal);
      no_file = λ f has h. let (bytes, mode, was) = is.are_files f has in no_file (node_at work.tree q) bytes mode (ap (λ (p : NameList). file_node (node_at work.tree p)) h ∙ was) e;
      not_aside = λ a. not_free (aside_free work is q a);
    }
