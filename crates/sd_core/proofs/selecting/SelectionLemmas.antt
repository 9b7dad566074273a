-- What holds of the files that are selected.
use Rattle.std.proofs.Common.{◌≡◌, ◌≢◌, ◌∙◌, ℕ, List, [], ◌∷◌, ◌++◌, map, refl, sym, ap, subst, inl, inr}
use Rattle.std.specs.Prelude.{◌↔◌, All, Contains, Some, true}
use Rattle.std.proofs.lemmas.List.{append_cancel_left}
use Rattle.std.proofs.lemmas.Option.{same_Some}
use Rattle.sd_io.specs.Paths.{reached}
use Rattle.sd_io.specs.Tree.{NameList, Tree, IsTree, IsNonemptyFile}
use Rattle.sd_ignore.specs.declared.rule.Rule.{Rule}
use Rattle.chosen_files.specs.Chosen.{IsChosen, ListsChosen, path_from}
use Rattle.chosen_files.specs.Kept.{IsKept, ListsKept}
use Rattle.chosen_files.proofs.PlaceLemmas.{In, contains_from_in}
use Rattle.chosen_files.proofs.RootLemmas.{file_leads}
use Rattle.file_rewrite.specs.Paths.{IsNoPath}
use Rattle.many_files.specs.Files.{ListsFiles}
use Rattle.many_files.proofs.ListedLemmas.{listed_named}
use Rattle.sd_core.specs.Selection.{Selection, by_globs, by_rules, IsChosenBelow, IsKeptBelow}
use Rattle.sd_core.proofs.selecting.NamedLemmas.{lists_files}

-- The places of a list are the selected ones, and regular nonempty files stand there.
pub record IsSelection (selection : Selection) : Type 0 where
  pub these : (tree : Tree) (paths : List (List ℕ)) (places : List NameList) → selection.Lists tree paths places → (q : NameList) → Contains places q ↔ selection.IsOne tree q
  pub files : (tree : Tree) → IsTree tree → (paths : List (List ℕ)) (places : List NameList) → selection.Lists tree paths places → ListsFiles tree paths places

module _ (root : List ℕ) (globs : List (List ℕ)) where
  chosen_these : (tree : Tree) (paths : List (List ℕ)) (chosen : ListsChosen tree root globs paths) (q : NameList) → Contains chosen.places q ↔ IsChosenBelow tree root globs q
  chosen_these tree paths chosen q = (
    (λ c. (chosen.top, chosen.leads, (chosen.chosen.these q).0 c)),
    (λ (top, leads, is).
        let one : top ≡ chosen.top = same_Some top chosen.top (sym leads ∙ chosen.leads) in
        (chosen.chosen.these q).1 (subst (λ (t : NameList). IsChosen tree t globs q) one is)),
  )

  pub globs_select : IsSelection (by_globs root globs)
  globs_select = record {
    these = λ tree paths places (chosen, is) q. subst (λ (list : List NameList). Contains list q ↔ IsChosenBelow tree root globs q) (sym is) (chosen_these tree paths chosen q);
    files = λ tree tree_is paths places (chosen, is). subst (ListsFiles tree paths) (sym is) (lists_files tree tree_is root globs paths chosen);
  }

-- ---- kept files

module _ (root : List ℕ) (globs : List (List ℕ)) (rules : List Rule) where
  kept_these : (tree : Tree) (paths : List (List ℕ)) (kept : ListsKept tree root globs rules paths) (q : NameList) → Contains kept.places q ↔ IsKeptBelow tree root globs rules q
  kept_these tree paths kept q = (
    (λ c. (kept.top, kept.leads, (kept.kept.these q).0 c)),
    (λ (top, leads, is).
        let one : top ≡ kept.top = same_Some top kept.top (sym leads ∙ kept.leads) in
        (kept.kept.these q).1 (subst (λ (t : NameList). IsKept tree t globs rules q) one is)),
  )

  module _ (tree : Tree) (is : IsTree tree) (paths : List (List ℕ)) (kept : ListsKept tree root globs rules paths) where
    in_map : (names : List NameList) (below : NameList) → In below names → In (kept.top ++ below) (map (λ names. kept.top ++ names) names)
    in_map (first ∷ names) below (inl e) = inl (ap (λ (q : NameList). kept.top ++ q) e)
    in_map (first ∷ names) below (inr i) = inr (in_map names below i)
    in_map [] below i = absurd i

    kept_names : (below : NameList) → In below kept.names → (below ≢ []) × IsNonemptyFile tree (kept.top ++ below)
    kept_names below i =
        let there = subst (λ (places : List NameList). In (kept.top ++ below) places) (sym kept.places_are) (in_map kept.names below i) in
        let one = ((kept.kept.these (kept.top ++ below)).0 (contains_from_in kept.places (kept.top ++ below) there)).chosen in
        ((λ none. one.proper (sym (append_cancel_left kept.top below one.names one.below) ∙ none)), one.is_file)

    lead_each : (names : List NameList) → ((below : NameList) → In below names → (below ≢ []) × IsNonemptyFile tree (kept.top ++ below))
        → map (λ path. reached tree path true) (map (path_from root) names) ≡ map (λ place. Some place) (map (λ below. kept.top ++ below) names)
    lead_each [] files = refl
    lead_each (below ∷ names) files =
        let (some, is_file) = files below (inl refl) in
        let first = file_leads tree is root kept.top below kept.leads some is_file in
        let rest = lead_each names (λ q i. files q (inr i)) in
        λ i. first i ∷ rest i

    kept_files : ListsFiles tree paths kept.places
    kept_files = record {
      lead = ap (map (λ path. reached tree path true)) kept.paths_are ∙ lead_each kept.names kept_names ∙ ap (map (λ place. Some place)) (sym kept.places_are);
      in_order = kept.kept.in_order;
      are_files = λ place c. ((kept.kept.these place).0 c).chosen.is_file;
    }

  pub rules_select : IsSelection (by_rules root globs rules)
  rules_select = record {
    these = λ tree paths places (kept, is) q. subst (λ (list : List NameList). Contains list q ↔ IsKeptBelow tree root globs rules q) (sym is) (kept_these tree paths kept q);
    files = λ tree tree_is paths places (kept, is). subst (ListsFiles tree paths) (sym is) (kept_files tree tree_is paths kept);
  }

-- the paths of a list name files
pub selected_named : (selection : Selection) → IsSelection selection → (tree : Tree) (is : IsTree tree) (paths : List (List ℕ)) (places : List NameList) → selection.Lists tree paths places
    → All (λ path. IsNoPath path → ⊥) paths
selected_named selection law tree is paths places listed = listed_named tree is paths places (law.files tree is paths places listed)

-- what is kept of the paths of all kept files is all of them
pub kept_kept : (tree : Tree) (is : IsTree tree) (root : List ℕ) (globs read : List (List ℕ)) (rules : List Rule) (paths kept : List (List ℕ)) → read ≡ globs → ListsKept tree root read rules paths
    → (All (λ path. IsNoPath path → ⊥) paths → kept ≡ paths) → ListsKept tree root globs rules kept
kept_kept tree is root globs read rules paths kept same listed keeps =
    let one = subst (λ (list : List (List ℕ)). ListsKept tree root list rules paths) same listed in
    subst (ListsKept tree root globs rules) (sym (keeps (selected_named (by_rules root globs rules) (rules_select root globs rules) tree is paths one.places (one, refl)))) one
