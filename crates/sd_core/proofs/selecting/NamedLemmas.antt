-- The paths of files.
use Rattle.std.proofs.Common.{◌≡◌, ℕ, Bool, true, false, List, [], ◌∷◌, refl, sym, ap, subst}
use Rattle.std.specs.Prelude.{IsTrue, All, ◌==◌, ◌↔◌, not}
use Rattle.std.specs.List.{list_all, filter}
use Rattle.std.proofs.lemmas.List.Elements.{All-weaker, All-head, All-tail, filter_passes}
use Rattle.sd_io.specs.Tree.{Tree, IsTree}
use Rattle.chosen_files.specs.Chosen.{ListsChosen}
use Rattle.chosen_files.proofs.RootLemmas.{chosen_lead}
use Rattle.file_rewrite.specs.Paths.{IsNoPath}
use Rattle.many_files.specs.Files.{ListsFiles}
use Rattle.many_files.proofs.ListedLemmas.{listed_named}
use Rattle.sd_core.specs.Sweep.{may_name_file}

module _ (tree : Tree) (is : IsTree tree) (root : List ℕ) (globs paths : List (List ℕ)) (chosen : ListsChosen tree root globs paths) where
  pub lists_files : ListsFiles tree paths chosen.places
  lists_files = record {
    lead = chosen_lead tree is root globs paths chosen;
    in_order = chosen.chosen.in_order;
    are_files = λ place c. ((chosen.chosen.these place).0 c).is_file;
  }

  pub all_named : All (λ path. IsNoPath path → ⊥) paths
  all_named = listed_named tree is paths chosen.places lists_files

-- what is kept of the paths of all chosen files is all of them
pub chosen_kept : (tree : Tree) (is : IsTree tree) (root : List ℕ) (globs read paths kept : List (List ℕ)) → read ≡ globs → ListsChosen tree root read paths
    → (All (λ path. IsNoPath path → ⊥) paths → kept ≡ paths) → ListsChosen tree root globs kept
chosen_kept tree is root globs read paths kept same listed keeps =
    let one = subst (λ (list : List (List ℕ)). ListsChosen tree root list paths) same listed in
    subst (ListsChosen tree root globs) (sym (keeps (all_named tree is root globs paths one))) one

-- ---- paths that are kept

pub not_same : (a b : Bool) → IsTrue a ↔ (b ≡ true) → not a ≡ not b
not_same true true h = refl
not_same true false h = (let e : false ≡ true = h.0 refl in cc)
not_same false true h = (let e : false ≡ true = h.1 refl in cc)
not_same false false h = refl

not_so : (b : Bool) → (b ≡ true → ⊥) → not b ≡ true
not_so true never = absurd (never refl)
not_so false never = refl

no_more : (b : Bool) → not b ≡ true → b ≡ true → ⊥
no_more true e is = cc
no_more false e is = cc

-- all that name a file are kept
pub all_kept : (paths : List (List ℕ)) → All (λ path. IsNoPath path → ⊥) paths → filter may_name_file paths ≡ paths
all_kept [] named = refl
all_kept (path ∷ paths) named =
    let yes : may_name_file path ≡ true = not_so (list_all (λ byte. byte == 47) path) (All-head (λ p. IsNoPath p → ⊥) path paths named) in
    rw yes (ap (λ (list : List (List ℕ)). path ∷ list) (all_kept paths (All-tail (λ p. IsNoPath p → ⊥) path paths named)))

pub kept_named : (paths : List (List ℕ)) → All (λ path. IsNoPath path → ⊥) (filter may_name_file paths)
kept_named paths =
    All-weaker (λ path. may_name_file path ≡ true) (λ path. IsNoPath path → ⊥) (λ path e is. no_more (list_all (λ byte. byte == 47) path) e is) (filter may_name_file paths) (filter_passes may_name_file paths)
