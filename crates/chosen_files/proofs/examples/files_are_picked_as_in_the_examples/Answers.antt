use Rattle.std.proofs.Common.{◌≡◌, ◌∙◌, ℕ, List, inl, inr, refl, ap, arith}
use Rattle.std.specs.Prelude.{codes, [], ◌∷◌}
use Rattle.walk_rest.specs.Examples.{tree_with}
use Rattle.walk_rest.specs.Plan.{path_below}
use Rattle.chosen_files.specs.Examples.{d_nodes, d_items}
use Rattle.chosen_files.specs.Picks.{Picks}
use Rattle.chosen_files.proofs.examples.TreeLemmas.{root_not, a_picked, e_not, l_not, s_not, b_picked, b_not, picked_path, stars_fit_a, stars_fit_b, star_fits_a, star_not_b}
use Rattle.chosen_files.proofs.examples.files_are_picked_as_in_the_examples.Goals as goal

-- both files, by their paths below a root
both : (root a_path b_path : List ℕ) → (a_path ≡ path_below root (codes "a")) → (b_path ≡ path_below root (codes "s/b"))
    → Picks (tree_with d_nodes) root (codes "/d") (codes "**" ∷ []) d_items (a_path ∷ b_path ∷ [])
both root a_path b_path a_is b_is =
    let globs = codes "**" ∷ [] in
    let a = a_picked globs stars_fit_a in
    let b = b_picked globs stars_fit_b in
    let a_path_is = a_is ∙ picked_path globs root (codes "a") _ refl a in
    let b_path_is = b_is ∙ picked_path globs root (codes "s/b") _ refl b in
    inr (
      root_not globs,
      inl (
        a,
        b_path ∷ [],
        ap (λ (path : List ℕ). path ∷ b_path ∷ []) a_path_is,
        inr (e_not globs, inr (l_not globs, inr (s_not globs, inl (b, [], ap (λ (path : List ℕ). path ∷ []) b_path_is, refl)))),
      ),
    )

pub returns-clause-any_depth : goal.returns-clause-any_depth
returns-clause-any_depth c = both (codes "/d") (codes "/d/a") (codes "/d/s/b") refl refl

pub returns-clause-other_roots : goal.returns-clause-other_roots
returns-clause-other_roots c = both (codes "d/./") (codes "d/./a") (codes "d/./s/b") refl refl

pub returns-clause-one_name : goal.returns-clause-one_name
returns-clause-one_name c =
    let globs = codes "*" ∷ [] in
    let a = a_picked globs star_fits_a in
    let b = b_not globs star_not_b in
    inr (
      root_not globs,
      inl (
        a,
        [],
        ap (λ (path : List ℕ). path ∷ []) (picked_path globs (codes "/d") (codes "a") _ refl a),
        inr (e_not globs, inr (l_not globs, inr (s_not globs, inr (b, refl)))),
      ),
    )

pub returns-clause-no_directory : goal.returns-clause-no_directory
returns-clause-no_directory c = inr ((λ picked. let deep = picked.below_top in absurd (omega (arith, deep))), refl)
