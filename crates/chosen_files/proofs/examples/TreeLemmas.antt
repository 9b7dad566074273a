-- Where paths of the examples' tree lead, and which of its entries are picked.
use Rattle.std.proofs.Common.{◌≡◌, ◌≢◌, ◌<◌, ℕ, true, false, cond, List, [], ◌∷◌, ◌++◌, Option, Some, None, refl, sym, ◌∙◌, ap, subst, arith}
use Rattle.std.specs.Prelude.{codes, slice_get}
use Rattle.std.specs.Option.{option_and_then}
use Rattle.std.specs.Str.{bytes_eq}
use Rattle.std.specs.FinMap.{find}
use Rattle.std.proofs.lemmas.Option.{same_Some}
use Rattle.sd_io.specs.Tree.{Name, NameList, Content, directory, link, file, other, Node, Tree, name_list_cmp, node_at, is_directory_at, is_directory_node}
use Rattle.sd_io.specs.Paths.{Linking, through_node, steps, followed, start_of, parts_of, is_up, reached}
use Rattle.sd_io.specs.Files.{len_of}
use Rattle.sd_io.specs.declared.meta.Kind.TheVariants as kind
use Rattle.walk_rest.specs.declared.entry.DirEntry.{DirEntry}
use Rattle.walk_rest.specs.Examples.{tree_with}
use Rattle.walk_rest.specs.Plan.{node_to, path_below}
use Rattle.chosen_files.specs.Examples.{d_nodes}
use Rattle.chosen_files.specs.Globs.{FitsAny}
use Rattle.chosen_files.specs.Picks.{IsPicked}
use Rattle.chosen_files.proofs.laws.BelowLemmas.{same_below}
use Rattle.chosen_files.proofs.examples.GlobLemmas.{fits_one, fits_only}
use Rattle.chosen_files.proofs.examples.StandsLemmas.{node_is}

-- ---- the tree

stands : (place : NameList) → node_at (tree_with d_nodes) place ≡ find name_list_cmp place d_nodes
stands place = node_is d_nodes place

-- a step from a directory to what is no link
step_down : (tree : Tree) (linking : Linking) (at : NameList) (part : Name) (parts : List Name) (c : Content) (dev ino : ℕ)
    → ((target : List ℕ) → c ≢ link target) → is_directory_at tree at ≡ true → is_up part ≡ false
    → node_at tree (at ++ part ∷ []) ≡ Some (record { content = c; dev = dev; ino = ino })
    → steps tree linking false at (part ∷ parts) ≡ steps tree linking false (at ++ part ∷ []) parts
step_down tree linking at part parts c dev ino no_link there up stands = rw (there, up, stands) (by c no_link)
  where
    by : (c : Content) → ((target : List ℕ) → c ≢ link target)
        → through_node linking (λ next. steps tree linking false next parts) false at part parts (Some (record { content = c; dev = dev; ino = ino }))
        ≡ steps tree linking false (at ++ part ∷ []) parts
    by directory none = refl
    by (link target) none = absurd (none target refl)
    by (file bytes mode) none = refl
    by other none = refl

is_folder : (place : NameList) (dev ino : ℕ) → find name_list_cmp place d_nodes ≡ Some (record { content = directory; dev = dev; ino = ino })
    → is_directory_at (tree_with d_nodes) place ≡ true
is_folder place dev ino e = ap is_directory_node (stands place ∙ e)

-- into the directories `d` and `s`, and to their files
into_d : (linking : Linking) (parts : List Name)
    → steps (tree_with d_nodes) linking false [] (codes "d" ∷ parts) ≡ steps (tree_with d_nodes) linking false (codes "d" ∷ []) parts
into_d linking parts =
    step_down (tree_with d_nodes) linking [] (codes "d") parts directory 0 2 (λ target e. cc)
    (is_folder [] 0 1 refl) refl (stands (codes "d" ∷ []))

into_s : (linking : Linking) (parts : List Name)
    → steps (tree_with d_nodes) linking false (codes "d" ∷ []) (codes "s" ∷ parts) ≡ steps (tree_with d_nodes) linking false (codes "d" ∷ codes "s" ∷ []) parts
into_s linking parts =
    step_down (tree_with d_nodes) linking (codes "d" ∷ []) (codes "s") parts directory 0 6 (λ target e. cc)
    (is_folder (codes "d" ∷ []) 0 2 refl) refl (stands (codes "d" ∷ codes "s" ∷ []))

file_in : (linking : Linking) (folder : NameList) (name : Name) (dev ino : ℕ) (bytes : List ℕ) (number : ℕ) → is_up name ≡ false
    → find name_list_cmp folder d_nodes ≡ Some (record { content = directory; dev = dev; ino = ino })
    → find name_list_cmp (folder ++ name ∷ []) d_nodes ≡ Some (record { content = file bytes 420; dev = 0; ino = number })
    → steps (tree_with d_nodes) linking false folder (name ∷ []) ≡ Some (folder ++ name ∷ [])
file_in linking folder name dev ino bytes number up there e =
    step_down (tree_with d_nodes) linking folder name [] (file bytes 420) 0 number (λ target e. cc)
    (is_folder folder dev ino there) up (stands (folder ++ name ∷ []) ∙ e)

-- what a link on the way does
abbrev links : Linking
links folder target rest = cond (bytes_eq target []) None (followed (tree_with d_nodes) 39 false (start_of folder target) (parts_of target ++ rest))

by_parts : (path : List ℕ) (place : NameList) → bytes_eq path [] ≡ false → parts_of path ≡ place → steps (tree_with d_nodes) links false [] place ≡ Some place
    → reached (tree_with d_nodes) path false ≡ Some place
unfolding reached
by_parts path place some parts leads =
    ap (λ b. cond b None (followed (tree_with d_nodes) 40 false [] (parts_of path))) some ∙ ap (steps (tree_with d_nodes) links false []) parts ∙ leads

to_a : reached (tree_with d_nodes) (codes "/d/a") false ≡ Some (codes "d" ∷ codes "a" ∷ [])
unfolding parts_of
to_a = by_parts (codes "/d/a") (codes "d" ∷ codes "a" ∷ []) refl refl
    (into_d links (codes "a" ∷ []) ∙ file_in links (codes "d" ∷ []) (codes "a") 0 2 (codes "hi") 3 refl refl refl)

to_e : reached (tree_with d_nodes) (codes "/d/e") false ≡ Some (codes "d" ∷ codes "e" ∷ [])
unfolding parts_of
to_e = by_parts (codes "/d/e") (codes "d" ∷ codes "e" ∷ []) refl refl
    (into_d links (codes "e" ∷ []) ∙ file_in links (codes "d" ∷ []) (codes "e") 0 2 [] 4 refl refl refl)

to_b : reached (tree_with d_nodes) (codes "/d/s/b") false ≡ Some (codes "d" ∷ codes "s" ∷ codes "b" ∷ [])
unfolding parts_of
to_b = by_parts (codes "/d/s/b") (codes "d" ∷ codes "s" ∷ codes "b" ∷ []) refl refl
    (into_d links (codes "s" ∷ codes "b" ∷ [])
    ∙ into_s links (codes "b" ∷ [])
    ∙ file_in links (codes "d" ∷ codes "s" ∷ []) (codes "b") 0 6 (codes "hi") 7 refl refl refl)

node_there : (path : List ℕ) (place : NameList) → reached (tree_with d_nodes) path false ≡ Some place
    → node_to (tree_with d_nodes) path false ≡ find name_list_cmp place d_nodes
node_there path place leads = ap (option_and_then (node_at (tree_with d_nodes))) leads ∙ stands place

-- ---- its entries

module _ (globs : List (List ℕ)) where
  abbrev Picked : DirEntry → Type 0
  Picked = IsPicked (tree_with d_nodes) (codes "/d") globs

  pub root_not : ¬ Picked (record { path = codes "/d"; kind = kind.Directory; depth = 0; ino = 0; followed = false })
  root_not picked = let deep = picked.below_top in absurd (omega (arith, deep))

  pub a_picked : FitsAny globs (codes "a") → Picked (record { path = codes "/d/a"; kind = kind.File; depth = 1; ino = 3; followed = false })
  a_picked fits = record {
    below_top = omega arith;
    is_file = refl;
    node = record { content = file (codes "hi") 420; dev = 0; ino = 3 };
    leads = node_there (codes "/d/a") (codes "d" ∷ codes "a" ∷ []) to_a;
    nonempty = omega arith;
    names = codes "a";
    path_is = refl;
    fits = fits;
  }

  -- its path below a root is of its names
  pub picked_path : (root names : List ℕ) (entry : DirEntry) → entry.path ≡ path_below (codes "/d") names
      → (picked : IsPicked (tree_with d_nodes) (codes "/d") globs entry) → path_below root names ≡ path_below root picked.names
  picked_path root names entry e picked = ap (path_below root) (same_below (codes "/d") names picked.names (sym e ∙ picked.path_is))

  -- the file is empty
  pub e_not : ¬ Picked (record { path = codes "/d/e"; kind = kind.File; depth = 1; ino = 4; followed = false })
  e_not picked =
      let same : ◌≡◌ {A = Option Node} (Some (record { content = file [] 420; dev = 0; ino = 4 })) (Some picked.node) =
      sym (node_there (codes "/d/e") (codes "d" ∷ codes "e" ∷ []) to_e) ∙ picked.leads in
      let none = ap (λ (n : Node). len_of n.content) (same_Some _ picked.node same) in
      let some = picked.nonempty in
      absurd (omega (arith, none, some))

  pub l_not : ¬ Picked (record { path = codes "/d/l"; kind = kind.Link; depth = 1; ino = 5; followed = false })
  l_not picked = let is_file = picked.is_file in cc

  pub s_not : ¬ Picked (record { path = codes "/d/s"; kind = kind.Directory; depth = 1; ino = 6; followed = false })
  s_not picked = let is_file = picked.is_file in cc

  pub b_picked : FitsAny globs (codes "s/b") → Picked (record { path = codes "/d/s/b"; kind = kind.File; depth = 2; ino = 7; followed = false })
  b_picked fits = record {
    below_top = omega arith;
    is_file = refl;
    node = record { content = file (codes "hi") 420; dev = 0; ino = 7 };
    leads = node_there (codes "/d/s/b") (codes "d" ∷ codes "s" ∷ codes "b" ∷ []) to_b;
    nonempty = omega arith;
    names = codes "s/b";
    path_is = refl;
    fits = fits;
  }

  pub b_not : ¬ FitsAny globs (codes "s/b") → ¬ Picked (record { path = codes "/d/s/b"; kind = kind.File; depth = 2; ino = 7; followed = false })
  b_not none picked =
      none (subst (λ (names : List ℕ). FitsAny globs names)
      (same_below (codes "/d") picked.names (codes "s/b") (sym picked.path_is)) picked.fits)

-- ---- globs

no_slash : (place : ℕ) → place < 1 → slice_get (codes "a") place ≢ Some 47
no_slash place within e =
    let first : place ≡ 0 = omega (arith, within) in
    let same : 97 ≡ 47 = same_Some 97 47 (subst (λ n. slice_get (codes "a") n ≡ Some 47) first e) in
    omega (arith, same)

pub stars_fit_a : FitsAny (codes "**" ∷ []) (codes "a")
stars_fit_a = fits_one (codes "**") (codes "a") (omega arith, (omega arith, tt)) (omega arith, tt) (1, (omega arith, omega arith), refl)

pub stars_fit_b : FitsAny (codes "**" ∷ []) (codes "s/b")
stars_fit_b =
    fits_one (codes "**") (codes "s/b") (omega arith, (omega arith, tt)) (omega arith, (omega arith, (omega arith, tt))) (3, (omega arith, omega arith), refl)

pub star_fits_a : FitsAny (codes "*" ∷ []) (codes "a")
star_fits_a = fits_one (codes "*") (codes "a") (omega arith, tt) (omega arith, tt) (1, (omega arith, omega arith, λ place from to. no_slash place to), refl)

pub star_not_b : ¬ FitsAny (codes "*" ∷ []) (codes "s/b")
star_not_b any =
    let (mid, (from, to, none), end) = fits_only (codes "*") (codes "s/b") (omega arith, tt) (omega arith, (omega arith, (omega arith, tt))) any in
    none 1 (omega arith) (omega (arith, end)) refl
