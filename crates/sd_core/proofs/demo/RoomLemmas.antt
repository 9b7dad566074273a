-- Each folder of a demo has room for a temporary file.
use Rattle.std.proofs.Common.{◌≡◌, ℕ, false, cond, List, [], ◌∷◌, ◌++◌, map, inl, inr, refl, sym, ap, ◌∙◌, subst, arith}
use Rattle.std.specs.Prelude.{Some, None, find}
use Rattle.std.specs.List.{list_any, range_with_len}
use Rattle.sd_io.specs.Tree.{NameList, directory, file, Tree, node_at}
use Rattle.sd_io.specs.Outcomes.{same_place}
use Rattle.sd_io.specs.Paths.{parent_of}
use Rattle.file_exchange.specs.Reserved.{reserved_name, Free}
use Rattle.many_files.specs.Files.{HasRoom}
use Rattle.sd_core.specs.Selection.{IsChosenBelow}
use Rattle.demo_tree.specs.Demo.{demo_folder, demo_file, demo_files, file_or_folder, demo_content, IsDemo}
use Rattle.demo_tree.proofs.ContentLemmas.{no_file_in, no_folder_in}
use Rattle.demo_tree.proofs.BuildLemmas.{no_node}
use Rattle.sd_core.proofs.demo.StandingLemmas.{StandsSo, stands_so, file_there}

-- a place for a temporary file beside that of a number
beside : ℕ → NameList
beside k = demo_folder k ++ reserved_name 0 ∷ []

first_byte : NameList → ℕ
first_byte (demo ∷ folder ∷ (byte ∷ name) ∷ []) = byte
first_byte _ = 0

beside_free : (n k : ℕ) → demo_content n (beside k) ≡ None
unfolding beside first_byte
beside_free n k = λ i. file_or_folder (files i) (cond (folders i) (Some directory) None)
  where
    files : find (λ found. same_place (demo_folder k ++ reserved_name 0 ∷ []) found.place) (demo_files n) ≡ None
    files = no_file_in (demo_folder k ++ reserved_name 0 ∷ []) 0 n (λ j low lower e. let byte : 46 ≡ 102 = ap first_byte e in absurd (omega arith))

    folders : list_any (same_place (demo_folder k ++ reserved_name 0 ∷ [])) (map demo_folder (range_with_len 0 n)) ≡ false
    folders = no_folder_in (demo_folder k ++ reserved_name 0 ∷ []) 0 n (λ j low lower e. cc)

file_is_one : (n : ℕ) (q : NameList) (bytes : List ℕ) (mode : ℕ) → StandsSo n q (file bytes mode) → (k : ℕ) × (q ≡ (demo_file k).place)
file_is_one n q bytes mode (inl (is, folder)) = cc
file_is_one n q bytes mode (inr (k, low, e, is)) = (k, e)

pub demo_has_room : (n : ℕ) (tree : Tree) (root : List ℕ) (globs : List (List ℕ)) → IsDemo n tree → HasRoom (IsChosenBelow tree root globs) tree
unfolding beside
demo_has_room n tree root globs demo = λ place (top, leads, chosen).
    let (byte, bytes, mode, is) = chosen.is_file in
    let (k, e) = file_is_one n place (byte ∷ bytes) mode (stands_so n place (file (byte ∷ bytes) mode) (sym (demo.holds place)
    ∙ file_there (node_at tree place) (byte ∷ bytes) mode is)) in
    let free : Free tree (demo_folder k) (beside k) = record {
      reserved = (0, omega arith, refl);
      free = no_node (node_at tree (beside k)) (demo.holds (beside k) ∙ beside_free n k);
    } in
    (beside k, subst (λ (q : NameList). Free tree (parent_of q) (beside k)) (sym e) free)
